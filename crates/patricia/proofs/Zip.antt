-- A tree as a part and the way to it: what goes by an address's bits goes down the way and works on the part.
use Prim.Native.Nat.{ℕ, ◌+◌, ◌≤◌}
use mathlib.Core.Path.{◌≡◌, refl, ◌∙◌}
use mathlib.Core.List.{List, [], ◌∷◌}
use mathlib.Core.Logic.{⊎_elim}
use mathlib.Core.Option.{Option, none, some}
use native.Mathlib.Omega.{arith}
use borrow.Author.Tests.{le-ltb}
use lib.ListN.{length}
use Rattle.bits.specs.Address.{bit}
use Rattle.model.specs.Prefix.{Prefix}
use Rattle.model.specs.Routes.{Route}
use Rattle.patricia.specs.Good.{Good}
use Rattle.patricia.specs.Tree.{Entry, Tree, leaf, node, Root}
use Rattle.patricia.specs.Way.{toward, depth, Step, went_left, went_right, plug, reached, Follows, NotPast}
use Rattle.patricia.proofs.Form.{side}
use Rattle.patricia.proofs.Search.{or_else, leftmost_match, search}
use Rattle.patricia.proofs.Find.{entries_at, find_in}
use Rattle.patricia.proofs.Change.{change}
use Rattle.patricia.proofs.Hang.{hang, hang_at}
use Rattle.patricia.proofs.Put.{put_at}
use Rattle.patricia.proofs.Take.{rejoin_left, rejoin_right, take_out}
use Rattle.patricia.proofs.Swap.{exchange, swap_at}

module _ {N P : Type 0} where
  -- up the way: where it went right, the leftmost leaf of the left side may match
  abbrev pub climb : ℕ → ℕ → List (Step N P) → Option (Route P) → Option (Route P)
  climb W d [] o = o
  climb W d (went_left n b r ∷ w) o = climb W d w o
  climb W d (went_right n b l ∷ w) o = climb W d w (or_else o (leftmost_match W d l))

  -- the way down by d's bits, the steps on top of those of w
  abbrev pub way_down : ℕ → ℕ → List (Step N P) → Tree N P → List (Step N P)
  way_down W d w (leaf a es) = w
  way_down W d w (node n b l r) = toward (bit W b d) (way_down W d (went_left n b r ∷ w) l) (way_down W d (went_right n b l ∷ w) r)

  -- and the leaf at its end
  abbrev pub end_leaf : ℕ → ℕ → Tree N P → Tree N P
  end_leaf W d (leaf a es) = leaf a es
  end_leaf W d (node n b l r) = toward (bit W b d) (end_leaf W d l) (end_leaf W d r)

  -- what is left of the part put back: where it is gone, the last sibling takes the node's place
  abbrev pub plug_root : List (Step N P) → Root N P → Root N P
  plug_root w (some t) = some (plug w t)
  plug_root [] none = none
  plug_root (went_left n b r ∷ w) none = some (plug w r)
  plug_root (went_right n b l ∷ w) none = some (plug w l)

  -- ---- down to a leaf

  -- the leaf put back makes the tree again
  pub plug_down : (W d : ℕ) (w : List (Step N P)) (t : Tree N P) → plug (way_down W d w t) (end_leaf W d t) ≡ plug w t
  plug_down W d w (leaf a es) = refl
  plug_down W d w (node n b l r) =
      ⊎_elim (λ z. rw z (plug_down W d (went_left n b r ∷ w) l)) (λ o. rw o (plug_down W d (went_right n b l ∷ w) r)) (side W b d)

  -- the way down goes by the bits
  pub down_follows : (W d : ℕ) (w : List (Step N P)) (t : Tree N P) → Follows W d w → Follows W d (way_down W d w t)
  down_follows W d w (leaf a es) f = f
  down_follows W d w (node n b l r) f =
      ⊎_elim (λ z. rw z (down_follows W d (went_left n b r ∷ w) l (z, f))) (λ o. rw o (down_follows W d (went_right n b l ∷ w) r (o, f))) (side W b d)

  -- and has as many steps as inner nodes stand on the path
  pub down_length : (W d : ℕ) (w : List (Step N P)) (t : Tree N P) → length (way_down W d w t) ≡ length w + depth W d t
  down_length W d w (leaf a es) = omega arith
  down_length W d w (node n b l r) =
      ⊎_elim (λ z. rw z (omega (arith, down_length W d (went_left n b r ∷ w) l))) (λ o. rw o (omega (arith, down_length W d (went_right n b l ∷ w) r))) (side W b d)

  -- the leaf at the end is the one that is reached
  pub end_leaf_lem : (W d : ℕ) (t : Tree N P) → end_leaf W d t ≡ leaf (reached W d t) (entries_at W d t)
  end_leaf_lem W d (leaf a es) = refl
  end_leaf_lem W d (node n b l r) = ⊎_elim (λ z. rw z (end_leaf_lem W d l)) (λ o. rw o (end_leaf_lem W d r)) (side W b d)

  -- ---- the part and the way in a good tree

  -- every part of a good tree is good
  pub good_part : (W : ℕ) (w : List (Step N P)) (t : Tree N P) → Good W (plug w t) → Good W t
  good_part W [] t g = g
  good_part W (went_left n b r ∷ w) t g = (good_part W w (node n b t r) g).1
  good_part W (went_right n b l ∷ w) t g = (good_part W w (node n b l t) g).2

  -- the bits grow down the way, so none above a node comes after its own
  pub not_past_lem : (W k : ℕ) (w : List (Step N P)) (n : N) (b : ℕ) (l r : Tree N P) → Good W (plug w (node n b l r)) → b ≤ k → NotPast k w
  not_past_lem W k [] n b l r g h = tt
  not_past_lem W k (went_left m c y ∷ w) n b l r g h =
      let up = (good_part W w (node m c (node n b l r) y) g).0.grows_left in
      (omega arith, not_past_lem W k w m c (node n b l r) y g (omega arith))
  not_past_lem W k (went_right m c x ∷ w) n b l r g h =
      let up = (good_part W w (node m c x (node n b l r)) g).0.grows_right in
      (omega arith, not_past_lem W k w m c x (node n b l r) g (omega arith))

  -- ---- what goes by the bits of an address goes down the way

  -- the search in the whole is the search in the part, and up the way
  pub climb_search : (W d : ℕ) (w : List (Step N P)) (t : Tree N P) → Follows W d w → search W d (plug w t) ≡ climb W d w (search W d t)
  climb_search W d [] t f = refl
  climb_search W d (went_left n b r ∷ w) t (z, f) = climb_search W d w (node n b t r) f ∙ rw z
  climb_search W d (went_right n b l ∷ w) t (o, f) = climb_search W d w (node n b l t) f ∙ rw o

  -- the leaf that is reached is the part's
  pub reached_plug : (W x : ℕ) (w : List (Step N P)) (t : Tree N P) → Follows W x w → reached W x (plug w t) ≡ reached W x t
  reached_plug W x [] t f = refl
  reached_plug W x (went_left n b r ∷ w) t (z, f) = reached_plug W x w (node n b t r) f ∙ rw z
  reached_plug W x (went_right n b l ∷ w) t (o, f) = reached_plug W x w (node n b l t) f ∙ rw o

  -- exact search looks in the part
  pub find_plug : (W : ℕ) (p : Prefix) (w : List (Step N P)) (t : Tree N P) → Follows W p.address w → find_in W p (plug w t) ≡ find_in W p t
  find_plug W p [] t f = refl
  find_plug W p (went_left n b r ∷ w) t (z, f) = find_plug W p w (node n b t r) f ∙ rw z
  find_plug W p (went_right n b l ∷ w) t (o, f) = find_plug W p w (node n b l t) f ∙ rw o

  -- a leaf of the whole is changed in the part
  pub change_plug : (W a : ℕ) (c : List (Entry P) → List (Entry P)) (w : List (Step N P)) (t : Tree N P) → Follows W a w → change W a c (plug w t) ≡ plug w (change W a c t)
  change_plug W a c [] t f = refl
  change_plug W a c (went_left n b r ∷ w) t (z, f) = change_plug W a c w (node n b t r) f ∙ rw z
  change_plug W a c (went_right n b l ∷ w) t (o, f) = change_plug W a c w (node n b l t) f ∙ rw o

  -- so a route is hung in the part
  pub hang_plug : (W a : ℕ) (e : Entry P) (w : List (Step N P)) (t : Tree N P) → Follows W a w → hang_at W a e (plug w t) ≡ plug w (hang_at W a e t)
  hang_plug W a e w t f = change_plug W a (hang e) w t f

  -- and one is swapped there
  pub swap_plug : (W a : ℕ) (e : Entry P) (w : List (Step N P)) (t : Tree N P) → Follows W a w → swap_at W a e (plug w t) ≡ plug w (swap_at W a e t)
  swap_plug W a e w t f = change_plug W a (exchange e) w t f

  -- a new address goes into the part where no bit on the way comes after k
  pub put_plug : (W k : ℕ) (n : N) (a : ℕ) (e : Entry P) (w : List (Step N P)) (t : Tree N P) → Follows W a w → NotPast k w
      → put_at W k n a e (plug w t) ≡ plug w (put_at W k n a e t)
  put_plug W k n a e [] t f h = refl
  put_plug W k n a e (went_left m b r ∷ w) t (z, f) (h, i) = put_plug W k n a e w (node m b t r) f i ∙ rw (le-ltb k b h, z)
  put_plug W k n a e (went_right m b l ∷ w) t (o, f) (h, i) = put_plug W k n a e w (node m b l t) f i ∙ rw (le-ltb k b h, o)

  -- a route is taken out of the part, and where nothing of it is left the way closes up
  pub take_plug : (W : ℕ) (p : Prefix) (w : List (Step N P)) (t : Tree N P) → Follows W p.address w → take_out W p (plug w t) ≡ plug_root w (take_out W p t)
  take_plug W p [] t f = go (take_out W p t)
    where
      go : (o : Root N P) → o ≡ plug_root [] o
      go none = refl
      go (some s) = refl
  take_plug W p (went_left n b r ∷ w) t (z, f) = take_plug W p w (node n b t r) f ∙ rw z (go (take_out W p t))
    where
      go : (o : Root N P) → plug_root w (rejoin_left n b o r) ≡ plug_root (went_left n b r ∷ w) o
      go none = refl
      go (some s) = refl
  take_plug W p (went_right n b l ∷ w) t (o, f) = take_plug W p w (node n b l t) f ∙ rw o (go (take_out W p t))
    where
      go : (o : Root N P) → plug_root w (rejoin_right n b l o) ≡ plug_root (went_right n b l ∷ w) o
      go none = refl
      go (some s) = refl
