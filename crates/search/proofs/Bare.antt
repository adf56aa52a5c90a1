-- A tree without its places: the way to a part of it, and what does not look at the places.
use Prim.Native.Nat.{ℕ, suc, ◌+◌}
use mathlib.Core.Path.{◌≡◌, refl, ap, ◌∙◌}
use mathlib.Core.List.{List, [], ◌∷◌}
use mathlib.Core.Logic.{⊎_elim}
use native.Mathlib.Omega.{arith}
use lib.ListN.{length}
use Rattle.patricia.specs.Tree.{Entry, Tree, leaf, node}
use Rattle.patricia.specs.Obeys.{Shorter, LongestFirst, Grows}
use Rattle.patricia.specs.Way.{depth, Step, went_left, went_right, plug, Follows}
use Rattle.patricia.proofs.Form.{side}
use Rattle.pool.specs.Holds.{Seat, Seated, bare, bare_entries}
use Rattle.search.specs.Seen.{Starts}

-- the depth of the part and the steps to it make the depth of the whole
pub depth_plug : {N P : Type 0} (W d : ℕ) (w : List (Step N P)) (t : Tree N P) → Follows W d w → depth W d (plug w t) ≡ length w + depth W d t
depth_plug W d [] t f = omega arith
depth_plug W d (went_left n b r ∷ w) t (z, f) = depth_plug W d w (node n b t r) f ∙ rw z (omega arith)
depth_plug W d (went_right n b l ∷ w) t (o, f) = depth_plug W d w (node n b l t) f ∙ rw o (omega arith)

module _ {P : Type 0} where
  abbrev pub bare_way : List (Step ℕ (Seat P)) → List (Step ℕ P)
  bare_way [] = []
  bare_way (went_left n b r ∷ w) = went_left n b (bare r) ∷ bare_way w
  bare_way (went_right n b l ∷ w) = went_right n b (bare l) ∷ bare_way w

  pub bare_plug : (w : List (Step ℕ (Seat P))) (t : Seated P) → bare (plug w t) ≡ plug (bare_way w) (bare t)
  bare_plug [] t = refl
  bare_plug (went_left n b r ∷ w) t = bare_plug w (node n b t r)
  bare_plug (went_right n b l ∷ w) t = bare_plug w (node n b l t)

  pub bare_follows : (W d : ℕ) (w : List (Step ℕ (Seat P))) → Follows W d w → Follows W d (bare_way w)
  bare_follows W d [] f = f
  bare_follows W d (went_left n b r ∷ w) f = (f.0, bare_follows W d w f.1)
  bare_follows W d (went_right n b l ∷ w) f = (f.0, bare_follows W d w f.1)

  -- the lengths fall in the pool as without it
  pub bare_shorter : (n : ℕ) (es : List (Entry (Seat P))) → Shorter n (bare_entries es) → Shorter n es
  bare_shorter n [] s = s
  bare_shorter n (e ∷ es) s = (s.0, bare_shorter n es s.1)

  pub bare_longest : (es : List (Entry (Seat P))) → LongestFirst (bare_entries es) → LongestFirst es
  bare_longest [] s = s
  bare_longest (e ∷ es) s = (bare_shorter e.length es s.0, bare_longest es s.1)

  -- below a node that tests bit b, later bits are tested
  pub bare_grows : (b : ℕ) (t : Seated P) → Grows b (bare t) → Starts (b + 1) t
  bare_grows b (leaf a es) g = tt
  bare_grows b (node j e l r) g = omega arith

  pub bare_depth : (W d : ℕ) (t : Seated P) → depth W d (bare t) ≡ depth W d t
  bare_depth W d (leaf a es) = refl
  bare_depth W d (node j b l r) = ⊎_elim (λ z. rw z (ap suc (bare_depth W d l))) (λ o. rw o (ap suc (bare_depth W d r))) (side W b d)
