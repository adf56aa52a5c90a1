-- A route taken out: a leaf with no route left goes, and the sibling takes the place of the node above it.
use Prim.Native.Nat.{ℕ, suc, ◌+◌, ◌*◌, ◌<◌}
use mathlib.Core.Path.{◌≡◌, refl, sym, ap, ◌∙◌}
use mathlib.Core.Bool.{cond}
use mathlib.Core.List.{List, [], ◌∷◌, ◌++◌, append-nil}
use mathlib.Core.Logic.{⊎_elim}
use mathlib.Core.Option.{none, some}
use native.Mathlib.Omega.{arith}
use borrow.Author.Tests.{eq-eqb}
use lib.Dec.{eqb}
use Rattle.bits.specs.Address.{first, bit}
use Rattle.model.specs.Prefix.{Prefix, same}
use Rattle.model.specs.Routes.{Route, find, remove}
use Rattle.model.proofs.Tests.{passed_or_not}
use Rattle.model.proofs.Routes.{find_after}
use Rattle.model.proofs.Append.{find_before, remove_left, remove_right}
use Rattle.patricia.specs.Good.{All, Good, RootGood}
use Rattle.patricia.specs.Tree.{Entry, Tree, leaf, node, Root, route_of, hung, routes, root_routes, Under}
use Rattle.patricia.specs.Obeys.{Shorter, LongestFirst, AllWellFormed, Grows}
use Rattle.patricia.specs.Way.{toward}
use Rattle.patricia.proofs.Form.{side, with_left, with_right, found_under}
use Rattle.patricia.proofs.Find.{under_left, under_right}
use Rattle.patricia.proofs.Change.{Local, local_left, local_right, first_left, first_right}

module _ {P : Type 0} where
  -- the routes of a leaf without the one of this length
  abbrev pub unhang : ℕ → List (Entry P) → List (Entry P)
  unhang n [] = []
  unhang n (e ∷ es) = cond (eqb n e.length) es (e ∷ unhang n es)

  -- ---- what is left of a leaf is good

  -- shorter routes stay shorter
  unhang_shorter : (m n : ℕ) (es : List (Entry P)) → Shorter n es → Shorter n (unhang m es)
  unhang_shorter m n [] s = tt
  unhang_shorter m n (e ∷ es) s = ⊎_elim (λ t. rw t s.1) (λ t. rw t (s.0, unhang_shorter m n es s.1)) (passed_or_not (eqb m e.length))

  -- they stay longest first
  unhang_longest : (n : ℕ) (es : List (Entry P)) → LongestFirst es → LongestFirst (unhang n es)
  unhang_longest n [] f = tt
  unhang_longest n (e ∷ es) f =
      ⊎_elim (λ t. rw t f.1) (λ t. rw t (unhang_shorter n e.length es f.0, unhang_longest n es f.1)) (passed_or_not (eqb n e.length))

  -- and well formed
  unhang_formed : (W a n : ℕ) (es : List (Entry P)) → AllWellFormed W a es → AllWellFormed W a (unhang n es)
  unhang_formed W a n [] f = tt
  unhang_formed W a n (e ∷ es) f = ⊎_elim (λ t. rw t f.1) (λ t. rw t (f.0, unhang_formed W a n es f.1)) (passed_or_not (eqb n e.length))

  -- the routes of the leaf are those without this prefix
  unhang_hung : (p : Prefix) (a : ℕ) (es : List (Entry P)) → p.address ≡ a → hung a (unhang p.length es) ≡ remove p (hung a es)
  unfolding same
  unhang_hung p a [] h = refl
  unhang_hung p a (e ∷ es) h =
      rw (eq-eqb p.address a h)
      (⊎_elim (λ t. rw t) (λ t. rw t (ap (λ (l : List (Route P)). route_of a e ∷ l) (unhang_hung p a es h))) (passed_or_not (eqb p.length e.length)))

  -- remove goes to the side that it concerns
  remove_local : (p : Prefix) → Local {P = P} p (remove p)
  remove_local p = record {
    at_left = λ l m a. remove_left p l m (find_after p m a);
    at_right = λ l m a. remove_right p l m (find_before p l a);
  }

module _ {N P : Type 0} where
  -- a leaf that has no route left is gone
  abbrev pub leaf_of : ℕ → List (Entry P) → Root N P
  leaf_of a [] = none
  leaf_of a (e ∷ es) = some (leaf a (e ∷ es))

  -- where a side is gone its sibling takes the node's place
  abbrev pub rejoin_left : N → ℕ → Root N P → Tree N P → Root N P
  rejoin_left n b none r = some r
  rejoin_left n b (some l) r = some (node n b l r)

  -- the same on the right
  abbrev pub rejoin_right : N → ℕ → Tree N P → Root N P → Root N P
  rejoin_right n b l none = some l
  rejoin_right n b l (some r) = some (node n b l r)

  -- the route of this prefix taken out of the leaf that its address leads to
  abbrev pub take_out : ℕ → Prefix → Tree N P → Root N P
  take_out W p (leaf a es) = leaf_of a (unhang p.length es)
  take_out W p (node n b l r) = toward (bit W b p.address) (rejoin_left n b (take_out W p l) r) (rejoin_right n b l (take_out W p r))

  -- ---- what is left of a tree: its addresses, its bits, its form

  -- of every address that is left, if any
  abbrev RootAll : (ℕ → Type 0) → Root N P → Type 0
  RootAll Q none = Unit {0}
  RootAll Q (some t) = All Q t

  -- of the first bit that is left, if any
  abbrev RootGrows : ℕ → Root N P → Type 0
  RootGrows b none = Unit {0}
  RootGrows b (some t) = Grows b t

  module _ (W : ℕ) (p : Prefix) where
    -- no address comes in
    take_all : (Q : ℕ → Type 0) (t : Tree N P) → All Q t → RootAll Q (take_out W p t)
    take_all Q (leaf a es) h = go (unhang p.length es)
      where
        go : (fs : List (Entry P)) → RootAll Q (leaf_of a fs)
        go [] = tt
        go (f ∷ fs) = h
    take_all Q (node n b l r) (h, k) =
        ⊎_elim (λ z. rw z (left (take_out W p l) (take_all Q l h))) (λ o. rw o (right (take_out W p r) (take_all Q r k))) (side W b p.address)
      where
        left : (o : Root N P) → RootAll Q o → RootAll Q (rejoin_left n b o r)
        left none x = k
        left (some s) x = (x, k)

        right : (o : Root N P) → RootAll Q o → RootAll Q (rejoin_right n b l o)
        right none x = h
        right (some s) x = (h, x)

    -- the sibling that takes a node's place tests a later bit than the node did
    grows_on : (b c : ℕ) (t : Tree N P) → b < c → Grows c t → Grows b t
    grows_on b c (leaf a es) h g = tt
    grows_on b c (node n d l r) h g = omega arith

    -- so the bits still grow
    take_grows : (c : ℕ) (t : Tree N P) → Good W t → Grows c t → RootGrows c (take_out W p t)
    take_grows c (leaf a es) g h = go (unhang p.length es)
      where
        go : (fs : List (Entry P)) → RootGrows c (leaf_of a fs)
        go [] = tt
        go (f ∷ fs) = tt
    take_grows c (node n b l r) (j, g, h) k = ⊎_elim (λ z. rw z (left (take_out W p l))) (λ o. rw o (right (take_out W p r))) (side W b p.address)
      where
        left : (o : Root N P) → RootGrows c (rejoin_left n b o r)
        left none = grows_on c b r k j.grows_right
        left (some s) = k

        right : (o : Root N P) → RootGrows c (rejoin_right n b l o)
        right none = grows_on c b l k j.grows_left
        right (some s) = k

    -- a tree that a route is taken out of stays good
    pub take_good : (t : Tree N P) → Good W t → RootGood W (take_out W p t)
    take_good (leaf a es) g =
        go (unhang p.length es) (unhang_formed W a p.length es g.well_formed_here) (unhang_longest p.length es g.longest_first)
      where
        go : (fs : List (Entry P)) → AllWellFormed W a fs → LongestFirst fs → RootGood W (leaf_of a fs)
        go [] u v = tt
        go (f ∷ fs) u v = record { has_route = omega arith; well_formed_here = u; longest_first = v }
    take_good (node n b l r) (j, g, h) =
        ⊎_elim (λ z. rw z (left (take_out W p l) (take_all _ l j.left) (take_grows b l g j.grows_left) (take_good l g)))
        (λ o. rw o (right (take_out W p r) (take_all _ r j.right) (take_grows b r h j.grows_right) (take_good r h))) (side W b p.address)
      where
        left : (o : Root N P) → RootAll (λ x. first W (suc b) x ≡ 2 * j.value) o → RootGrows b o → RootGood W o → RootGood W (rejoin_left n b o r)
        left none u v w = h
        left (some s) u v w = (with_left W b l r s j u v, w, h)

        right : (o : Root N P) → RootAll (λ x. first W (suc b) x ≡ 2 * j.value + 1) o → RootGrows b o → RootGood W o → RootGood W (rejoin_right n b l o)
        right none u v w = g
        right (some s) u v w = (with_right W b l r s j u v, g, w)

    -- ---- its routes

    -- where the address is under the tree, the routes that are left are the others
    take_under : (t : Tree N P) → Good W t → Under p.address t → root_routes (take_out W p t) ≡ remove p (routes t)
    take_under (leaf a es) g u = go (unhang p.length es) ∙ unhang_hung p a es u
      where
        go : (fs : List (Entry P)) → root_routes {N = N} (leaf_of a fs) ≡ hung a fs
        go [] = refl
        go (f ∷ fs) = refl
    take_under (node n b l r) (j, g, h) u =
        let x = p.address in
        let out = remove_local p in
        ⊎_elim (λ z. rw z (left (take_out W p l)
        ∙ local_left p (remove p) out W b l r j _ (first_left W b n l r j x u z) (take_under l g (under_left W b n l r j x z u))))
        (λ o. rw o (right (take_out W p r)
        ∙ local_right p (remove p) out W b l r j _ (first_right W b n l r j x u o) (take_under r h (under_right W b n l r j x o u))))
        (side W b x)
      where
        left : (o : Root N P) → root_routes (rejoin_left n b o r) ≡ root_routes o ++ routes r
        left none = refl
        left (some s) = refl

        right : (o : Root N P) → root_routes (rejoin_right n b l o) ≡ routes l ++ root_routes o
        right none = sym (append-nil (routes l))
        right (some s) = refl

    -- so they are where the prefix is found
    pub take_routes : (q : Route P) (t : Tree N P) → Good W t → find p (routes t) ≡ some q → root_routes (take_out W p t) ≡ remove p (routes t)
    take_routes q t g e = take_under t g (found_under p q t e)
