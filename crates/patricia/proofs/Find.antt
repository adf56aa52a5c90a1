-- Exact search by the tree: the bits of a prefix's address lead to the one leaf that can hold it.
use Prim.Native.Nat.{ℕ}
use mathlib.Core.Path.{subst, ◌≡◌, refl, sym, ap, ◌∙◌}
use mathlib.Core.Bool.{cond}
use mathlib.Core.List.{List, [], ◌∷◌}
use mathlib.Core.Logic.{⊎_elim, inl, inr}
use mathlib.Core.Option.{Option, none, some}
use native.Mathlib.Omega.{arith}
use borrow.Author.Tests.{eqb-true, eqb-false, eq-eqb}
use lib.Dec.{eqb}
use Rattle.bits.specs.Address.{bit}
use Rattle.model.specs.Prefix.{Prefix, same}
use Rattle.model.specs.Routes.{Route, find}
use Rattle.model.proofs.Tests.{passed_or_not}
use Rattle.model.proofs.Append.{find_left, find_right}
use Rattle.patricia.specs.Good.{Joint, Good}
use Rattle.patricia.specs.Tree.{Entry, Tree, leaf, node, route_of, hung, routes, Under}
use Rattle.patricia.specs.Obeys.{LeafObeys}
use Rattle.patricia.specs.Way.{toward, reached}
use Rattle.patricia.proofs.Form.{side, joint_left, joint_right, not_under}

module _ {P : Type 0} where
  -- the route of a leaf that has this length
  abbrev pub find_length : ℕ → ℕ → List (Entry P) → Option (Route P)
  find_length a n [] = none
  find_length a n (e ∷ es) = cond (eqb n e.length) (some (route_of a e)) (find_length a n es)

  -- is the route of the leaf that has this prefix
  find_hung : (p : Prefix) (a : ℕ) (es : List (Entry P)) → p.address ≡ a → find_length a p.length es ≡ find p (hung a es)
  unfolding same
  find_hung p a [] h = refl
  find_hung p a (e ∷ es) h =
      rw (eq-eqb p.address a h) (ap (λ (o : Option (Route P)). cond (eqb p.length e.length) (some (route_of a e)) o) (find_hung p a es h))

module _ {N P : Type 0} where
  -- the routes of the leaf that x's bits lead to
  abbrev pub entries_at : ℕ → ℕ → Tree N P → List (Entry P)
  entries_at W x (leaf a es) = es
  entries_at W x (node n b l r) = toward (bit W b x) (entries_at W x l) (entries_at W x r)

  -- exact search: the leaf that the prefix's address leads to is looked through
  abbrev pub find_in : ℕ → Prefix → Tree N P → Option (Route P)
  find_in W p (leaf a es) = cond (eqb a p.address) (find_length a p.length es) none
  find_in W p (node n b l r) = toward (bit W b p.address) (find_in W p l) (find_in W p r)

  -- ---- the leaf that is reached

  -- it is a leaf of the tree
  pub reached_under : (W x : ℕ) (t : Tree N P) → Under (reached W x t) t
  reached_under W x (leaf a es) = refl
  reached_under W x (node n b l r) =
      let Here = λ (q : ℕ). Under (toward q (reached W x l) (reached W x r)) (node n b l r) in
      ⊎_elim
      (λ z. subst Here (sym z) (inl (reached_under W x l)))
      (λ o. subst Here (sym o) (inr (reached_under W x r)))
      (side W b x)

  -- and as good as any
  pub reached_good : (W x : ℕ) (t : Tree N P) → Good W t → LeafObeys W (reached W x t) (entries_at W x t)
  reached_good W x (leaf a es) g = g
  reached_good W x (node n b l r) (j, g, h) = ⊎_elim (λ z. rw z (reached_good W x l g)) (λ o. rw o (reached_good W x r h)) (side W b x)

  -- an address under a node with a 0 at the tested bit is on the left
  pub under_left : (W b : ℕ) (n : N) (l r : Tree N P) → Joint W b l r → (x : ℕ) → bit W b x ≡ 0 → Under x (node n b l r) → Under x l
  under_left W b n l r j x z (inl u) = u
  under_left W b n l r j x z (inr u) = absurd (omega (arith, (joint_right W b l r j x u).1))

  -- and one with a 1 on the right
  pub under_right : (W b : ℕ) (n : N) (l r : Tree N P) → Joint W b l r → (x : ℕ) → bit W b x ≡ 1 → Under x (node n b l r) → Under x r
  under_right W b n l r j x z (inl u) = absurd (omega (arith, (joint_left W b l r j x u).1))
  under_right W b n l r j x z (inr u) = u

  -- so it is reached by its own bits
  pub under_reached : (W x : ℕ) (t : Tree N P) → Good W t → Under x t → reached W x t ≡ x
  under_reached W x (leaf a es) g u = sym u
  under_reached W x (node n b l r) (j, g, h) u =
      ⊎_elim (λ z. rw z (under_reached W x l g (under_left W b n l r j x z u))) (λ o. rw o (under_reached W x r h (under_right W b n l r j x o u))) (side W b x)

  -- ---- exact search

  -- a prefix with a 0 at the tested bit is not on the right
  pub absent_right : (W b : ℕ) (l r : Tree N P) → Joint W b l r → (p : Prefix) → bit W b p.address ≡ 0 → find p (routes r) ≡ none
  absent_right W b l r j p z = not_under p r (λ u. omega (arith, (joint_right W b l r j p.address u).1))

  -- and one with a 1 is not on the left
  pub absent_left : (W b : ℕ) (l r : Tree N P) → Joint W b l r → (p : Prefix) → bit W b p.address ≡ 1 → find p (routes l) ≡ none
  absent_left W b l r j p o = not_under p l (λ u. omega (arith, (joint_left W b l r j p.address u).1))

  -- exact search finds the route of this prefix
  pub find_in_lem : (W : ℕ) (p : Prefix) (t : Tree N P) → Good W t → find_in W p t ≡ find p (routes t)
  find_in_lem W p (leaf a es) g =
      ⊎_elim (λ t. rw t (find_hung p a es (sym (eqb-true a p.address t)))) (λ t. rw t (sym (not_under {N = N} p (leaf a es) (λ u. eqb-false a p.address t (sym u)))))
      (passed_or_not (eqb a p.address))
  find_in_lem W p (node n b l r) (j, g, h) =
      ⊎_elim (λ z. rw z (find_in_lem W p l g ∙ sym (find_left p (routes l) (routes r) (absent_right W b l r j p z))))
      (λ o. rw o (find_in_lem W p r h ∙ sym (find_right p (routes l) (routes r) (absent_left W b l r j p o)))) (side W b p.address)

  -- no other leaf than the one that is reached can hold the prefix
  pub find_reached : (W : ℕ) (p : Prefix) (t : Tree N P) → Good W t → find p (routes t) ≡ find p (hung (reached W p.address t) (entries_at W p.address t))
  find_reached W p (leaf a es) g = refl
  find_reached W p (node n b l r) (j, g, h) =
      ⊎_elim (λ z. rw z (find_left p (routes l) (routes r) (absent_right W b l r j p z) ∙ find_reached W p l g))
      (λ o. rw o (find_right p (routes l) (routes r) (absent_left W b l r j p o) ∙ find_reached W p r h)) (side W b p.address)
