-- The places of a tree that the words hold: each is marked as used, and there are as many as routes.
use Prim.Native.Nat.{ℕ, suc, ◌≤◌}
use mathlib.Core.Path.{◌≡◌, refl, sym, ap, subst}
use mathlib.Core.List.{List, [], ◌∷◌}
use mathlib.Core.Logic.{inl, inr, ⊎_elim}
use mathlib.Core.Option.{none, some}
use native.Mathlib.Omega.{arith}
use lib.ListN.{length, length-append}
use Rattle.patricia.specs.Tree.{Entry, leaf, node, Root, hung, routes, root_routes}
use Rattle.pool.specs.Layout.{Layout, kind_at, next_at, mark_at, left_at, right_at}
use Rattle.pool.specs.Holds.{Seat, Seated, bare, bare_root, bare_entries, chain_places, route_places, inner_places, Chain, Holds}
use Rattle.pool.specs.Means.{Among, routes_used}
use Rattle.pool.proofs.Frame.{append_among}

-- ---- how many places a tree has

module _ {P : Type 0} where
  chain_count : (a : ℕ) (es : List (Entry (Seat P))) → length (chain_places es) ≡ length (hung a (bare_entries es))
  chain_count a [] = refl
  chain_count a (e ∷ es) = ap suc (chain_count a es)

  tree_count : (t : Seated P) → length (route_places t) ≡ length (routes (bare t))
  tree_count (leaf a es) = chain_count a es
  tree_count (node j b l r) =
      omega (arith, tree_count l, tree_count r, length-append (route_places l) (route_places r), length-append (routes (bare l)) (routes (bare r)))

  pub route_count : (t : Root ℕ (Seat P)) → length (routes_used t) ≡ length (root_routes (bare_root t))
  route_count none = refl
  route_count (some t) = tree_count t

module _ {P : Type 0} (L : Layout P) where
  -- ---- what stands in a place of the tree is used

  chain_used : (c : ℕ) (ws : List ℕ) (a link : ℕ) (es : List (Entry (Seat P))) → Chain L c ws a link es → (i : ℕ) → Among i (chain_places es) → 1 ≤ kind_at L ws i
  chain_used c ws a link [] h i x = elim x [ ]
  chain_used c ws a link (e ∷ es) h i (inl p) = subst (λ (n : ℕ). 1 ≤ kind_at L ws n) (sym p) h.1.used
  chain_used c ws a link (e ∷ es) h i (inr k) = chain_used c ws a (next_at L ws e.payload.place) es h.2 i k

  pub route_used : (c : ℕ) (ws : List ℕ) (link : ℕ) (t : Seated P) → Holds L c ws link t → (i : ℕ) → Among i (route_places t) → 1 ≤ kind_at L ws i
  route_used c ws link (leaf a []) h i k = absurd k
  route_used c ws link (leaf a (e ∷ es)) h i k = chain_used c ws a link (e ∷ es) h i k
  route_used c ws link (node j b l r) h i k =
      ⊎_elim (route_used c ws (left_at L c ws j) l h.3 i) (route_used c ws (right_at L c ws j) r h.4 i) (append_among i (route_places l) (route_places r) k)

  pub inner_used : (c : ℕ) (ws : List ℕ) (link : ℕ) (t : Seated P) → Holds L c ws link t → (i : ℕ) → Among i (inner_places t) → 1 ≤ mark_at L c ws i
  inner_used c ws link (leaf a es) h i k = absurd k
  inner_used c ws link (node j b l r) h i (inl e) = subst (λ (n : ℕ). 1 ≤ mark_at L c ws n) (sym e) (omega (arith, h.2))
  inner_used c ws link (node j b l r) h i (inr k) =
      ⊎_elim (inner_used c ws (left_at L c ws j) l h.3 i) (inner_used c ws (right_at L c ws j) r h.4 i) (append_among i (inner_places l) (inner_places r) k)
