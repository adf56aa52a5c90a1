-- No place stands twice in a tree that obeys: a route place has one prefix, and an inner place one part of the tree.
use Prim.Native.Nat.{ℕ, suc, ◌<◌}
use mathlib.Core.Path.{◌≡◌, refl, sym, ap, subst, ◌∙◌}
use mathlib.Core.List.{List, [], ◌∷◌, ◌++◌}
use mathlib.Core.Logic.{◌⊎◌, inl, inr, ⊎_elim}
use native.Mathlib.Omega.{arith}
use Rattle.patricia.specs.Good.{Good, Joint}
use Rattle.patricia.specs.Tree.{Entry, leaf, node, Under}
use Rattle.patricia.specs.Obeys.{Shorter, LongestFirst, Grows}
use Rattle.patricia.proofs.Form.{joint_left, joint_right, lowest, lowest_under}
use Rattle.pool.specs.Layout.{Layout, held_prefix, next_at, mark_at, left_at, right_at}
use Rattle.pool.specs.Link.{to_inner}
use Rattle.pool.specs.Holds.{Seat, Seated, bare_entries, bare, Chain, Holds, chain_places, route_places, inner_places}
use Rattle.pool.specs.Means.{Among}
use Rattle.pool.proofs.Unique.{holds_unique}
use Rattle.pool.proofs.Frame.{append_among}

-- ---- lists with nothing twice

abbrev pub Distinct : List ℕ → Type 0
Distinct [] = Unit {0}
Distinct (x ∷ xs) = (Among x xs → ⊥) × Distinct xs

pub distinct_append : (xs ys : List ℕ) → Distinct xs → Distinct ys → ((i : ℕ) → Among i xs → Among i ys → ⊥) → Distinct (xs ++ ys)
distinct_append [] ys d e f = e
distinct_append (x ∷ xs) ys d e f =
    (λ h. ⊎_elim (λ k. d.0 k) (λ k. f x (inl refl) k) (append_among x xs ys h), distinct_append xs ys d.1 e (λ i h k. f i (inr h) k))

module _ {P : Type 0} (L : Layout P) (c : ℕ) (ws : List ℕ) where
  -- ---- route places

  -- the length in a place of a chain is below what bounds the chain
  chain_shorter : (a link n : ℕ) (es : List (Entry (Seat P))) → Chain L c ws a link es → Shorter n (bare_entries es) → (i : ℕ) → Among i (chain_places es) → (held_prefix L ws i).length < n
  chain_shorter a link n [] h s i o = elim o [ ]
  chain_shorter a link n (e ∷ es) h s i (inl p) = subst (λ (x : ℕ). (held_prefix L ws x).length < n) (sym p) (subst (λ (x : ℕ). x < n) (sym h.1.length_there) s.0)
  chain_shorter a link n (e ∷ es) h s i (inr k) = chain_shorter a (next_at L ws e.payload.place) n es h.2 s.1 i k

  chain_distinct : (a link : ℕ) (es : List (Entry (Seat P))) → Chain L c ws a link es → LongestFirst (bare_entries es) → Distinct (chain_places es)
  chain_distinct a link [] h f = tt
  chain_distinct a link (e ∷ es) h f = (
    λ k. omega (arith, chain_shorter a (next_at L ws e.payload.place) e.length es h.2 f.0 e.payload.place k, h.1.length_there),
    chain_distinct a (next_at L ws e.payload.place) es h.2 f.1,
  )

  chain_address : (a link : ℕ) (es : List (Entry (Seat P))) → Chain L c ws a link es → (i : ℕ) → Among i (chain_places es) → (held_prefix L ws i).address ≡ a
  chain_address a link [] h i x = elim x [ ]
  chain_address a link (e ∷ es) h i (inl p) = ap (λ (x : ℕ). (held_prefix L ws x).address) p ∙ h.1.address_there
  chain_address a link (e ∷ es) h i (inr k) = chain_address a (next_at L ws e.payload.place) es h.2 i k

  -- the address in a place of a tree is under the tree
  pub place_under : (link : ℕ) (t : Seated P) → Holds L c ws link t → (i : ℕ) → Among i (route_places t) → Under (held_prefix L ws i).address (bare t)
  place_under link (leaf a []) h i k = absurd k
  place_under link (leaf a (e ∷ es)) h i k = chain_address a link (e ∷ es) h i k
  place_under link (node j b l r) h i k =
      ⊎_elim (λ u. inl (place_under (left_at L c ws j) l h.3 i u)) (λ u. inr (place_under (right_at L c ws j) r h.4 i u)) (append_among i (route_places l) (route_places r) k)

  -- no address is on both sides of a node
  sides : (b : ℕ) (l r : Seated P) → Joint L.rules.width b (bare l) (bare r) → (x : ℕ) → Under x (bare l) → Under x (bare r) → ⊥
  sides b l r j x u v = omega (arith, (joint_left L.rules.width b (bare l) (bare r) j x u).1, (joint_right L.rules.width b (bare l) (bare r) j x v).1)

  pub routes_distinct : (link : ℕ) (t : Seated P) → Holds L c ws link t → Good L.rules.width (bare t) → Distinct (route_places t)
  routes_distinct link (leaf a []) h g = tt
  routes_distinct link (leaf a (e ∷ es)) h g = chain_distinct a link (e ∷ es) h g.longest_first
  routes_distinct link (node j b l r) h g =
      distinct_append (route_places l) (route_places r) (routes_distinct (left_at L c ws j) l h.3 g.1) (routes_distinct (right_at L c ws j) r h.4 g.2)
      (λ i u v. sides b l r g.0 (held_prefix L ws i).address (place_under (left_at L c ws j) l h.3 i u) (place_under (right_at L c ws j) r h.4 i v))

  -- ---- inner places

  -- at an inner place of a tree stands a part of it
  part_at : (link : ℕ) (t : Seated P) → Holds L c ws link t → (i : ℕ) → Among i (inner_places t)
      → (s : Seated P) × Holds L c ws (to_inner i) s × ((x : ℕ) → Under x (bare s) → Under x (bare t))
  part_at link (leaf a es) h i k = absurd k
  part_at link (node j b l r) h i (inl e) = (node j b l r, subst (λ (n : ℕ). Holds L c ws n (node j b l r)) (h.0 ∙ ap to_inner (sym e)) h, λ x u. u)
  part_at link (node j b l r) h i (inr k) = go (append_among i (inner_places l) (inner_places r) k) (part_at (left_at L c ws j) l h.3 i) (part_at (right_at L c ws j) r h.4 i)
    where
      go : Among i (inner_places l) ⊎ Among i (inner_places r)
          → (Among i (inner_places l) → (s : Seated P) × Holds L c ws (to_inner i) s × ((x : ℕ) → Under x (bare s) → Under x (bare l)))
          → (Among i (inner_places r) → (s : Seated P) × Holds L c ws (to_inner i) s × ((x : ℕ) → Under x (bare s) → Under x (bare r)))
          → (s : Seated P) × Holds L c ws (to_inner i) s × ((x : ℕ) → Under x (bare s) → Under x (bare (node j b l r)))
      go (inl a) f g = let w = f a in (w.0, w.1, λ x u. inl (w.2 x u))
      go (inr a) f g = let w = g a in (w.0, w.1, λ x u. inr (w.2 x u))

  -- the bits of a tree's inner places are past the bit above it
  marks_past : (link d : ℕ) (t : Seated P) → Holds L c ws link t → Good L.rules.width (bare t) → Grows d (bare t) → (i : ℕ) → Among i (inner_places t) → suc d < mark_at L c ws i
  marks_past link d (leaf a es) h g p i k = absurd k
  marks_past link d (node j b l r) h g p i (inl e) = subst (λ (n : ℕ). suc d < mark_at L c ws n) (sym e) (omega (arith, h.2, p))
  marks_past link d (node j b l r) h g p i (inr k) =
      go (append_among i (inner_places l) (inner_places r) k) (marks_past (left_at L c ws j) b l h.3 g.1 g.0.grows_left i)
      (marks_past (right_at L c ws j) b r h.4 g.2 g.0.grows_right i)
    where
      go : Among i (inner_places l) ⊎ Among i (inner_places r) → (Among i (inner_places l) → suc b < mark_at L c ws i) → (Among i (inner_places r) → suc b < mark_at L c ws i)
          → suc d < mark_at L c ws i
      go (inl a) f q = let w = f a in omega arith
      go (inr a) f q = let w = q a in omega arith

  pub inners_distinct : (link : ℕ) (t : Seated P) → Holds L c ws link t → Good L.rules.width (bare t) → Distinct (inner_places t)
  inners_distinct link (leaf a es) h g = tt
  inners_distinct link (node j b l r) h g = (
    λ k. ⊎_elim (λ u. omega (arith, h.2, marks_past (left_at L c ws j) b l h.3 g.1 g.0.grows_left j u))
        (λ u. omega (arith, h.2, marks_past (right_at L c ws j) b r h.4 g.2 g.0.grows_right j u)) (append_among j (inner_places l) (inner_places r) k),
    distinct_append (inner_places l) (inner_places r) (inners_distinct (left_at L c ws j) l h.3 g.1) (inners_distinct (right_at L c ws j) r h.4 g.2)
        (λ i u v. meet i (part_at (left_at L c ws j) l h.3 i u) (part_at (right_at L c ws j) r h.4 i v)),
  )
    where
      meet : (i : ℕ) → ((s : Seated P) × Holds L c ws (to_inner i) s × ((x : ℕ) → Under x (bare s) → Under x (bare l)))
          → ((s : Seated P) × Holds L c ws (to_inner i) s × ((x : ℕ) → Under x (bare s) → Under x (bare r))) → ⊥
      meet i p q =
          let e = holds_unique L c ws (to_inner i) p.0 q.0 p.1 q.1 in
          let x = lowest (bare p.0) in
          sides b l r g.0 x (p.2 x (lowest_under (bare p.0))) (q.2 x (subst (λ (s : Seated P). Under x (bare s)) e (lowest_under (bare p.0))))
