-- Words that agree hold the same: what a tree, a list of changes and a meaning look at.
use Prim.Native.Nat.{ℕ, ◌≤◌, ◌<◌}
use mathlib.Core.Path.{◌≡◌, refl, sym, subst, ◌∙◌}
use mathlib.Core.List.{List, [], ◌∷◌, ◌++◌}
use mathlib.Core.Logic.{◌⊎◌, inl, inr}
use Rattle.patricia.specs.Tree.{Entry, leaf, node}
use Rattle.pool.specs.Layout.{Layout, kind_at, held_prefix, held_payload, next_at, mark_at, left_at, right_at}
use Rattle.pool.specs.Holds.{Seat, Seated, InPlace, Chain, Holds, chain_places, route_places, inner_places}
use Rattle.pool.specs.Means.{Among}

pub among_append : (i : ℕ) (xs ys : List ℕ) → Among i xs ⊎ Among i ys → Among i (xs ++ ys)
among_append i [] ys (inl h) = absurd h
among_append i [] ys (inr h) = h
among_append i (x ∷ xs) ys (inl (inl e)) = inl e
among_append i (x ∷ xs) ys (inl (inr h)) = inr (among_append i xs ys (inl h))
among_append i (x ∷ xs) ys (inr h) = inr (among_append i xs ys (inr h))

pub append_among : (i : ℕ) (xs ys : List ℕ) → Among i (xs ++ ys) → Among i xs ⊎ Among i ys
append_among i [] ys h = inr h
append_among i (x ∷ xs) ys (inl e) = inl (inl e)
append_among i (x ∷ xs) ys (inr h) = go (append_among i xs ys h)
  where
    go : Among i xs ⊎ Among i ys → Among i (x ∷ xs) ⊎ Among i ys
    go (inl k) = inl (inr k)
    go (inr k) = inr k

module _ {P : Type 0} (L : Layout P) where
  -- what is read in a route place agrees
  pub record RouteSame (ws zs : List ℕ) (i : ℕ) : Type 0 where
    pub kind : kind_at L ws i ≡ kind_at L zs i
    pub known : L.Known ws (L.seat i) → L.Known zs (L.seat i)
    pub payload : held_payload L ws i ≡ held_payload L zs i
    pub address : (held_prefix L ws i).address ≡ (held_prefix L zs i).address
    pub length : (held_prefix L ws i).length ≡ (held_prefix L zs i).length
    pub next : next_at L ws i ≡ next_at L zs i

  -- and in an inner place
  pub record InnerSame (c : ℕ) (ws zs : List ℕ) (j : ℕ) : Type 0 where
    pub mark : mark_at L c ws j ≡ mark_at L c zs j
    pub left : left_at L c ws j ≡ left_at L c zs j
    pub right : right_at L c ws j ≡ right_at L c zs j

module _ {P : Type 0} (L : Layout P) (c : ℕ) (ws zs : List ℕ) where
  in_place_frame : (a : ℕ) (e : Entry (Seat P)) → RouteSame L ws zs e.payload.place → InPlace L c ws a e → InPlace L c zs a e
  in_place_frame a e s i = record {
    in_pool = i.in_pool;
    used = subst (λ (n : ℕ). 1 ≤ n) s.kind i.used;
    known = s.known i.known;
    held_there = sym s.payload ∙ i.held_there;
    address_there = sym s.address ∙ i.address_there;
    length_there = sym s.length ∙ i.length_there;
  }

  pub chain_frame : (a link : ℕ) (es : List (Entry (Seat P))) → ((i : ℕ) → Among i (chain_places es) → RouteSame L ws zs i) → Chain L c ws a link es → Chain L c zs a link es
  chain_frame a link [] f h = h
  chain_frame a link (e ∷ es) f h =
      let s = f e.payload.place (inl refl) in
      (h.0, in_place_frame a e s h.1, subst (λ (n : ℕ). Chain L c zs a n es) s.next (chain_frame a (next_at L ws e.payload.place) es (λ i k. f i (inr k)) h.2))

  pub holds_frame : (link : ℕ) (t : Seated P) → ((i : ℕ) → Among i (route_places t) → RouteSame L ws zs i) → ((j : ℕ) → Among j (inner_places t) → InnerSame L c ws zs j)
      → Holds L c ws link t → Holds L c zs link t
  holds_frame link (leaf a []) f g h = h
  holds_frame link (leaf a (e ∷ es)) f g h = chain_frame a link (e ∷ es) f h
  holds_frame link (node j b l r) f g h =
      let s = g j (inl refl) in
      let x = holds_frame (left_at L c ws j) l (λ i k. f i (among_append i (route_places l) (route_places r) (inl k)))
      (λ i k. g i (inr (among_append i (inner_places l) (inner_places r) (inl k)))) h.3 in
      let y = holds_frame (right_at L c ws j) r (λ i k. f i (among_append i (route_places l) (route_places r) (inr k)))
      (λ i k. g i (inr (among_append i (inner_places l) (inner_places r) (inr k)))) h.4 in
      (h.0, h.1, sym s.mark ∙ h.2, subst (λ (n : ℕ). Holds L c zs n l) s.left x, subst (λ (n : ℕ). Holds L c zs n r) s.right y)

  -- ---- the places of a tree are in the pool

  chain_in_pool : (a link : ℕ) (es : List (Entry (Seat P))) → Chain L c ws a link es → (i : ℕ) → Among i (chain_places es) → i < c
  chain_in_pool a link [] h i x = elim x [ ]
  chain_in_pool a link (e ∷ es) h i (inl p) = subst (λ (n : ℕ). n < c) (sym p) h.1.in_pool
  chain_in_pool a link (e ∷ es) h i (inr k) = chain_in_pool a (next_at L ws e.payload.place) es h.2 i k

  pub routes_in_pool : (link : ℕ) (t : Seated P) → Holds L c ws link t → (i : ℕ) → Among i (route_places t) → i < c
  routes_in_pool link (leaf a []) h i k = absurd k
  routes_in_pool link (leaf a (e ∷ es)) h i k = chain_in_pool a link (e ∷ es) h i k
  routes_in_pool link (node j b l r) h i k = go (append_among i (route_places l) (route_places r) k) (routes_in_pool (left_at L c ws j) l h.3 i) (routes_in_pool (right_at L c ws j) r h.4 i)
    where
      go : Among i (route_places l) ⊎ Among i (route_places r) → (Among i (route_places l) → i < c) → (Among i (route_places r) → i < c) → i < c
      go (inl a) f g = f a
      go (inr a) f g = g a

  pub inners_in_pool : (link : ℕ) (t : Seated P) → Holds L c ws link t → (i : ℕ) → Among i (inner_places t) → i < c
  inners_in_pool link (leaf a es) h i k = absurd k
  inners_in_pool link (node j b l r) h i (inl e) = subst (λ (n : ℕ). n < c) (sym e) h.1
  inners_in_pool link (node j b l r) h i (inr k) = go (append_among i (inner_places l) (inner_places r) k) (inners_in_pool (left_at L c ws j) l h.3 i) (inners_in_pool (right_at L c ws j) r h.4 i)
    where
      go : Among i (inner_places l) ⊎ Among i (inner_places r) → (Among i (inner_places l) → i < c) → (Among i (inner_places r) → i < c) → i < c
      go (inl a) f g = f a
      go (inr a) f g = g a
