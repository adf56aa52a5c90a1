-- The routes of one address: a chain as its first routes and the rest, and what a write to the cell between them leaves.
use Prim.Native.Nat.{ℕ, ◌+◌, ◌≤◌}
use mathlib.Core.Path.{◌≡◌, refl, sym, ap, subst, ◌∙◌}
use mathlib.Core.List.{List, [], ◌∷◌, ◌++◌}
use mathlib.Core.Logic.{inl, inr}
use Rattle.patricia.specs.Tree.{Entry}
use Rattle.pool.specs.Layout.{word, Layout, kind_at, held_prefix, held_payload, next_at}
use Rattle.pool.specs.Link.{to_route}
use Rattle.pool.specs.Holds.{Seat, InPlace, Chain, chain_places}
use Rattle.pool.specs.Means.{Among}
use Rattle.pool.proofs.Distinct.{Distinct}
use Rattle.plan.specs.Cells.{end_cell}
use Rattle.pool.proofs.Frame.{RouteSame}
use Rattle.pool.proofs.Laid.{Laid, one_seat}

module _ {P : Type 0} where
  pub places_append : (xs ys : List (Entry (Seat P))) → chain_places (xs ++ ys) ≡ chain_places xs ++ chain_places ys
  places_append [] ys = refl
  places_append (x ∷ xs) ys = ap (λ (l : List ℕ). x.payload.place ∷ l) (places_append xs ys)

module _ {P : Type 0} (L : Layout P) where
  -- these routes stand in a row from a cell on
  abbrev pub ChainTo : ℕ → List ℕ → ℕ → ℕ → List (Entry (Seat P)) → Type 0
  ChainTo c ws a from [] = Unit {0}
  ChainTo c ws a from (x ∷ xs) = (word ws from ≡ to_route x.payload.place) × InPlace L c ws a x × ChainTo c ws a (L.seat x.payload.place + L.next_offset) xs

  pub chain_join : (c : ℕ) (ws : List ℕ) (a from : ℕ) (xs ys : List (Entry (Seat P))) → ChainTo c ws a from xs → Chain L c ws a (word ws (end_cell L from xs)) ys
      → Chain L c ws a (word ws from) (xs ++ ys)
  chain_join c ws a from [] ys h k = k
  chain_join c ws a from (x ∷ xs) ys h k = (h.0, h.1, chain_join c ws a (L.seat x.payload.place + L.next_offset) xs ys h.2 k)

  pub chain_split : (c : ℕ) (ws : List ℕ) (a from : ℕ) (xs ys : List (Entry (Seat P))) → Chain L c ws a (word ws from) (xs ++ ys)
      → ChainTo c ws a from xs × Chain L c ws a (word ws (end_cell L from xs)) ys
  chain_split c ws a from [] ys h = (tt, h)
  chain_split c ws a from (x ∷ xs) ys h = let v = chain_split c ws a (L.seat x.payload.place + L.next_offset) xs ys h.2 in ((h.0, h.1, v.0), v.1)

  -- after one route at least, the cell is the next link of one of them
  pub end_owner : (from : ℕ) (x : Entry (Seat P)) (xs : List (Entry (Seat P))) → (p : ℕ) × Among p (chain_places (x ∷ xs)) × (end_cell L from (x ∷ xs) ≡ L.seat p + L.next_offset)
  end_owner from x [] = (x.payload.place, inl refl, refl)
  end_owner from x (y ∷ ys) = let v = end_owner (L.seat x.payload.place + L.next_offset) y ys in (v.0, inr v.1, v.2)

  -- what is read in a route place, but for the cell
  pub record RouteBut (ws zs : List ℕ) (cell p : ℕ) : Type 0 where
    pub kind : kind_at L ws p ≡ kind_at L zs p
    pub known : L.Known ws (L.seat p) → L.Known zs (L.seat p)
    pub payload : held_payload L ws p ≡ held_payload L zs p
    pub address : (held_prefix L ws p).address ≡ (held_prefix L zs p).address
    pub length : (held_prefix L ws p).length ≡ (held_prefix L zs p).length
    pub next : (L.seat p + L.next_offset ≡ cell → ⊥) → next_at L ws p ≡ next_at L zs p

  pub route_whole : (ws zs : List ℕ) (cell p : ℕ) → (L.seat p + L.next_offset ≡ cell → ⊥) → RouteBut ws zs cell p → RouteSame L ws zs p
  route_whole ws zs cell p n b = record { kind = b.kind; known = b.known; payload = b.payload; address = b.address; length = b.length; next = b.next n }

  pub in_place_but : (c : ℕ) (ws zs : List ℕ) (cell a : ℕ) (e : Entry (Seat P)) → RouteBut ws zs cell e.payload.place → InPlace L c ws a e → InPlace L c zs a e
  in_place_but c ws zs cell a e s i = record {
    in_pool = i.in_pool;
    used = subst (λ (n : ℕ). 1 ≤ n) s.kind i.used;
    known = s.known i.known;
    held_there = sym s.payload ∙ i.held_there;
    address_there = sym s.address ∙ i.address_there;
    length_there = sym s.length ∙ i.length_there;
  }

module _ {P : Type 0} (L : Layout P) (laid : Laid L) where
  -- the first routes stand on where all stays but the cell after them
  pub chain_to_frame : (c : ℕ) (ws zs : List ℕ) (a from : ℕ) (xs : List (Entry (Seat P))) → Distinct (chain_places xs)
      → ((p : ℕ) → Among p (chain_places xs) → RouteBut L ws zs (end_cell L from xs) p) → ((from ≡ end_cell L from xs → ⊥) → word ws from ≡ word zs from)
      → ((p : ℕ) → Among p (chain_places xs) → from ≡ L.seat p + L.next_offset → ⊥) → ChainTo L c ws a from xs → ChainTo L c zs a from xs
  chain_to_frame c ws zs a from [] d f g o h = tt
  chain_to_frame c ws zs a from (x ∷ xs) d f g o h =
      let here : word ws from ≡ word zs from = g (λ e. let v = end_owner L from x xs in o v.0 v.1 (e ∙ v.2)) in (
        sym here ∙ h.0,
        in_place_but L c ws zs (end_cell L from (x ∷ xs)) a x (f x.payload.place (inl refl)) h.1,
        chain_to_frame c ws zs a (L.seat x.payload.place + L.next_offset) xs d.1 (λ p k. f p (inr k)) (λ n. (f x.payload.place (inl refl)).next n)
            (λ p k e. d.0 (subst (λ (n : ℕ). Among n (chain_places xs)) (sym (one_seat L laid x.payload.place p L.next_offset L.next_offset laid.next_fits laid.next_fits e).0) k)) h.2,
      )
