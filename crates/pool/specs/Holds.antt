-- When the words at a link are a tree. Each route and each inner node is told with its place, so that what the tree uses can be named.
use Rattle.std.specs.Prelude.{ℕ, suc, ◌≤◌, ◌<◌, ◌≡◌, List, [], ◌∷◌, ◌++◌}
use Rattle.std.proofs.Math.Option.{none, some}
use Rattle.patricia.specs.Tree.{Entry, Tree, leaf, node, Root}
use Rattle.pool.specs.Layout.{Layout, held_prefix, held_payload, kind_at, next_at, mark_at, left_at, right_at}
use Rattle.pool.specs.Link.{to_route, to_inner}

-- What a route holds, and the place that it is in.
pub record Seat (P : Type 0) : Type 0 where
  pub place : ℕ
  pub held : P

module _ {P : Type 0} where
  -- A route without its place.
  abbrev pub bare_entry : Entry (Seat P) → Entry P
  bare_entry e = record { length = e.length; payload = e.payload.held }

  -- The routes of a leaf without theirs.
  abbrev pub bare_entries : List (Entry (Seat P)) → List (Entry P)
  bare_entries [] = []
  bare_entries (e ∷ es) = bare_entry e ∷ bare_entries es

  -- A tree without its routes' places.
  abbrev pub bare : Tree ℕ (Seat P) → Tree ℕ P
  bare (leaf a es) = leaf a (bare_entries es)
  bare (node j b l r) = node j b (bare l) (bare r)

  -- And a table's tree.
  abbrev pub bare_root : Root ℕ (Seat P) → Root ℕ P
  bare_root none = none
  bare_root (some t) = some (bare t)

  -- The places of a tree, from left to right.
  abbrev pub chain_places : List (Entry (Seat P)) → List ℕ
  chain_places [] = []
  chain_places (e ∷ es) = e.payload.place ∷ chain_places es

  -- The places of its routes.
  abbrev pub route_places : Tree ℕ (Seat P) → List ℕ
  route_places (leaf a es) = chain_places es
  route_places (node j b l r) = route_places l ++ route_places r

  -- The places of its inner nodes.
  abbrev pub inner_places : Tree ℕ (Seat P) → List ℕ
  inner_places (leaf a es) = []
  inner_places (node j b l r) = j ∷ (inner_places l ++ inner_places r)

-- A tree with its places.
abbrev pub Seated : Type 0 → Type 0
Seated P = Tree ℕ (Seat P)

module _ {P : Type 0} (L : Layout P) where
  -- Route place i, of a pool of capacity c, holds the route of address a that the entry says.
  pub record InPlace (c : ℕ) (ws : List ℕ) (a : ℕ) (e : Entry (Seat P)) : Type 0 where
    pub in_pool : e.payload.place < c
    pub used : 1 ≤ kind_at L ws e.payload.place
    pub known : L.Known ws (L.seat e.payload.place)
    pub held_there : held_payload L ws e.payload.place ≡ e.payload.held
    pub address_there : (held_prefix L ws e.payload.place).address ≡ a
    pub length_there : (held_prefix L ws e.payload.place).length ≡ e.length

  -- From this link on hang these routes of address a, and no more.
  abbrev pub Chain : ℕ → List ℕ → ℕ → ℕ → List (Entry (Seat P)) → Type 0
  Chain c ws a link [] = link ≡ 0
  Chain c ws a link (e ∷ es) = (link ≡ to_route e.payload.place) × InPlace c ws a e × Chain c ws a (next_at L ws e.payload.place) es

  -- At this link stands this tree.
  abbrev pub Holds : ℕ → List ℕ → ℕ → Seated P → Type 0
  Holds c ws link (leaf a []) = ⊥
  Holds c ws link (leaf a (e ∷ es)) = Chain c ws a link (e ∷ es)
  Holds c ws link (node j b l r) =
      (link ≡ to_inner j) × (j < c) × (mark_at L c ws j ≡ suc b) × Holds c ws (left_at L c ws j) l × Holds c ws (right_at L c ws j) r

  -- A pool with no route has no root.
  abbrev pub HoldsRoot : ℕ → List ℕ → ℕ → Root ℕ (Seat P) → Type 0
  HoldsRoot c ws link none = link ≡ 0
  HoldsRoot c ws link (some t) = Holds c ws link t
