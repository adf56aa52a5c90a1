-- Where the left sides of a tree end, and the deepest of the levels of a way that took a side.
use Rattle.std.specs.Prelude.{ℕ, ◌-◌, ◌<◌, ◌≡◌, List, ◌∷◌, get_or, Option, Some, None, Result, Ok, Err}
use Rattle.bits.specs.Address.{bit}
use Rattle.patricia.specs.Good.{Good}
use Rattle.patricia.specs.Tree.{Entry, leaf, node}
use Rattle.pool.specs.Layout.{Layout, mark_at}
use Rattle.pool.specs.Link.{to_route}
use Rattle.pool.specs.Holds.{Seat, Seated, bare, Chain, Holds}
use Rattle.pool.specs.declared.link.Place.{Place}
use Rattle.pool.specs.declared.damage.Damage.{Damage}
use Rattle.search.specs.declared.edge.Side.{Side}
use Rattle.search.specs.declared.edge.Side.TheVariants.{Left, Right}

-- The place at the edge is in the pool.
abbrev pub EdgeInPool : ℕ → Result Place Damage → Type 0
EdgeInPool c (Ok p) = p.0 < c
EdgeInPool c (Err d) = Unit {0}

-- The bit that takes a side.
abbrev pub side_bit : Side → ℕ
side_bit Left = 0
side_bit Right = 1

module _ {P : Type 0} where
  -- The leftmost leaf.
  abbrev pub left_leaf : Seated P → Seated P
  left_leaf (leaf a es) = leaf a es
  left_leaf (node n b l r) = left_leaf l

module _ {P : Type 0} (L : Layout P) where
  -- At inner place j the destination's bit takes side x.
  abbrev pub Takes : ℕ → List ℕ → ℕ → ℕ → ℕ → Type 0
  Takes c ws d x j = bit L.rules.width (mark_at L c ws j - 1) d ≡ x

  -- The deepest of the levels at which it does; none, at the top.
  abbrev pub Rises : ℕ → List ℕ → ℕ → ℕ → List ℕ → ℕ → Option ℕ → Type 0
  Rises c ws d x inner depth (Some k) =
      (k < depth) × Takes c ws d x (get_or inner k 0) × ((m : ℕ) → k < m → m < depth → Takes c ws d x (get_or inner m 0) → ⊥)
  Rises c ws d x inner depth None = (m : ℕ) → m < depth → Takes c ws d x (get_or inner m 0) → ⊥

  -- The leftmost leaf of a tree, and its first route.
  pub record LeftLed (c : ℕ) (ws : List ℕ) (r : Result Place Damage) (t : Seated P) : Type 0 where
    -- its address
    pub address : ℕ
    -- its first route
    pub entry : Entry (Seat P)
    -- and the others
    pub rest : List (Entry (Seat P))
    -- it is the leftmost
    pub is : left_leaf t ≡ leaf address (entry ∷ rest)
    -- the end is the leaf's first route
    pub ends : r ≡ Ok (record { 0 = entry.payload.place })
    -- and from there the leaf's routes hang in the pool
    pub hangs : Chain L c ws address (to_route entry.payload.place) (entry ∷ rest)

  -- The place that the left sides lead to from a link: in a good tree, that of its first leaf.
  pub record Leftmost (c : ℕ) (ws : List ℕ) (link : ℕ) (r : Result Place Damage) : Type 0 where
    -- the place at the end is in the pool
    pub in_pool : EdgeInPool c r
    -- a good tree, and its leftmost leaf
    pub leads : (t : Seated P) → Holds L c ws link t → Good L.rules.width (bare t) → LeftLed c ws r t
