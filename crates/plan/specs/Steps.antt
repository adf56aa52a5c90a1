-- What is read off the way down to a leaf, and along the leaf's routes.
use Rattle.std.specs.Prelude.{ℕ, ◌+◌, ◌≤◌, ◌<◌, ◌≡◌, List, [], ◌∷◌, ◌++◌, ◌⊎◌, length, get_or}
use Rattle.patricia.specs.Tree.{Entry}
use Rattle.patricia.specs.Obeys.{LongestFirst}
use Rattle.pool.specs.Layout.{Layout, mark_at}
use Rattle.pool.specs.Link.{to_route}
use Rattle.pool.specs.Holds.{Seat, Chain}
use Rattle.search.specs.Down.{AllUsable}
use Rattle.plan.specs.Cells.{cell_at, end_cell, Longer}

module _ {P : Type 0} where
  -- The first of these routes, if there is one, is not longer than n.
  abbrev pub NotLonger : ℕ → List (Entry (Seat P)) → Type 0
  NotLonger n [] = Unit {0}
  NotLonger n (e ∷ es) = e.length ≤ n

module _ {P : Type 0} (L : Layout P) where
  -- The first n places of the array can be used.
  pub record WayUsable (c : ℕ) (ws : List ℕ) (inner : List ℕ) (n : ℕ) : Type 0 where
    pub shallow : n ≤ L.rules.width
    pub usable : AllUsable L c ws inner n

  -- The cell below the first n places, in the pool.
  pub record CellRight (c : ℕ) (ws : List ℕ) (inner : List ℕ) (n a r : ℕ) : Type 0 where
    pub cell_is : r ≡ cell_at L c ws inner n a
    pub in_pool : r < length ws

  -- So many of the first n places test a bit that is not past k, and the next one, if there is one, tests a bit that is.
  pub record LevelRight (c : ℕ) (ws : List ℕ) (inner : List ℕ) (n k r : ℕ) : Type 0 where
    pub within : r ≤ n
    pub not_past : (i : ℕ) → i < r → mark_at L c ws (get_or inner i 0) ≤ k + 1
    pub past : r < n → k + 1 < mark_at L c ws (get_or inner r 0)

  -- The routes of an address, parted at the cell before the first that is not longer than n.
  pub record PartedAt (from n : ℕ) (es : List (Entry (Seat P))) (cell : ℕ) : Type 0 where
    pub longer : List (Entry (Seat P))
    pub others : List (Entry (Seat P))
    pub whole : longer ++ others ≡ es
    pub cell_is : end_cell L from longer ≡ cell
    pub longer_are : Longer n longer
    pub others_are : NotLonger n others

  -- The cell before the first route of an address that is not longer than n.
  pub record ChainCell (c : ℕ) (ws : List ℕ) (from i n cell : ℕ) : Type 0 where
    -- of any words
    pub in_pool : (cell ≡ from) ⊎ ((p : ℕ) × (p < c) × (cell ≡ L.seat p + L.next_offset))
    -- of routes that hang from place i, longest first
    pub exact : (a : ℕ) (es : List (Entry (Seat P))) → Chain L c ws a (to_route i) es → LongestFirst es → PartedAt from n es cell
