-- What the way down promises.
use Rattle.std.specs.Prelude.{ℕ, ◌≤◌, ◌<◌, ◌≡◌, List, [], ◌∷◌, length, get_or, Option, Some, None, Result, Ok, Err}
use Rattle.patricia.specs.Good.{Good}
use Rattle.patricia.specs.Tree.{Entry, leaf}
use Rattle.patricia.specs.Way.{depth, Step, went_left, went_right, plug, Follows}
use Rattle.pool.specs.Layout.{root_in, Layout, mark_at}
use Rattle.pool.specs.Link.{to_route}
use Rattle.pool.specs.Holds.{Seat, Seated, bare, Chain, Holds}
use Rattle.pool.specs.declared.link.Place.{Place}
use Rattle.pool.specs.declared.damage.Damage.{Damage}

module _ {P : Type 0} where
  -- The places of a way are kept in the array, from the root down: its first step, the deepest, is the last of them.
  abbrev pub Kept : List ℕ → List (Step ℕ (Seat P)) → Type 0
  Kept inner [] = Unit {0}
  Kept inner (went_left n b r ∷ w) = (get_or inner (length w) 0 ≡ n) × Kept inner w
  Kept inner (went_right n b l ∷ w) = (get_or inner (length w) 0 ≡ n) × Kept inner w

-- Where a way ends: at a leaf's first route; nowhere, since the pool has no route; or where the words are no tree.
abbrev pub End : Type 0
End = Result (Option Place) Damage

-- The way ends at this place.
abbrev pub EndsAt : End → Place → Type 0
EndsAt e p = e ≡ Ok (Some p)

-- The place at a way's end is in the pool.
abbrev pub EndInPool : ℕ → End → Type 0
EndInPool c (Ok (Some p)) = p.0 < c
EndInPool c (Ok None) = Unit {0}
EndInPool c (Err d) = Unit {0}

module _ {P : Type 0} (L : Layout P) where
  -- The way down to a leaf of a tree that the words hold.
  pub record Led (c : ℕ) (ws : List ℕ) (d : ℕ) (inner : List ℕ) (n : ℕ) (end : End) (t : Seated P) : Type 0 where
    -- the steps, deepest first
    pub way : List (Step ℕ (Seat P))
    -- the leaf: its address
    pub address : ℕ
    -- its first route
    pub entry : Entry (Seat P)
    -- and the others
    pub rest : List (Entry (Seat P))
    -- the leaf at the end of the steps is in the tree
    pub whole : plug way (leaf address (entry ∷ rest)) ≡ t
    -- each step goes by the destination's bit
    pub follows : Follows L.rules.width d way
    -- the depth is the number of steps
    pub steps : n ≡ length way
    -- which is the number of inner nodes on the destination's path, from the tree alone
    pub deep : n ≡ depth L.rules.width d (bare t)
    -- the places of the steps are in the array
    pub places : Kept inner way
    -- the end is the leaf's first route
    pub ends : end ≡ Ok (Some (record { 0 = entry.payload.place }))
    -- and from there the leaf's routes hang in the pool
    pub hangs : Chain L c ws address (to_route entry.payload.place) (entry ∷ rest)

  -- An inner place that can be used: it is in the pool and tests a bit.
  pub record Usable (c : ℕ) (ws : List ℕ) (j : ℕ) : Type 0 where
    pub in_pool : j < c
    pub marked : 1 ≤ mark_at L c ws j
    pub within : mark_at L c ws j ≤ L.rules.width

  -- Every place remembered can be used.
  abbrev pub AllUsable : ℕ → List ℕ → List ℕ → ℕ → Type 0
  AllUsable c ws inner depth = (k : ℕ) → k < depth → Usable c ws (get_or inner k 0)

  -- Of any words the depth is at most the width and what is remembered can be used; where they hold a good tree, the way leads to the destination's leaf.
  pub record Ways (c : ℕ) (ws : List ℕ) (d : ℕ) (inner : List ℕ) (n : ℕ) (end : End) : Type 0 where
    -- at most a step for each bit
    pub shallow : n ≤ L.rules.width
    -- each place remembered can be used
    pub usable : AllUsable c ws inner n
    -- the place at the end is in the pool
    pub end_in_pool : EndInPool c end
    -- no root, no way
    pub empty : root_in ws ≡ 0 → end ≡ Ok None
    -- a tree, and the way to its leaf
    pub leads : (t : Seated P) → Holds L c ws (root_in ws) t → Good L.rules.width (bare t) → Led c ws d inner n end t
