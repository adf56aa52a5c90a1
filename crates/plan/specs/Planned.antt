-- What the plans promise of any words, and of words that hold a tree.
use Rattle.std.specs.Prelude.{ℕ, ◌≤◌, ◌<◌, ◌≡◌, List, [], ◌∷◌, ◌++◌, ◌⊎◌, length, Option, Some, None}
use Rattle.std.proofs.Math.Option.{some}
use Rattle.model.specs.Prefix.{Prefix}
use Rattle.model.specs.Routes.{Route, find}
use Rattle.patricia.specs.Good.{Good}
use Rattle.patricia.specs.Tree.{Entry, routes}
use Rattle.patricia.specs.Obeys.{LongestFirst}
use Rattle.patricia.specs.Way.{Step, plug, Follows}
use Rattle.pool.specs.Layout.{word, root_in, Layout}
use Rattle.pool.specs.Link.{to_route}
use Rattle.pool.specs.Holds.{Seat, Seated, bare, Chain, Holds}
use Rattle.search.specs.Down.{Kept}
use Rattle.plan.specs.Cells.{cell_of, end_cell, Longer, place_of, sibling_link}
use Rattle.plan.specs.Plan.{HeldThere, TakenAt}
use Rattle.plan.specs.declared.plan.PutPlan.{PutPlan}
use Rattle.plan.specs.declared.plan.PutPlan.TheVariants as put
use Rattle.plan.specs.declared.plan.TakePlan.{TakePlan}
use Rattle.plan.specs.declared.plan.TakePlan.TheVariants as taken
use Rattle.plan.specs.declared.plan.Held.{Held}

-- ---- the cells and places of a plan are in the pool

-- Of a plan to put in.
abbrev pub PutInPool : ℕ → List ℕ → PutPlan → Type 0
PutInPool W ws put.First = Unit {0}
PutInPool W ws (put.Hang cell) = cell < length ws
PutInPool W ws (put.Join cell k) = (cell < length ws) × (k ≤ W)

-- Of a route that is held.
abbrev pub HeldInPool : ℕ → List ℕ → Option Held → Type 0
HeldInPool c ws (Some h) = (h.cell < length ws) × (h.place.0 < c)
HeldInPool c ws None = Unit {0}

-- Of a plan to take out.
abbrev pub PlanInPool : ℕ → List ℕ → TakePlan → Type 0
PlanInPool c ws (taken.Link cell i) = (cell < length ws) × (i.0 < c)
PlanInPool c ws (taken.Leaf up j link i) = (up < length ws) × (j.0 < c) × (i.0 < c)
PlanInPool c ws (taken.Last i) = i.0 < c

-- Of one, if there is one.
abbrev pub TakeInPool : ℕ → List ℕ → Option TakePlan → Type 0
TakeInPool c ws (Some r) = PlanInPool c ws r
TakeInPool c ws None = Unit {0}

module _ {P : Type 0} where
  -- One of these routes has length n.
  abbrev pub Has : ℕ → List (Entry (Seat P)) → Type 0
  Has n [] = ⊥
  Has n (e ∷ es) = (e.length ≡ n) ⊎ Has n es

module _ {P : Type 0} (L : Layout P) where
  -- ---- among the routes of one address

  -- The route of length n hangs at this cell, in this place.
  pub record HungIn (from n : ℕ) (es : List (Entry (Seat P))) (cell i : ℕ) : Type 0 where
    pub longer : List (Entry (Seat P))
    pub entry : Entry (Seat P)
    pub shorter : List (Entry (Seat P))
    pub whole : longer ++ (entry ∷ shorter) ≡ es
    pub cell_is : end_cell L from longer ≡ cell
    pub longer_are : Longer n longer
    pub length_is : entry.length ≡ n
    pub place_is : entry.payload.place ≡ i

  -- Where the route of length n is found; it is one of these routes.
  abbrev pub HungThere : ℕ → ℕ → List (Entry (Seat P)) → Option Held → Type 0
  HungThere from n es (Some h) = HungIn from n es h.cell h.place.0
  HungThere from n es None = ⊥

  -- What a look along the routes of an address finds.
  pub record HungFrom (c : ℕ) (ws : List ℕ) (from i n : ℕ) (r : Option Held) : Type 0 where
    -- of any words
    pub in_pool : HeldInPool c ws r
    -- of routes that hang from place i, longest first, one of which has length n
    pub exact : (a : ℕ) (es : List (Entry (Seat P))) → Chain L c ws a (to_route i) es → LongestFirst es → word ws from ≡ to_route i → Has n es → HungThere from n es r

  -- ---- at the end of a way

  -- The leaf at the end of the way has one route, in place i: it is the last of the table, or its sibling takes the place of the step above it.
  abbrev pub LoneAt : ℕ → List ℕ → ℕ → List (Step ℕ (Seat P)) → TakePlan → Type 0
  LoneAt c ws i w (taken.Link cell k) = ⊥
  LoneAt c ws i w (taken.Leaf up j link k) =
      (d : Step ℕ (Seat P)) × (v : List (Step ℕ (Seat P))) × (w ≡ d ∷ v) × (place_of d ≡ j.0) × (cell_of L c v ≡ up) × (sibling_link L c ws d ≡ link) × (k.0 ≡ i)
  LoneAt c ws i w (taken.Last k) = (w ≡ []) × (k.0 ≡ i)

  -- What the way above a lone route says of taking it out.
  pub record LoneRight (c : ℕ) (ws : List ℕ) (inner : List ℕ) (n a i : ℕ) (r : TakePlan) : Type 0 where
    -- of any words
    pub in_pool : PlanInPool c ws r
    -- of a way of n steps in a tree, whose places are in the array
    pub exact : (w : List (Step ℕ (Seat P))) (t : Seated P) → Holds L c ws (root_in ws) (plug w t) → n ≡ length w → Kept inner w → Follows L.rules.width a w → LoneAt c ws i w r

  -- ---- in the whole pool

  -- Where a prefix that is there hangs.
  pub record HeldRight (c : ℕ) (ws : List ℕ) (p : Prefix) (r : Option Held) : Type 0 where
    pub in_pool : HeldInPool c ws r
    pub exact : (t : Seated P) (q : Route P) → Holds L c ws (root_in ws) t → Good L.rules.width (bare t) → find p (routes (bare t)) ≡ some q → HeldThere L c p t r

  -- Where a prefix that is there is taken out.
  pub record TakeRight (c : ℕ) (ws : List ℕ) (p : Prefix) (r : Option TakePlan) : Type 0 where
    pub in_pool : TakeInPool c ws r
    pub exact : (t : Seated P) (q : Route P) → Holds L c ws (root_in ws) t → Good L.rules.width (bare t) → find p (routes (bare t)) ≡ some q → TakenAt L c ws p t r
