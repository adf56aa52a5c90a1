-- Demand of the exact search: the place of the route that has just this prefix.
use Rattle.std.specs.Prelude.{ℕ, ◌<◌, ◌≡◌, Bool, true, false, cond, List, [], ◌∷◌, Option as RustOption, Some, None, Result, Ok, Err}
use Rattle.std.proofs.Math.Option.{Option, none, some}
use Rattle.model.specs.Prefix.{Prefix}
use Rattle.model.specs.Routes.{Route, find}
use Rattle.patricia.specs.Good.{Good}
use Rattle.patricia.specs.Tree.{Entry, hung, routes}
use Rattle.patricia.specs.Obeys.{LongestFirst}
use Rattle.pool.specs.Layout.{root_in, Layout}
use Rattle.pool.specs.Fit.{route_at}
use Rattle.pool.specs.Link.{to_route}
use Rattle.pool.specs.Holds.{Seat, Seated, bare, bare_entries, chain_places, route_places, Chain, Holds}
use Rattle.pool.specs.Means.{Among}
use Rattle.pool.specs.declared.link.Place.{Place}
use Rattle.pool.specs.declared.damage.Damage.{Damage}
use Rattle.route.specs.declared.prefix.Prefix.{Prefix as CodePrefix}
use Rattle.route.specs.Means.{prefix_of}

-- Where a prefix is held: at a place, nowhere, or where the words are no tree.
abbrev pub Spot : Type 0
Spot = Result (RustOption Place) Damage

-- Whether a place was found.
abbrev pub is_at : Spot → Bool
is_at (Ok (Some p)) = true
is_at (Ok None) = false
is_at (Err d) = false

-- The place that is found is in the pool.
abbrev pub SpotInPool : ℕ → Spot → Type 0
SpotInPool c (Ok (Some p)) = p.0 < c
SpotInPool c (Ok None) = Unit {0}
SpotInPool c (Err d) = Unit {0}

-- What a call on a held prefix answers is what a test says of it.
abbrev pub Tests : (CodePrefix → Bool → Type 0) → (Prefix → Bool) → Type 0
Tests answers test = (q : CodePrefix) (b : Bool) → answers q b → b ≡ test (prefix_of q)

module _ {P : Type 0} where
  -- The first of the routes whose prefix passes a test.
  abbrev pub seek : (Prefix → Bool) → List (Route P) → Option (Route P)
  seek test [] = none
  seek test (x ∷ xs) = cond (test x.prefix) (some x) (seek test xs)

module _ {P : Type 0} (L : Layout P) where
  -- The spot is one of these places and holds the route that is looked for; where there is none it is absent.
  abbrev pub Spotted : List ℕ → List ℕ → Spot → Option (Route P) → Type 0
  Spotted ws places (Ok (Some p)) none = ⊥
  Spotted ws places (Ok (Some p)) (some r) = Among p.0 places × (route_at L ws p.0 ≡ r)
  Spotted ws places (Ok None) none = Unit {0}
  Spotted ws places (Ok None) (some r) = ⊥
  Spotted ws places (Err d) o = ⊥

  -- Its spot among the routes of a leaf that hang from place i.
  pub record SpotIn (c : ℕ) (ws : List ℕ) (i : ℕ) (test : Prefix → Bool) (r : Spot) : Type 0 where
    -- of any words
    pub in_pool : SpotInPool c r
    -- of routes that hang there, longest first
    pub exact : (a : ℕ) (es : List (Entry (Seat P))) → Chain L c ws a (to_route i) es → LongestFirst es → Spotted ws (chain_places es) r (seek test (hung a (bare_entries es)))

  -- In the whole pool.
  pub record Finds (c : ℕ) (ws : List ℕ) (p : Prefix) (r : Spot) : Type 0 where
    -- of any words
    pub in_pool : SpotInPool c r
    -- no root, no route
    pub empty : root_in ws ≡ 0 → r ≡ Ok None
    -- of a good tree: the place of the route that has this prefix
    pub exact : (t : Seated P) → Holds L c ws (root_in ws) t → Good L.rules.width (bare t) → Spotted ws (route_places t) r (find p (routes (bare t)))
