-- The words say a state, whether or not its changes could be taken back: what an edit starts from and ends in. With a lawful state it is a meaning.
use Rattle.std.specs.Prelude.{ℕ, ◌≤◌, ◌<◌, ◌≡◌, true, List, length}
use Rattle.std.proofs.Math.Option.{none, some}
use Rattle.model.specs.Prefix.{Prefix, well_formed}
use Rattle.model.specs.Routes.{Route, find}
use Rattle.model.specs.State.{State, changes}
use Rattle.patricia.specs.Good.{RootGood}
use Rattle.patricia.specs.Tree.{Root, root_routes}
use Rattle.pool.specs.Layout.{Layout, size, capacity_in, count_in, root_in, kind_at, mark_at}
use Rattle.pool.specs.Holds.{Seat, bare_root, HoldsRoot}
use Rattle.pool.specs.Means.{TrialThere, Among, routes_used, inners_used}

module _ {P : Type 0} (L : Layout P) where
  -- The words of a pool say this state.
  pub record Encodes (ws : List ℕ) (s : State P) : Type 0 where
    pub tree : Root ℕ (Seat P)
    pub long_enough : size L s.capacity ≤ length ws
    pub capacity_there : capacity_in ws ≡ s.capacity
    pub count_there : count_in ws ≡ length s.routes
    pub trial_there : TrialThere L s.capacity ws s.trial
    pub holds : HoldsRoot L s.capacity ws (root_in ws) tree
    pub good : RootGood L.rules.width (bare_root tree)
    pub routes_there : root_routes (bare_root tree) ≡ s.routes
    pub route_places_used : (i : ℕ) → i < s.capacity → 1 ≤ kind_at L ws i → Among i (routes_used tree)
    pub inner_places_used : (j : ℕ) → j < s.capacity → 1 ≤ mark_at L s.capacity ws j → Among j (inners_used tree)

  -- A state of this pool to which a route can be added.
  pub record ToPut (c : ℕ) (ws : List ℕ) (r : Route P) (s : State P) : Type 0 where
    pub encodes : Encodes ws s
    pub capacity_is : s.capacity ≡ c
    pub few : length (changes s.trial) ≤ L.rules.standing
    pub formed : well_formed L.rules.width r.prefix ≡ true
    pub absent : find r.prefix s.routes ≡ none
    pub room : length s.routes < s.capacity

  -- A state of this pool that holds a prefix.
  pub record ToTake (c : ℕ) (ws : List ℕ) (p : Prefix) (s : State P) : Type 0 where
    pub encodes : Encodes ws s
    pub capacity_is : s.capacity ≡ c
    pub few : length (changes s.trial) ≤ L.rules.standing
    pub route : Route P
    pub there : find p s.routes ≡ some route
