-- What the climb promises.
use Rattle.std.specs.Prelude.{ℕ, List}
use Rattle.model.specs.Call.{Value}
use Rattle.model.specs.Match.{best}
use Rattle.patricia.specs.Good.{Good, RootGood}
use Rattle.patricia.specs.Tree.{Root, routes, root_routes}
use Rattle.pool.specs.Layout.{Layout, root_in}
use Rattle.pool.specs.Holds.{Seat, Seated, bare, bare_root, Holds, HoldsRoot}
use Rattle.search.specs.Says.{Says, Loose}

module _ {P : Type 0} (L : Layout P) where
  -- The longest match in a tree that is not empty, as a number and a value.
  pub record Climbs (c : ℕ) (ws : List ℕ) (d n : ℕ) (v : Value P) : Type 0 where
    -- of any words
    pub loose : Loose n 13
    -- of a good tree
    pub exact : (t : Seated P) → Holds L c ws (root_in ws) t → Good L.rules.width (bare t) → Says n v 13 (best L.rules.width d (routes (bare t)))

  -- The longest match.
  pub record Looks (c : ℕ) (ws : List ℕ) (d n : ℕ) (v : Value P) : Type 0 where
    -- of any words: a route, 9 or 13
    pub loose : Loose n 13
    -- of a good tree: the matching route with the longest prefix, or 13 where there is none
    pub exact : (t : Root ℕ (Seat P)) → HoldsRoot L c ws (root_in ws) t → RootGood L.rules.width (bare_root t) → Says n v 13 (best L.rules.width d (root_routes (bare_root t)))
