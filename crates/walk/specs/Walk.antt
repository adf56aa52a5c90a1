-- What the walk promises, and what its steps do. An answer is a number and a value.
use Rattle.std.specs.Prelude.{ℕ, ◌-◌, ◌≤◌, ◌<◌, ◌≡◌, List, ◌⊎◌, get_or, Some, None}
use Rattle.bits.specs.Address.{Part}
use Rattle.model.specs.Prefix.{Prefix}
use Rattle.model.specs.Routes.{first_of, next_after}
use Rattle.model.specs.Call.{Value, nothing}
use Rattle.patricia.specs.Good.{Good, RootGood}
use Rattle.patricia.specs.Tree.{Root, routes, root_routes}
use Rattle.pool.specs.Layout.{Layout, root_in, held_prefix, mark_at, right_at}
use Rattle.pool.specs.Holds.{Seat, Seated, bare, bare_root, Holds, HoldsRoot}
use Rattle.search.specs.Says.{Says, Loose}
use Rattle.search.specs.Edge.{Rises}

module _ {P : Type 0} (L : Layout P) where
  -- The first route of what stands at a link.
  pub record Fronts (c : ℕ) (ws : List ℕ) (link n : ℕ) (v : Value P) : Type 0 where
    -- of any words
    pub loose : Loose n 14
    -- of a good tree
    pub exact : (t : Seated P) → Holds L c ws link t → Good L.rules.width (bare t) → Says n v 14 (first_of (routes (bare t)))

  -- The first route.
  pub record Firsts (c : ℕ) (ws : List ℕ) (n : ℕ) (v : Value P) : Type 0 where
    -- of any words: a route, 9 or 14
    pub loose : Loose n 14
    -- of a good tree: its first route, or 14 where there is none
    pub exact : (t : Root ℕ (Seat P)) → HoldsRoot L c ws (root_in ws) t → RootGood L.rules.width (bare_root t) → Says n v 14 (first_of (root_routes (bare_root t)))

  -- The first route of the right side at the deepest of the levels at which the address goes left; none, where it goes left at no level.
  abbrev pub RightSide : ℕ → List ℕ → ℕ → List ℕ → ℕ → ℕ → Value P → Type 0
  RightSide c ws d inner level n v =
      ((k : ℕ) × Rises L c ws d 0 inner level (Some k) × Fronts c ws (right_at L c ws (get_or inner k 0)) n v) ⊎ (Rises L c ws d 0 inner level None × (n ≡ 14) × (v ≡ nothing))

  -- The levels below test no bit before bit k, and the one above tests one.
  pub record Rejoined (c : ℕ) (ws : List ℕ) (k : ℕ) (inner : List ℕ) (depth level : ℕ) : Type 0 where
    pub within : level ≤ depth
    pub below : (m : ℕ) → level ≤ m → m < depth → k < mark_at L c ws (get_or inner m 0)
    pub above : 0 < level → mark_at L c ws (get_or inner (level - 1) 0) ≤ k

  -- The next route, where the address of p parts from that of the route in place i at bit k.
  pub record Goes (c : ℕ) (ws : List ℕ) (p : Prefix) (i k n : ℕ) (v : Value P) : Type 0 where
    -- of any words
    pub loose : Loose n 14
    -- of a good tree
    pub exact : Part L.rules.width p.address (held_prefix L ws i).address k → (t : Seated P) → Holds L c ws (root_in ws) t → Good L.rules.width (bare t)
        → Says n v 14 (next_after p (routes (bare t)))

  -- The next route after a prefix, held or not.
  pub record Nexts (c : ℕ) (ws : List ℕ) (p : Prefix) (n : ℕ) (v : Value P) : Type 0 where
    -- of any words: a route, 9 or 14
    pub loose : Loose n 14
    -- of a good tree: the first of its routes that comes after the prefix, or 14 where there is none
    pub exact : (t : Root ℕ (Seat P)) → HoldsRoot L c ws (root_in ws) t → RootGood L.rules.width (bare_root t) → Says n v 14 (next_after p (root_routes (bare_root t)))
