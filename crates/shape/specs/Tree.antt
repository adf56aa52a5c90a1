-- What is tested of the tree at a link.
use Rattle.std.specs.Prelude.{ℕ, ◌+◌, ◌*◌, ◌≤◌, ◌≡◌, List, length, Option, Some, None}
use Rattle.bits.specs.Address.{first}
use Rattle.model.specs.Lawful.{AllObey}
use Rattle.patricia.specs.Tree.{Tree, Root, routes, root_routes, Under}
use Rattle.patricia.specs.Obeys.{Obeys, RootObeys}
use Rattle.pool.specs.Layout.{Layout, root_in}
use Rattle.search.specs.Seen.{Starts}
use Rattle.pool.specs.Holds.{Seat, Seated, bare, bare_root, route_places, inner_places, Holds, HoldsRoot}
use Rattle.pool.specs.Means.{routes_used, inners_used}
use Rattle.shape.specs.declared.tree.Span.{Span}
use Rattle.shape.specs.declared.tree.Uses.{Uses}

module _ {P : Type 0} where
  -- The lowest and the highest address under a tree.
  pub record Spans (least greatest : ℕ) (t : Tree ℕ P) : Type 0 where
    pub least_there : Under least t
    pub greatest_there : Under greatest t
    pub between : (x : ℕ) → Under x t → (least ≤ x) × (x ≤ greatest)

  -- What was counted in a tree.
  pub record Counted (routes inners : ℕ) (t : Seated P) : Type 0 where
    pub routes_there : routes ≡ length (route_places t)
    pub inners_there : inners ≡ length (inner_places t)

module _ {P : Type 0} (L : Layout P) where
  -- At the link stands this tree, and all that a sound pool asks of it holds.
  pub record TreeFine (c : ℕ) (ws : List ℕ) (link low : ℕ) (t : Seated P) : Type 0 where
    pub holds : Holds L c ws link t
    pub form : Obeys L.rules.width (bare t)
    pub past : Starts low t
    pub obey : AllObey L.rules (routes (bare t))

  -- What is answered of the tree at a link.
  abbrev pub TreeSays : ℕ → List ℕ → ℕ → ℕ → Option Span → Type 0
  TreeSays c ws link low None = (t : Seated P) → TreeFine c ws link low t → ⊥
  TreeSays c ws link low (Some s) =
      (t : Seated P) × TreeFine c ws link low t × Spans s.least s.greatest (bare t) × Counted s.routes s.inners t

  -- Two sides, from l₀ to l₁ and from r₀ to r₁, part at the bit before mark: the left have 0 there and the right 1, and before it all are one.
  pub record JoinFine (mark l₀ l₁ r₀ r₁ v : ℕ) : Type 0 where
    pub left_least : first L.rules.width mark l₀ ≡ 2 * v
    pub left_greatest : first L.rules.width mark l₁ ≡ 2 * v
    pub right_least : first L.rules.width mark r₀ ≡ 2 * v + 1
    pub right_greatest : first L.rules.width mark r₁ ≡ 2 * v + 1

  -- What is answered of two sides under a node.
  abbrev pub JoinSays : ℕ → Span → Span → Option Span → Type 0
  JoinSays mark l r None = (v : ℕ) → JoinFine mark l.least l.greatest r.least r.greatest v → ⊥
  JoinSays mark l r (Some s) =
      ((v : ℕ) × JoinFine mark l.least l.greatest r.least r.greatest v)
      × (s.least ≡ l.least) × (s.greatest ≡ r.greatest) × (s.routes ≡ l.routes + r.routes) × (s.inners ≡ 1 + (l.inners + r.inners))

  -- The tree at the root, which is empty where the root link is 0.
  pub record RootFine (c : ℕ) (ws : List ℕ) (t : Root ℕ (Seat P)) : Type 0 where
    pub holds : HoldsRoot L c ws (root_in ws) t
    pub form : RootObeys L.rules.width (bare_root t)
    pub obey : AllObey L.rules (root_routes (bare_root t))

  -- What is answered of the whole tree.
  abbrev pub RootSays : ℕ → List ℕ → Option Uses → Type 0
  RootSays c ws None = (t : Root ℕ (Seat P)) → RootFine c ws t → ⊥
  RootSays c ws (Some u) = (t : Root ℕ (Seat P)) × RootFine c ws t × (u.routes ≡ length (routes_used t)) × (u.inners ≡ length (inners_used t))
