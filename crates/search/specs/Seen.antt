-- What is seen at a link of the tree.
use Rattle.std.specs.Prelude.{ℕ, suc, ◌≤◌, ◌<◌, ◌≡◌, List, Result, Ok, Err}
use Rattle.patricia.specs.Good.{Good}
use Rattle.patricia.specs.Tree.{leaf, node}
use Rattle.pool.specs.Layout.{Layout, mark_at}
use Rattle.pool.specs.Link.{to_route, to_inner}
use Rattle.pool.specs.Holds.{Seated, bare, Holds}
use Rattle.search.specs.declared.descent.Seen.{Seen}
use Rattle.search.specs.declared.descent.Seen.TheVariants.{Leaf, Inner}
use Rattle.pool.specs.declared.damage.Damage.{Damage}

module _ {P : Type 0} where
  -- No bit below n is tested where the tree starts.
  abbrev pub Starts : ℕ → Seated P → Type 0
  Starts n (leaf a es) = Unit {0}
  Starts n (node j b l r) = n ≤ b

module _ {P : Type 0} (L : Layout P) where
  -- What is seen is there; damage, where no good tree is.
  abbrev pub SeenRight : ℕ → List ℕ → ℕ → ℕ → Result Seen Damage → Type 0
  SeenRight c ws link lowest (Ok (Leaf p)) = (p.0 < c) × (link ≡ to_route p.0)
  SeenRight c ws link lowest (Ok (Inner p b)) = (p.0 < c) × (link ≡ to_inner p.0) × (mark_at L c ws p.0 ≡ suc b) × (lowest ≤ b) × (b < L.rules.width)
  SeenRight c ws link lowest (Err d) = (t : Seated P) → Holds L c ws link t → Good L.rules.width (bare t) → Starts lowest t → ⊥
