-- "So n distinct addresses, n at least 1, have n - 1 inner nodes."
use Rattle.std.specs.Prelude.{ℕ, suc, ◌+◌}
use Rattle.patricia.specs.Tree.{Tree, leaf, node}

module _ {N P : Type 0} where
  -- "n distinct addresses".
  abbrev pub leaves : Tree N P → ℕ
  leaves (leaf a es) = 1
  leaves (node n b l r) = leaves l + leaves r

  -- "n - 1 inner nodes".
  abbrev pub inners : Tree N P → ℕ
  inners (leaf a es) = 0
  inners (node n b l r) = suc (inners l + inners r)
