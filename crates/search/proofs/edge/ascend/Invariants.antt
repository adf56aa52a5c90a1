-- Every level that the loop has passed took the other side, so the first that takes this one is the deepest.
use Prim.Native.Nat.{ℕ, ◌≤◌, ◌<◌}
use lib.ListN.{get_or}
use Rattle.pool.specs.Ipv4.{ipv4}
use Rattle.search.specs.Edge.{side_bit, Takes}
use Rattle.search.proofs.edge.ascend.Given as goal

abbrev pub invariant-loop-level : goal.invariant-loop-level
invariant-loop-level l =
    (m : ℕ) → l.level ≤ m → m < l.depth → Takes ipv4 l.capacity l.pool l.destination (side_bit l.side) (get_or l.inner m 0) → ⊥
