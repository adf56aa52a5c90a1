-- The loop's invariant: every place of the way before the level tests no bit past the index.
use Prim.Native.Nat.{ℕ, ◌+◌, ◌≤◌, ◌<◌}
use lib.ListN.{get_or}
use Rattle.pool.specs.Layout.{mark_at}
use Rattle.pool.specs.Ipv4.{ipv4}
use Rattle.plan.proofs.cells.level_of.Given as goal

abbrev pub invariant-loop-level : goal.invariant-loop-level
invariant-loop-level l = (k : ℕ) → k < l.level → mark_at ipv4 l.capacity l.pool (get_or l.inner k 0) ≤ l.index + 1
