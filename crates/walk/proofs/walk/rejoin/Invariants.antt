-- Every level that the loop has passed tests the bit of the parting or a later one; it ends at the first that tests an earlier one,
-- or at the top, and what it has passed and not passed is what is promised.
use Prim.Native.Nat.{ℕ, ◌≤◌, ◌<◌}
use lib.ListN.{get_or}
use Rattle.pool.specs.Layout.{mark_at}
use Rattle.pool.specs.Ipv4.{ipv4}
use Rattle.walk.proofs.walk.rejoin.Given as goal

abbrev pub invariant-loop-above : goal.invariant-loop-above
invariant-loop-above l = (m : ℕ) → l.above ≤ m → m < l.depth → l.parted < mark_at ipv4 l.capacity l.pool (get_or l.inner m 0)
