-- The loop says that whatever tree stands at the start has its leftmost leaf where the one at the link has it: `left_step`.
-- Each bit that is tested is later than the last, so what is left of the width falls.
use Prim.Native.Nat.{◌-◌}
use Rattle.pool.specs.Ipv4.{ipv4}
use Rattle.search.proofs.Left.{AllLeft}
use Rattle.search.proofs.edge.leftmost.Given as goal

abbrev pub invariant-loop-place : goal.invariant-loop-place
invariant-loop-place l = AllLeft ipv4 l.capacity l.pool l.start l.link l.lowest

abbrev pub decreases-loop-place : goal.decreases-loop-place
decreases-loop-place l = 32 - l.lowest
