-- Four words are written: the cell above, the inner row's mark where `joint` says, the route's kind where `seat` says,
-- and the count.
use native.Mathlib.Omega.{arith}
use lib.ListN.{length-set}
use Rattle.leave_rows.proofs.take_leaf.Goals as goal

pub bounds-pool-above : goal.bounds-pool-above
bounds-pool-above c = simp length-set (omega arith)

pub bounds-pool-at : goal.bounds-pool-at
bounds-pool-at c = simp length-set (omega arith)

pub bounds-pool-1-2 : goal.bounds-pool-1-2
bounds-pool-1-2 c = simp length-set (omega arith)

pub returns : goal.returns
returns c = rw (c.joint-above.ensures, c.seat-at.ensures)
