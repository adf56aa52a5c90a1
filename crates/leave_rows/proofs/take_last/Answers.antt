-- Three words are written: the root, the row's kind at the place that `seat` says, and the count.
use native.Mathlib.Omega.{arith}
use lib.ListN.{length-set}
use Rattle.leave_rows.proofs.take_last.Goals as goal

pub bounds-pool-at : goal.bounds-pool-at
bounds-pool-at c = simp length-set (omega arith)

pub bounds-pool-1-2 : goal.bounds-pool-1-2
bounds-pool-1-2 c = simp length-set (omega arith)

pub returns : goal.returns
returns c = rw c.seat-at.ensures
