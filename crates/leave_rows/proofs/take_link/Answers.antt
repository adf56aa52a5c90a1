-- Three words are written: the cell, which links past the row, the row's kind where `seat` says, and the count.
use native.Mathlib.Omega.{arith}
use lib.ListN.{length-set}
use Rattle.leave_rows.proofs.take_link.Goals as goal

pub bounds-pool-at-2 : goal.bounds-pool-at-2
bounds-pool-at-2 c = simp length-set (omega arith)

pub bounds-pool-1-2 : goal.bounds-pool-1-2
bounds-pool-1-2 c = simp length-set (omega arith)

pub returns : goal.returns
returns c = rw c.seat-at.ensures
