-- The three words of an inner row are written from the place that `joint` says.
use native.Mathlib.Omega.{arith}
use lib.ListN.{length-set}
use Rattle.enter_rows.proofs.write_inner.Goals as goal

pub bounds-pool-at-2 : goal.bounds-pool-at-2
bounds-pool-at-2 c = simp length-set (omega arith)

pub bounds-pool-at-3 : goal.bounds-pool-at-3
bounds-pool-at-3 c = simp length-set (omega arith)

pub returns : goal.returns
returns c = rw c.joint-at.ensures
