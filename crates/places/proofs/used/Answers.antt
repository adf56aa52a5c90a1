-- A place that is used is one more, `tally_more`, any other none, `tally_same`. A tally is no more than the places, so the count can't wrap: `tally_le`.
use mathlib.Core.Path.{sym, ◌∙◌}
use native.Mathlib.Omega.{arith}
use Rattle.pool.specs.Ipv4.{ipv4}
use Rattle.places.specs.Marks.{is_used}
use Rattle.places.proofs.Tally.{tally_more, tally_same, tally_le, passes, passes_not}
use Rattle.places.proofs.used.Goals as goal
use Rattle.places.proofs.used.Goals.{then-is_used, else-is_used}

pub overflow_add-count : goal.overflow_add-count
overflow_add-count c =
    omega (arith, tally_le (is_used ipv4 c.args.capacity c.args.pool.now c.args.sort) c.loop-at.at, c.loop-at.invariant)

pub loop-at-preserved : goal.loop-at-preserved
loop-at-preserved c =
    let read = c.mark_of-is_used.ensures in
    let more = tally_more (is_used ipv4 c.args.capacity c.args.pool.now c.args.sort) c.loop-at.at _ _ c.loop-at.invariant in
    let same = tally_same (is_used ipv4 c.args.capacity c.args.pool.now c.args.sort) c.loop-at.at _ _ c.loop-at.invariant in
    elim c.if-is_used.branch [
      | then-is_used w ↦ more (passes _ (λ e. w.if-is_used.true (read ∙ e))) w.count-is
      | else-is_used w ↦ same (passes_not _ (sym read ∙ w.if-is_used.false)) w.count-is
    ]
