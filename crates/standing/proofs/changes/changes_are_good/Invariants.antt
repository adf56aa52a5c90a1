-- The loop's invariant: the changes below `change` are fine. One that is not refuses all.
use Rattle.pool.specs.Ipv4.{ipv4}
use Rattle.standing.specs.Changes.{ChangesFine}
use Rattle.standing.proofs.changes.changes_are_good.Given as goal

abbrev pub invariant-loop-change : goal.invariant-loop-change
invariant-loop-change l = ChangesFine ipv4 l.capacity l.pool l.change
