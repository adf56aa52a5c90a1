-- The loop's invariant (`Turned`): whether the change's prefix is held at its turn is whether it is held once those from `newer` on are taken back.
-- A newer change of the same prefix says it by its action (`turned_same`); past the newest, the table does (`turned_table`).
use Rattle.pool.specs.Ipv4.{ipv4}
use Rattle.standing.proofs.Turning.{Turned}
use Rattle.standing.proofs.changes.is_there.Given as goal

abbrev pub invariant-loop-newer : goal.invariant-loop-newer
invariant-loop-newer l = Turned ipv4 l.capacity l.pool l.standing l.change l.newer
