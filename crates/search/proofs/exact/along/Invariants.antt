-- The loop goes along the leaf's routes: those before its place did not pass (`along_start`, `along_on`), and the lengths fall.
-- It ends at the first that passes (`along_hit`), behind the last, or where the words are no leaf.
use mathlib.Core.Bool.{Bool}
use Rattle.std.specs.Prelude.{Ok}
use Rattle.model.specs.Prefix.{Prefix}
use Rattle.pool.specs.Ipv4.{ipv4}
use Rattle.search.specs.Find.{SpotInPool, Tests}
use Rattle.search.proofs.Spots.{AlongAt, still}
use Rattle.search.proofs.exact.along.Given as goal

abbrev pub invariant-loop-hung : goal.invariant-loop-hung
invariant-loop-hung g l =
    SpotInPool l.capacity (Ok l.hung)
    × ((test : Prefix → Bool) → Tests (goal.F-post g l.passes) test → AlongAt ipv4 l.capacity l.pool test l.fn.first.0 l.hung)

abbrev pub decreases-loop-hung : goal.decreases-loop-hung
decreases-loop-hung g l = still ipv4 l.pool l.hung
