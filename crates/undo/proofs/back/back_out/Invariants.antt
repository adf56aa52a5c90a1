-- The loop's invariant: the length is the pool's, and for each state that the pool may mean the back out is still going (`Going`):
-- what is left to undo leads to the same end. The measure is the word of the standing changes. Once none stands, `going_does`.
use mathlib.Core.Path.{◌≡◌}
use lib.ListN.{length}
use Rattle.model.specs.Ipv4.{Payload}
use Rattle.model.specs.State.{State}
use Rattle.model.specs.Call.{back_out}
use Rattle.pool.specs.Layout.{word}
use Rattle.pool.specs.Ipv4.{ipv4}
use Rattle.apply.specs.Does.{Accepts}
use Rattle.undo.proofs.TakenBack.{Going}
use Rattle.undo.proofs.back.back_out.Given as goal

abbrev pub invariant-loop-pool : goal.invariant-loop-pool
invariant-loop-pool l =
    (length l.pool ≡ length l.initial.pool) × ((s : State Payload) → Accepts ipv4 l.capacity back_out l.initial.pool s → Going ipv4 l.capacity l.pool s)

abbrev pub decreases-loop-pool : goal.decreases-loop-pool
decreases-loop-pool l = word l.pool 4
