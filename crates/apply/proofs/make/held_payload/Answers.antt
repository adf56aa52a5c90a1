-- The search finds the route's place, and the payload is read there: `payload_there`. Where it finds none, the route is not held: `found_there`.
use mathlib.Core.Path.{ap, ◌∙◌}
use Rattle.pool.specs.Ipv4.{ipv4}
use Rattle.apply.proofs.Made.{found_there, payload_there}
use Rattle.apply.proofs.make.held_payload.Goals as goal

pub returns-in-Ok-Some : goal.returns-in-Ok-Some
returns-in-Ok-Some c =
    let found = rw c.in-Ok-Some.field-0-is at c.in-Ok-Some.ensures in
    let read = c.payload_at.ensures ∙ ap (ipv4.payload_at c.args.pool.now) c.seat.ensures in
    λ s m k r e. read ∙ payload_there ipv4 _ _ _ _ found s m k r e

pub returns-in-Ok-None : goal.returns-in-Ok-None
returns-in-Ok-None c =
    let none = rw c.in-Ok-None.field-0-is at c.in-Ok-None.ensures in
    λ s m k r e. absurd (found_there ipv4 _ _ _ _ none s m k r e).1

pub returns-in-Err : goal.returns-in-Err
returns-in-Err c = λ s m k r e. absurd (found_there ipv4 _ _ _ _ c.in-Err.ensures s m k r e).1
