-- By what the search found: the payload in that place (`guarded_at`), or none (`guarded_not`).
use mathlib.Core.Path.{refl, ap, ◌∙◌}
use borrow.Author.Rules.{rules}
use Rattle.model.specs.Ipv4.{Payload}
use Rattle.model.specs.State.{Hand, guards}
use Rattle.route.specs.Means.{hand_is}
use Rattle.pool.specs.Ipv4.{ipv4}
use Rattle.may.proofs.Mays.{guarded_at, guarded_not}
use Rattle.may.proofs.judge.guarded_in.Goals as goal

pub returns-in-Ok-Some : goal.returns-in-Ok-Some
returns-in-Ok-Some c =
    let args = c.args in
    let read = c.payload_at-payload.ensures ∙ ap (ipv4.payload_at args.own.now) c.seat.ensures in
    let made = c.hand.ensures ∙ ap (λ (h : Payload). ipv4.rules.hand h) read in
    guarded_at ipv4 _ _ _ _ _ _ (rw c.in-Ok-Some.field-0-is at c.in-Ok-Some.ensures) (c.guards.ensures ∙ ap (λ (h : Hand). guards h (hand_is args.by)) made)

pub returns-in-Ok-None : goal.returns-in-Ok-None
returns-in-Ok-None c = guarded_not ipv4 _ _ _ _ _ c.in-Ok-None.ensures (search rules)

pub returns-in-Err : goal.returns-in-Err
returns-in-Err c = guarded_not ipv4 _ _ _ _ _ c.in-Err.ensures refl
