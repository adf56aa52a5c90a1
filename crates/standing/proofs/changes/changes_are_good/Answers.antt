use mathlib.Core.Path.{◌≡◌, refl, subst}
use native.Mathlib.Omega.{arith}
use Rattle.model.proofs.Tests.{not_both}
use Rattle.pool.specs.Ipv4.{ipv4}
use Rattle.standing.specs.Changes.{ChangesFine}
use Rattle.shape.proofs.Hanging.{refused}
use Rattle.standing.proofs.Recording.{changes_more}
use Rattle.standing.proofs.changes.changes_are_good.Goals as goal

pub loop-change-init : goal.loop-change-init
loop-change-init c k h = absurd (omega (arith, h))

pub returns-then-not-change_is_good : goal.returns-then-not-change_is_good
returns-then-not-change_is_good c =
    refused (λ f. not_both (c.change_is_good.ensures.1 (f c.loop-change.change c.loop-change-test.true)) c.if-not-change_is_good.true)

pub loop-change-preserved : goal.loop-change-preserved
loop-change-preserved c = changes_more ipv4 _ _ _ c.loop-change.invariant (c.change_is_good.ensures.0 c.if-not-change_is_good.false)

pub returns : goal.returns
returns c =
    let args = c.args in
    let all : c.loop-change.change ≡ args.standing = omega arith in
    (λ t. subst (ChangesFine ipv4 args.capacity args.pool.now) all c.loop-change.invariant, λ f. refl)
