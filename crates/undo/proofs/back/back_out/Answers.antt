use mathlib.Core.Path.{refl, ◌∙◌}
use native.Mathlib.Omega.{arith}
use Rattle.pool.specs.Ipv4.{ipv4}
use Rattle.pool.proofs.Ipv4.{laid4}
use Rattle.undo.proofs.TakenBack.{going_start, going_accepts, going_step, going_does}
use Rattle.undo.proofs.back.back_out.Goals as goal

pub loop-pool-init : goal.loop-pool-init
loop-pool-init c = (refl, λ s a. going_start ipv4 _ _ s a)

pub step_back-requires : goal.step_back-requires
step_back-requires c =
    let going = c.loop-pool.invariant.1 c.requires.accepted.0 c.requires.accepted.1 in
    let may = going_accepts ipv4 _ _ _ going (λ z. omega (arith, z, c.loop-pool-test.true)) in
    record {
      fit = (c.requires.fit.0, c.loop-pool.invariant.0 ∙ c.requires.fit.1);
      accepted = (going.state, may);
    }

pub loop-pool-smaller : goal.loop-pool-smaller
loop-pool-smaller c =
    let accepted = c.requires.accepted in
    let going = c.loop-pool.invariant.1 accepted.0 accepted.1 in
    (going_step ipv4 _ _ _ _ going (λ z. omega (arith, z, c.loop-pool-test.true)) c.step_back.ensures).less

pub loop-pool-preserved : goal.loop-pool-preserved
loop-pool-preserved c =
    let going = c.loop-pool.invariant.1 in
    let step = c.step_back.ensures in
    (omega arith, λ s a. (going_step ipv4 _ _ _ s (going s a) (λ z. omega (arith, z, c.loop-pool-test.true)) step).going)

pub returns : goal.returns
returns c =
    going_does ipv4 laid4 _ _ _ _ c.loop-pool.invariant.1 c.loop-pool-test.false c.write_head.ensures
