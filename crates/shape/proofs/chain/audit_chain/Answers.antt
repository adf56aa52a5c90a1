use mathlib.Core.Path.{ap}
use native.Mathlib.Omega.{arith}
use Rattle.model.specs.Ipv4.{Payload}
use Rattle.model.specs.Routes.{Route}
use Rattle.pool.specs.Ipv4.{ipv4}
use Rattle.shape.proofs.Hanging.{along_start, along_step, leaf_address, chain_bad, chain_fine}
use Rattle.shape.proofs.chain.audit_chain.Goals as goal

pub returns-then-capacity-place : goal.returns-then-capacity-place
returns-then-capacity-place c a es f = omega (arith, (leaf_address ipv4 _ _ a _ es f).0)

pub loop-link-init : goal.loop-link-init
loop-link-init c = along_start ipv4 _ _ _ c.route_link-link.result

pub returns-in_err-hung : goal.returns-in_err-hung
returns-in_err-hung c =
    let address = ap (λ (r : Route Payload). r.prefix.address) c.route_at-address.ensures in
    let goes_on = c.loop-link-test.true in
    rw c.from_residual.ensures
    (chain_bad ipv4 _ _ _ _ _ _ _ _ c.route_link-link.ensures c.loop-link.invariant address goes_on c.in_err-hung.ensures)

pub overflow_add-routes : goal.overflow_add-routes
overflow_add-routes c = omega arith

pub loop-link-smaller : goal.loop-link-smaller
loop-link-smaller c = let (i, f, p, q) = c.in_ok-hung.ensures in omega arith

pub loop-link-preserved : goal.loop-link-preserved
loop-link-preserved c =
    let goes_on = c.loop-link-test.true in
    along_step ipv4 _ _ _ _ _ _ _ _ _ goes_on c.loop-link.invariant c.in_ok-hung.ensures

pub returns : goal.returns
returns c =
    chain_fine ipv4 _ _ _ _ _ _ _ _ c.route_link-link.ensures c.loop-link.invariant c.loop-link-test.false
