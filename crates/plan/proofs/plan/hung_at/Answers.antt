-- `chain_cell` finds the cell, which is in the pool. A link there to a route in the pool is `hung_route`; any other link leads to no route
-- in the pool, which is `hung_nowhere`.
use Prim.Native.Nat.{◌<◌}
use mathlib.Core.Path.{◌≡◌, ap, ◌∙◌}
use native.Mathlib.Omega.{arith}
use lib.ListN.{length}
use Rattle.std.specs.Prelude.{Some, None}
use Rattle.pool.specs.Layout.{word}
use Rattle.pool.specs.Ipv4.{ipv4}
use Rattle.pool.specs.Link.{to_route}
use Rattle.pool.specs.declared.link.Link.TheVariants.{Route, Inner}
use Rattle.pool.proofs.Ipv4.{laid4}
use Rattle.search.proofs.Sight.{read_as}
use Rattle.plan.proofs.ChainAt.{cell_inside}
use Rattle.plan.proofs.HeldPlanned.{hung_route, hung_nowhere}
use Rattle.plan.proofs.plan.hung_at.Goals as goal
use Rattle.plan.proofs.plan.hung_at.Goals.{After-chain_cell-cell, In-Route}

-- the cell is in the pool
inside : (c : After-chain_cell-cell) → c.chain_cell-cell.result < length c.args.pool.now
inside c = cell_inside ipv4 laid4 _ _ _ _ _ _ c.requires.fit c.requires.first_lt_capacity.1 c.chain_cell-cell.ensures

-- what the link was read as
routed : (c : In-Route) → (word c.args.pool.now c.chain_cell-cell.result) ≡ to_route c.in-Route.place.0
routed c = read_as _ _ (Some (Route c.in-Route.place)) c.link_from.ensures (c.in_ok-place.was ∙ ap Some c.in-Route.is)

pub returns-then-place-capacity : goal.returns-then-place-capacity
returns-then-place-capacity c =
    hung_route ipv4 laid4 _ _ _ _ _ _ c.chain_cell-cell.ensures _ c.requires.fit c.requires.first_lt_capacity.1 (routed (goal.at.returns-then-place-capacity c).In-Route) c.if-place-capacity.true

pub returns-else-place-capacity : goal.returns-else-place-capacity
returns-else-place-capacity c =
    let found = c.chain_cell-cell.ensures in
    hung_nowhere ipv4 laid4 _ _ _ _ _ _ found (λ j e l. omega (arith, routed (goal.at.returns-else-place-capacity c).In-Route))

pub returns-in-Inner : goal.returns-in-Inner
returns-in-Inner c =
    let inner = read_as _ _ (Some (Inner c.in-Inner.field-0)) c.link_from.ensures (c.in_ok-place.was ∙ ap Some c.in-Inner.is) in
    hung_nowhere ipv4 laid4 _ _ _ _ _ _ c.chain_cell-cell.ensures (λ j e l. omega arith)

pub returns-in_err-place : goal.returns-in_err-place
returns-in_err-place c =
    let nothing = read_as _ _ None c.link_from.ensures c.in_err-place.was in
    rw c.from_residual.ensures (hung_nowhere ipv4 laid4 _ _ _ _ _ _ c.chain_cell-cell.ensures (λ j e l. omega arith))
