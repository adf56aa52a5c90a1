-- The link is read, and the place that it names is tested. Where a test fails, no good tree stands at the link
-- (`not_nothing`, `route_inside`, `inner_inside`); where all pass, they are what is promised.
use mathlib.Core.Path.{◌≡◌, ap, ◌∙◌}
use native.Mathlib.Omega.{arith}
use Rattle.std.specs.Prelude.{Some, None}
use Rattle.std.proofs.lemmas.Result.{err_from_is_err_and}
use Rattle.pool.specs.Ipv4.{ipv4}
use Rattle.pool.specs.Link.{to_route, to_inner}
use Rattle.pool.specs.declared.link.Link.TheVariants.{Route, Inner}
use Rattle.pool.proofs.Unique.{not_nothing}
use Rattle.search.proofs.Sight.{read_as, route_inside, inner_inside}
use Rattle.search.proofs.descent.see.Goals as goal
use Rattle.search.proofs.descent.see.Goals.{In-Inner, In-Route}

-- what the link was read as
routed : (c : In-Route) → c.args.link ≡ to_route c.in-Route.place.0
routed c = read_as _ _ (Some (Route c.in-Route.place)) c.link_from.ensures (c.in_ok-place.ensures.ok_part ∙ ap Some c.in-Route.is)

inner : (c : In-Inner) → c.args.link ≡ to_inner c.in-Inner.place.0
inner c = read_as _ _ (Some (Inner c.in-Inner.place)) c.link_from.ensures (c.in_ok-place.ensures.ok_part ∙ ap Some c.in-Inner.is)

pub returns-then-capacity-place : goal.returns-then-capacity-place
returns-then-capacity-place c t h g s =
    let sure = inner_inside ipv4 _ _ _ _ _ t h g s (inner (goal.at.returns-then-capacity-place c).In-Inner) in
    omega arith

pub returns-then-mark-lowest : goal.returns-then-mark-lowest
returns-then-mark-lowest c t h g s =
    let sure = inner_inside ipv4 _ _ _ _ _ t h g s (inner (goal.at.returns-then-mark-lowest c).In-Inner) in
    omega arith

pub returns-then-mark-gt-WIDTH : goal.returns-then-mark-gt-WIDTH
returns-then-mark-gt-WIDTH c t h g s =
    let sure = inner_inside ipv4 _ _ _ _ _ t h g s (inner (goal.at.returns-then-mark-gt-WIDTH c).In-Inner) in
    omega arith

pub returns-in_err-place : goal.returns-in_err-place
returns-in_err-place c =
    let damaged = err_from_is_err_and c.from_residual.result c.from_residual.ensures.1 in
    rw damaged.1 (λ t h g s. not_nothing ipv4 _ _ _ t h (read_as _ _ None c.link_from.ensures c.in_err-place.ensures.ok_part))

pub returns-then-place-capacity : goal.returns-then-place-capacity
returns-then-place-capacity c = (c.if-place-capacity.true, routed (goal.at.returns-then-place-capacity c).In-Route)

pub returns-else-place-capacity : goal.returns-else-place-capacity
returns-else-place-capacity c t h g s =
    let sure = route_inside ipv4 _ _ _ _ t h (routed (goal.at.returns-else-place-capacity c).In-Route) in
    omega arith

pub returns-else-mark-gt-WIDTH : goal.returns-else-mark-gt-WIDTH
returns-else-mark-gt-WIDTH c =
    let inside = c.if-capacity-place.false in
    let mark = c.mark_at-mark.ensures in
    (omega arith, inner (goal.at.returns-else-mark-gt-WIDTH c).In-Inner, omega arith, omega arith, omega arith)
