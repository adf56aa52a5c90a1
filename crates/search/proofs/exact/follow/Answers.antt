-- The link behind the route is read. Where it names a route in the pool whose length is below, that is what is promised;
-- else no good leaf has such a link (`chain_inside`, `chain_not_inner`), or it is the leaf's end.
use mathlib.Core.Path.{◌≡◌, sym, ap, ◌∙◌}
use native.Mathlib.Omega.{arith}
use Rattle.std.specs.Prelude.{Some, None}
use Rattle.model.specs.Prefix.{Prefix}
use Rattle.pool.specs.Layout.{next_at, held_prefix}
use Rattle.pool.specs.Ipv4.{ipv4}
use Rattle.pool.specs.Link.{to_route}
use Rattle.pool.specs.declared.link.Link.TheVariants.{Route, Inner}
use Rattle.search.proofs.Sight.{read_as}
use Rattle.search.proofs.Chain.{held_read, chain_inside, chain_not_inner}
use Rattle.search.proofs.exact.follow.Goals as goal
use Rattle.search.proofs.exact.follow.Goals.{After-prefix_at-prefix, In-Some-Route}

-- what the link was read as
routed : (c : In-Some-Route) → next_at ipv4 c.args.pool.now c.args.place.0 ≡ to_route c.in-Some-Route.next.0
routed c =
    let says = read_as _ _ (Some (Route c.in-Some-Route.next)) c.link_from.ensures (c.in-Some-Route.is ∙ ap Some c.in-Some-Route.field-0-is) in
    sym c.next_at.ensures ∙ says

-- the length that was read
measured : (c : After-prefix_at-prefix) → c.prefix_at-prefix.result.length.0 ≡ (held_prefix ipv4 c.args.pool.now c.in-Some-Route.next.0).length
measured c = ap (λ (p : Prefix). p.length) (held_read ipv4 _ _ _ _ c.seat.ensures c.prefix_at-prefix.ensures)

pub returns-then-capacity-next : goal.returns-then-capacity-next
returns-then-capacity-next c a es h s =
    let sure = chain_inside ipv4 _ _ _ _ _ _ es h s (routed (goal.at.returns-then-capacity-next c).In-Some-Route) in
    omega arith

pub returns-in-None : goal.returns-in-None
returns-in-None c =
    let says = read_as _ _ None c.link_from.ensures c.in-None.is in
    sym c.next_at.ensures ∙ says

pub returns-then-prefix-length : goal.returns-then-prefix-length
returns-then-prefix-length c =
    let inside = c.if-capacity-next.false in
    (omega arith, routed (goal.at.returns-then-prefix-length c).In-Some-Route, omega (arith, measured (goal.at.returns-then-prefix-length c).After-prefix_at-prefix))

pub returns-else-prefix-length : goal.returns-else-prefix-length
returns-else-prefix-length c a es h s =
    let sure = chain_inside ipv4 _ _ _ _ _ _ es h s (routed (goal.at.returns-else-prefix-length c).In-Some-Route) in
    omega (arith, measured (goal.at.returns-else-prefix-length c).After-prefix_at-prefix)

pub returns-in-Some-Inner : goal.returns-in-Some-Inner
returns-in-Some-Inner c a es h s =
    let says = read_as _ _ (Some (Inner c.in-Some-Inner.field-0-0)) c.link_from.ensures (c.in-Some-Inner.is ∙ ap Some c.in-Some-Inner.field-0-is) in
    chain_not_inner ipv4 _ _ _ _ _ es h (sym c.next_at.ensures ∙ says)
