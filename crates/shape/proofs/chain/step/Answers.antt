-- A route that the link leads to is at the place that the link was read as, so a test that fails there refuses every route.
-- Where no test fails, the place itself is the route that the link leads to.
use Prim.Native.Nat.{ℕ, ◌<◌}
use mathlib.Core.Path.{◌≡◌, ap, sym, subst, ◌∙◌}
use native.Mathlib.Omega.{arith}
use Rattle.std.proofs.lemmas.Option.{none-some}
use Rattle.std.specs.Prelude.{Some}
use Rattle.std.proofs.lemmas.Grind.{common_steps}
use Rattle.model.specs.Ipv4.{Payload}
use Rattle.model.specs.Routes as model
use Rattle.model.proofs.Tests.{not_both}
use Rattle.pool.specs.Ipv4.{ipv4}
use Rattle.pool.specs.Link.{to_route}
use Rattle.pool.specs.declared.link.Link.TheVariants.{Route}
use Rattle.pool.proofs.Words.{route_linked}
use Rattle.shape.specs.Chain.{address_at, length_at, RouteFine}
use Rattle.shape.proofs.Links.{route_from}
use Rattle.shape.proofs.chain.step.Goals as goal
use Rattle.shape.proofs.chain.step.Goals.{After-route_at-route, Else-not-route_is_good, In-Some-Route}

pub returns-in_default : goal.returns-in_default
returns-in_default c i f =
    let k : c.link_from.result ≡ Some (Route (record { 0 = i })) = c.link_from.ensures ∙ route_linked _ i f.linked in
    grind (arith, common_steps)

pub returns-in_default-2 : goal.returns-in_default-2
returns-in_default-2 c i f = none-some _ (sym c.in_default.is ∙ c.link_from.ensures ∙ route_linked _ i f.linked)

-- the link leads to that place
place_of : (c : In-Some-Route) → c.args.link ≡ to_route c.in-Some-Route.place.0
place_of c = route_from c.args.link c.in-Some-Route.place (sym c.in-Some-Route.ensures ∙ ap Some c.in-Some-Route.field-0-is)

-- and to no other
same_place : (c : In-Some-Route) (i : ℕ) → c.args.link ≡ to_route i → i ≡ c.in-Some-Route.place.0
same_place c i u = let v = place_of c in omega arith

pub returns-then-not-route_is_good : goal.returns-then-not-route_is_good
returns-then-not-route_is_good c i f =
    let same = same_place (goal.at.returns-then-not-route_is_good c).In-Some-Route i f.linked in
    not_both (c.route_is_good.ensures.1 (subst (RouteFine ipv4 _ _) same f.fine)) c.if-not-route_is_good.true

-- the route there is fine
fine : (c : Else-not-route_is_good) → RouteFine ipv4 c.args.capacity c.args.pool.now c.in-Some-Route.place.0
fine c = c.route_is_good.ensures.0 c.if-not-route_is_good.false

pub route_at-route-requires : goal.route_at-route-requires
route_at-route-requires c =
    let f = fine (goal.at.route_at-route-requires c).Else-not-route_is_good in
    omega arith

-- its address and its length are those of the place
address_read : (c : After-route_at-route) → c.route_at-route.result.prefix.address ≡ address_at ipv4 c.args.pool.now c.in-Some-Route.place.0
address_read c = ap (λ (r : model.Route Payload). r.prefix.address) c.route_at-route.ensures

length_read : (c : After-route_at-route) → c.route_at-route.result.prefix.length.0 ≡ length_at ipv4 c.args.pool.now c.in-Some-Route.place.0
length_read c = ap (λ (r : model.Route Payload). r.prefix.length) c.route_at-route.ensures

pub returns-then-prefix-address : goal.returns-then-prefix-address
returns-then-prefix-address c i f =
    let same = same_place (goal.at.returns-then-prefix-address c).In-Some-Route i f.linked in
    c.if-prefix-address.true
    (address_read (goal.at.returns-then-prefix-address c).After-route_at-route
    ∙ ap (address_at ipv4 c.args.pool.now) (sym same)
    ∙ f.address)

pub returns-then-bound-prefix : goal.returns-then-bound-prefix
returns-then-bound-prefix c i f =
    let same = same_place (goal.at.returns-then-bound-prefix c).In-Some-Route i f.linked in
    let n =
    length_read (goal.at.returns-then-bound-prefix c).After-route_at-route
    ∙ ap (length_at ipv4 c.args.pool.now) (sym same) in
    omega arith

pub next_at-requires : goal.next_at-requires
next_at-requires c =
    let f = fine (goal.at.next_at-requires c).Else-not-route_is_good in
    omega arith

pub returns : goal.returns
returns c =
    let read = (goal.at.returns c).After-route_at-route in (
      c.in-Some-Route.place.0,
      record {
        linked = place_of (goal.at.returns c).In-Some-Route;
        fine = fine (goal.at.returns c).Else-not-route_is_good;
        address = sym (address_read read) ∙ c.if-prefix-address.false;
        shorter =
            subst (λ (x : ℕ). x < c.args.bound.0) (length_read read) c.if-bound-prefix.false;
      },
      c.next_at.ensures,
      length_read read,
    )
