-- Each test that fails refuses the route by the field of `RouteFine` that it tests. Where none fails, the last test is the last field, so
-- it holds just where the route is fine.
use Prim.Native.Nat.{ℕ}
use mathlib.Core.Path.{◌≡◌, ap, sym, subst, ◌∙◌}
use mathlib.Core.Bool.{Bool, true, ◌&&◌}
use mathlib.Core.List.{List}
use mathlib.Core.Logic.{◌↔◌}
use native.Mathlib.Omega.{arith}
use Rattle.model.specs.Prefix.{well_formed}
use Rattle.model.specs.Ipv4.{Payload, may_hold}
use Rattle.model.specs.Routes.{Route}
use Rattle.model.specs.State.{good_payload}
use Rattle.model.proofs.Tests.{both, not_both}
use Rattle.pool.specs.Layout.{held_prefix}
use Rattle.pool.specs.Ipv4.{ipv4}
use Rattle.pool.specs.Means.{PayloadThere}
use Rattle.shape.proofs.Hanging.{refused}
use Rattle.shape.proofs.chain.route_is_good.Goals as goal
use Rattle.shape.proofs.chain.route_is_good.Goals.{Joined-well_formed, then-well_formed, else-well_formed}
use Rattle.shape.proofs.chain.route_is_good.Goals.{then-capacity-place-via-then-capacity-place}
use Rattle.shape.proofs.chain.route_is_good.Goals.{then-capacity-place-via-else-capacity-place+then-not-payload_there}

-- the words of the place are a payload's
there : (pool : List ℕ) (seat i : ℕ) (b : Bool) → seat ≡ ipv4.seat i → (b ≡ true) ↔ PayloadThere ipv4 pool seat
    → (b ≡ true) ↔ PayloadThere ipv4 pool (ipv4.seat i)
there pool seat i b e h = subst (λ (n : ℕ). (b ≡ true) ↔ PayloadThere ipv4 pool n) e h

pub returns-then-capacity-place : goal.returns-then-capacity-place
returns-then-capacity-place c = refused (λ f. elim c.then-capacity-place.branch [
  | then-capacity-place-via-then-capacity-place w ↦ omega (arith, f.in_pool, w.if-capacity-place.true)
  | then-capacity-place-via-else-capacity-place+then-not-payload_there w ↦
      not_both ((there _ _ _ _ w.seat.ensures w.payload_there.ensures).1 (f.used, f.known)) w.if-not-payload_there.true
])

-- the two tests of the prefix, of the place's
tested : (c : Joined-well_formed) →
    let prefix = held_prefix ipv4 c.args.pool.now c.args.place.0 in c.if-well_formed.value ≡ (well_formed 32 prefix && may_hold prefix)
tested c =
    let prefix = held_prefix ipv4 c.args.pool.now c.args.place.0 in
    let route = c.route_at-route.ensures in
    let formed = c.well_formed-2.ensures ∙ ap (λ (r : Route Payload). well_formed 32 r.prefix) route in
    elim c.if-well_formed.branch [
      | then-well_formed w ↦
          w.value-is
          ∙ w.may_be_held.ensures
          ∙ ap (λ (r : Route Payload). may_hold r.prefix) route
          ∙ ap (λ (b : Bool). b && may_hold prefix) (sym w.if-well_formed.true ∙ formed)
      | else-well_formed w ↦ w.value-is ∙ w.if-well_formed.false ∙ ap (λ (b : Bool). b && may_hold prefix) (sym w.if-well_formed.false ∙ formed)
    ]

pub returns-then-may_be_held : goal.returns-then-may_be_held
returns-then-may_be_held c =
    let words = (there _ _ _ _ c.seat.ensures c.payload_there.ensures).0 c.if-not-payload_there.false in
    let prefix = both _ _ (sym (tested (goal.at.returns-then-may_be_held c).Joined-well_formed) ∙ c.if-may_be_held.true) in
    let good = c.is_good.ensures ∙ ap (λ (r : Route Payload). good_payload ipv4.rules r.prefix r.payload) c.route_at-route.ensures in (
      λ t. record { in_pool = omega arith; used = words.0; known = words.1; obeys = (prefix.0, prefix.1, sym good ∙ t) },
      λ f. good ∙ f.obeys.2,
    )

pub returns-else-may_be_held : goal.returns-else-may_be_held
returns-else-may_be_held c = (
  λ t. absurd (not_both t c.if-may_be_held.false),
  λ f. tested (goal.at.returns-else-may_be_held c).Joined-well_formed ∙ rw f.obeys.0 f.obeys.1,
)
