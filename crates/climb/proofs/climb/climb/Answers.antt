use mathlib.Core.Path.{◌≡◌, sym, ap, subst, ◌∙◌}
use native.Mathlib.Omega.{arith}
use Rattle.std.specs.Prelude.{Some}
use Rattle.std.proofs.lemmas.Result.{err_from_is_err_and}
use Rattle.model.specs.Prefix.{matches}
use Rattle.model.specs.Routes.{Route}
use Rattle.model.specs.Ipv4.{Payload}
use Rattle.route.specs.declared.answer.Refusal.TheVariants.{NoMatch}
use Rattle.pool.specs.Layout.{held_prefix}
use Rattle.pool.specs.Ipv4.{ipv4}
use Rattle.search.specs.Down.{EndInPool}
use Rattle.search.specs.Edge.{Rises}
use Rattle.climb.proofs.Climbing.{Unmatched, match_start, match_next, match_end}
use Rattle.climb.proofs.Climbing.{climb_start, climbs_hit, climbs_top, climb_on, climbs_lost}
use Rattle.climb.proofs.climb.climb.Goals as goal
use Rattle.climb.proofs.climb.climb.Goals.{After-matches, In_ok-level, In-None}

-- what the test of the route that was read says of the place
tested : (c : After-matches) → matches 32 (held_prefix ipv4 c.args.pool.now c.loop-inner.place.0) c.args.destination ≡ c.matches.result
tested c = sym (c.matches.ensures ∙ ap (λ (r : Route Payload). matches 32 r.prefix c.args.destination) c.route_at-route.ensures)

-- no route of the leaf matched
unmatched : (c : In-None) → Unmatched ipv4 c.args.capacity c.args.pool.now c.args.destination c.climb.first.0
unmatched c =
    let last = rw c.in-None.is at c.in_ok-next.ensures in
    let test = c.matches.ensures ∙ ap (λ (r : Route Payload). matches 32 r.prefix c.args.destination) c.route_at-route.ensures in
    match_end ipv4 _ _ _ _ _ c.loop-inner.invariant.1 (sym test ∙ c.if-matches.false) last

-- the level that the climb goes on from
rose : (c : In_ok-level) → Rises ipv4 c.args.capacity c.args.pool.now c.args.destination 1 c.args.way.inner c.climb.level (Some c.in_ok-level.level)
rose c = rw c.in_ok-level.ensures.ok_part at c.ascend-below.ensures

pub climb-init : goal.climb-init
climb-init c =
    let way = c.requires.ways.0 in
    let leaf = c.requires.ways.1 in
    (way.shallow, way.usable, subst (EndInPool _) leaf way.end_in_pool, climb_start ipv4 _ _ _ _ _ _ _ way leaf)

pub loop-inner-init : goal.loop-inner-init
loop-inner-init c = (c.climb.invariant.2, match_start ipv4 _ _ _ _)

pub loop-inner-preserved : goal.loop-inner-preserved
loop-inner-preserved c =
    let hung = rw c.in-Some.is at c.in_ok-next.ensures in
    let inv = c.loop-inner.invariant in
    (hung.0, match_next ipv4 _ _ _ _ _ _ inv.1 (tested (goal.at.loop-inner-preserved c).After-matches ∙ c.if-matches.false) hung.1)

pub climb-preserved : goal.climb-preserved
climb-preserved c =
    let inv = c.climb.invariant in
    let up = rose (goal.at.climb-preserved c).In_ok-level in
    let leaf = rw c.left_at.ensures at c.in_ok-first.ensures in (
      omega arith,
      λ k l. inv.1 k (omega arith),
      leaf.in_pool,
      climb_on ipv4 _ _ _ _ _ _ inv.3 _ _ (unmatched (goal.at.climb-preserved c).In-None) up leaf,
    )

pub returns : goal.returns
returns c =
    let climbing = c.climb.invariant.3 in
    let hit = tested (goal.at.returns c).After-matches ∙ c.if-matches.true in
    climbs_hit ipv4 _ _ _ _ _ _ climbing _ _ c.loop-inner.invariant.1 hit c.route_at-route.ensures

pub returns-in_err-level : goal.returns-in_err-level
returns-in_err-level c =
    let top = rw c.in_err-level.ensures.ok_part at c.ascend-below.ensures in
    let refusal = err_from_is_err_and c.from_residual-in_err-level.result c.from_residual-in_err-level.ensures.1 in
    let refused = rw c.in_err-level.ensures.ok_part at c.in_err-level.ensures.value in
    let number : refusal.0 ≡ NoMatch = cc in
    rw (refusal.1, number) (climbs_top ipv4 _ _ _ _ _ _ c.climb.invariant.3 (unmatched (goal.at.returns-in_err-level c).In-None) top)

pub returns-in_err-first : goal.returns-in_err-first
returns-in_err-first c =
    let climbing = c.climb.invariant.3 in
    let damage = err_from_is_err_and c.from_residual-in_err-first.result c.from_residual-in_err-first.ensures.1 in
    let left = rw c.left_at.ensures at c.in_err-first.ensures in
    rw (damage.1, damage.2)
    (climbs_lost ipv4 _ _ _ _ _ _ climbing _ (unmatched (goal.at.returns-in_err-first c).In-None) (rose (goal.at.returns-in_err-first c).In_ok-level) left)
