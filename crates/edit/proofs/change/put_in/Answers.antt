-- A free place is found, the plan says where the route goes in, and its row of words is written: one law of `Changed` for each
-- kind of plan. A route that parts from a leaf wants a free inner place as well.
use mathlib.Core.Path.{subst}
use native.Mathlib.Omega.{arith}
use Rattle.pool.specs.Ipv4.{ipv4}
use Rattle.pool.proofs.Ipv4.{laid4}
use Rattle.plan.specs.Plan.{PutRight}
use Rattle.plan.specs.Planned.{PutInPool}
use Rattle.edit.proofs.Changed.{put_route_spare, put_inner_spare, put_count, first_done, hung_done, joins_low, joined_done}
use Rattle.edit.proofs.change.put_in.Goals as goal

pub free-place-requires : goal.free-place-requires
free-place-requires c = record { fit = c.requires.fit; spare = put_route_spare ipv4 laid4 _ _ _ _ c.requires.to_put.1 }

pub put_hung-requires : goal.put_hung-requires
put_hung-requires c =
    let free = c.free-place.ensures.in_pool in
    let cell_in = c.in-Hang.ensures.put_in_pool in
    (omega (arith, c.requires.fit.1, free), omega (arith, c.requires.fit.0, free), put_count ipv4 laid4 _ _ _ _ c.requires.to_put.1 c.requires.fit, cell_in)

pub free-inner-requires : goal.free-inner-requires
free-inner-requires c = record { fit = c.requires.fit; spare = put_inner_spare ipv4 laid4 _ _ _ _ c.requires.to_put.1 }

pub put_joined-requires : goal.put_joined-requires
put_joined-requires c =
    let words = c.requires.fit in
    let free = c.free-place.ensures.in_pool in
    let inner = c.free-inner.ensures.in_pool in
    let told = c.in-Join.is in
    let cell_in = subst (PutInPool _ _) told c.plan_put.ensures.put_in_pool in
    let plan = subst (PutRight ipv4 _ _ _) told c.plan_put.ensures.put_right in
    let low = joins_low ipv4 laid4 _ _ _ _ c.requires.to_put.1 _ _ plan in
    record {
      next_offset_in_bounds = (omega (arith, words.1, free), omega (arith, words.0, free), put_count ipv4 laid4 _ _ _ _ c.requires.to_put.1 words, cell_in.0);
      inner_in_bounds = (omega (arith, words.1, inner), words.0, omega (arith, words.0, inner), low);
    }

pub returns-in-First : goal.returns-in-First
returns-in-First c =
    let plan = subst (PutRight ipv4 _ _ _) c.in-First.is c.plan_put.ensures.put_right in
    λ s p. first_done ipv4 laid4 _ _ _ s p _ _ c.free-place.ensures plan c.put_first.ensures

pub returns-in-Hang : goal.returns-in-Hang
returns-in-Hang c =
    let plan = subst (PutRight ipv4 _ _ _) c.in-Hang.is c.plan_put.ensures.put_right in
    λ s p. hung_done ipv4 laid4 _ _ _ s p _ _ _ c.free-place.ensures plan c.put_hung.ensures

pub returns-in-Join : goal.returns-in-Join
returns-in-Join c =
    let plan = subst (PutRight ipv4 _ _ _) c.in-Join.is c.plan_put.ensures.put_right in
    λ s p. joined_done ipv4 laid4 _ _ _ s p _ _ _ _ _ c.free-place.ensures c.free-inner.ensures
    plan c.put_joined.ensures
