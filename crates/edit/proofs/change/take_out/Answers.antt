-- The plan says where the route comes out, and its row of words is written: one law of `Changed` for each kind of plan.
-- The route is there, so there is a plan: `nowhere_not`.
use native.Mathlib.Omega.{arith}
use Rattle.pool.specs.Ipv4.{ipv4}
use Rattle.pool.proofs.Ipv4.{laid4}
use Rattle.edit.proofs.Changed.{count_some, link_done, leaf_done, last_done, nowhere_not}
use Rattle.edit.proofs.change.take_out.Goals as goal

pub take_link-requires : goal.take_link-requires
take_link-requires c =
    let u = c.requires.fit in
    let v = (rw c.in-Some-Link.field-0-is at c.in-Some-Link.ensures).in_pool in
    (omega (arith, u.1, v.1), omega (arith, u.0, v.1), count_some ipv4 laid4 _ _ _ _ c.requires.to_take.1, v.0)

pub take_leaf-requires : goal.take_leaf-requires
take_leaf-requires c =
    let u = c.requires.fit in
    let v = (rw c.in-Some-Leaf.field-0-is at c.in-Some-Leaf.ensures).in_pool in
    record {
      next_offset_in_bounds = (omega (arith, u.1, v.2), omega (arith, u.0, v.2), count_some ipv4 laid4 _ _ _ _ c.requires.to_take.1, v.0);
      inner_in_bounds = (omega (arith, u.1, v.1), u.0, omega (arith, u.0, v.1));
    }

pub take_last-requires : goal.take_last-requires
take_last-requires c =
    let u = c.requires.fit in
    let v = (rw c.in-Some-Last.field-0-is at c.in-Some-Last.ensures).in_pool in
    (omega (arith, u.1, v), omega (arith, u.0, v), count_some ipv4 laid4 _ _ _ _ c.requires.to_take.1)

pub returns-in-Some-Link : goal.returns-in-Some-Link
returns-in-Some-Link c =
    let plan = rw c.in-Some-Link.field-0-is at c.in-Some-Link.ensures in
    λ s p. link_done ipv4 laid4 _ _ _ s p _ _ _ plan c.take_link.ensures

pub returns-in-Some-Leaf : goal.returns-in-Some-Leaf
returns-in-Some-Leaf c =
    let plan = rw c.in-Some-Leaf.field-0-is at c.in-Some-Leaf.ensures in
    λ s p. leaf_done ipv4 laid4 _ _ _ s p _ _ _ _ _ plan c.take_leaf.ensures

pub returns-in-Some-Last : goal.returns-in-Some-Last
returns-in-Some-Last c =
    let plan = rw c.in-Some-Last.field-0-is at c.in-Some-Last.ensures in
    λ s p. last_done ipv4 laid4 _ _ _ s p _ _ plan c.take_last.ensures

pub returns-in-None : goal.returns-in-None
returns-in-None c =
    let plan = c.in-None.ensures in
    λ s p. absurd (nowhere_not ipv4 laid4 _ _ _ s p plan)
