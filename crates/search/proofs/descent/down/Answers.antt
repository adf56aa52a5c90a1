use Prim.Native.Nat.{◌<◌}
use mathlib.Core.Path.{◌∙◌}
use native.Mathlib.Omega.{arith}
use lib.ListN.{length, length-set}
use Rattle.pool.specs.Ipv4.{ipv4}
use Rattle.search.proofs.Partway.{usable_more, step_down, ways_leaf, ways_empty}
use Rattle.search.proofs.descent.down.Goals as goal

pub returns-then-link-eq0 : goal.returns-then-link-eq0
returns-then-link-eq0 c = ways_empty ipv4 _ _ _ _ c.if-link-eq0.true

pub returns-in-Ok-Leaf : goal.returns-in-Ok-Leaf
returns-in-Ok-Leaf c =
    let turn = c.loop-place in
    let inv = turn.invariant in
    let seen = rw c.in-Ok-Leaf.field-0-is at c.in-Ok-Leaf.ensures in
    ways_leaf ipv4 _ _ _ _ _ turn.link turn.lowest c.in-Ok-Leaf.place.0 (omega arith) inv.4 inv.5 inv.3 seen

pub loop-place-preserved : goal.loop-place-preserved
loop-place-preserved c =
    let turn = c.loop-place in
    let inv = turn.invariant in
    let place = c.in-Ok-Inner.place.0 in
    let index = c.in-Ok-Inner.index in
    let seen = rw c.in-Ok-Inner.field-0-is at c.in-Ok-Inner.ensures in
    let room : turn.depth < length turn.inner = omega arith in (
      length-set turn.inner turn.depth place ∙ inv.0,
      omega arith,
      omega arith,
      inv.3,
      usable_more ipv4 _ _ turn.inner turn.depth _ index _ _ inv.4 room seen,
      step_down ipv4 _ _ _ _ _ _ _ _ index _ inv.5 room seen c.side_at-link.ensures,
    )
