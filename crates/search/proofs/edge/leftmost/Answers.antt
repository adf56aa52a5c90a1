use native.Mathlib.Omega.{arith}
use Rattle.pool.specs.Ipv4.{ipv4}
use Rattle.search.proofs.Left.{left_step}
use Rattle.search.proofs.edge.leftmost.Goals as goal

-- the new link is the one to the left side
pub loop-place-preserved : goal.loop-place-preserved
loop-place-preserved c =
    let turn = c.loop-place in
    let seen = rw c.in-Inner.is at c.in_ok-place.ensures in
    left_step ipv4 _ _ _ turn.link turn.lowest c.in-Inner.index _ c.in-Inner.place turn.invariant seen (omega arith)
