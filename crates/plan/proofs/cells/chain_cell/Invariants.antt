-- The loop's invariant: the place is in the pool, the cell is one of the chain's, and on any chain from the first place, the routes before the
-- cell are longer. The measure is the length at the place, which falls along the chain. A route that is not longer is `chain_here`; a chain
-- that ends or is damaged behind a longer one is `chain_left`.
use Prim.Native.Nat.{◌+◌, ◌<◌}
use Rattle.pool.specs.Layout.{prefix_at}
use Rattle.pool.specs.Ipv4.{ipv4}
use Rattle.pool.specs.Link.{to_route}
use Rattle.plan.proofs.ChainAt.{AllAt, CellFrom}
use Rattle.plan.proofs.cells.chain_cell.Given as goal

abbrev pub invariant-loop-length : goal.invariant-loop-length
invariant-loop-length l =
    (l.place.0 < l.capacity) × CellFrom ipv4 l.capacity l.pool l.from l.length.0 l.cell
    × AllAt ipv4 l.capacity l.pool l.from l.length.0 l.initial.place.0 l.cell (to_route l.place.0)

abbrev pub decreases-loop-length : goal.decreases-loop-length
decreases-loop-length l = (prefix_at ipv4 l.pool (ipv4.seat l.place.0 + ipv4.prefix_offset)).length
