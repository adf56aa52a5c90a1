-- The route's row, the inner row with its two sides, the cell and the count, each as its own writer says, are the writes
-- of a join: `join_row`. Writes keep the length: `length_writes`.
use mathlib.Core.Path.{ap, ◌∙◌}
use lib.ListN.{length}
use Rattle.route.specs.Means.{route_of}
use Rattle.pool.specs.Ipv4.{ipv4}
use Rattle.rows.specs.Writes.{join_writes}
use Rattle.pool.proofs.Writes.{length_writes}
use Rattle.rows.proofs.Rows.{join_row}
use native.Mathlib.Omega.{arith}
use lib.ListN.{length-set}
use Rattle.enter_rows.proofs.put_joined.Goals as goal

pub bounds-pool-1-2 : goal.bounds-pool-1-2
bounds-pool-1-2 c = simp length-set (omega arith)

pub returns : goal.returns
returns c =
    let args = c.args in
    join_row ipv4 args.pool.now c.write_route.new.pool c.write_inner.new.pool args.capacity
    args.place.0 args.inner.0 args.index args.cell (route_of args.route) c.route_link.result
    c.sides-both.result.0 c.sides-both.result.1 c.inner_link.result
    c.route_link.ensures c.sides-both.ensures.0 c.sides-both.ensures.1 c.inner_link.ensures
    c.write_route.ensures c.write_inner.ensures

pub shape_of-pool : goal.shape_of-pool
shape_of-pool c =
    let args = c.args in
    let entered = join_writes ipv4 args.pool.now args.capacity args.place.0 args.inner.0 (route_of args.route) in
    ap length (returns c) ∙ length_writes (entered args.index args.cell) args.pool.now
