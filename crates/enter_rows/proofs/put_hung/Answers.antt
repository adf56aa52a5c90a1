-- `write_route` writes the row before the one that the cell led to, and the two words behind it, the cell and the count,
-- are two writes more: `two_more`.
use Prim.Native.Nat.{ℕ, ◌+◌}
use mathlib.Core.Path.{ap, ◌∙◌}
use lib.ListN.{set}
use Rattle.route.specs.Means.{route_of}
use Rattle.pool.specs.Layout.{word}
use Rattle.pool.specs.Ipv4.{ipv4}
use Rattle.rows.specs.Writes.{route_writes}
use Rattle.rows.proofs.Rows.{two_more}
use native.Mathlib.Omega.{arith}
use lib.ListN.{length-set}
use Rattle.enter_rows.proofs.put_hung.Goals as goal

pub bounds-pool-1-2 : goal.bounds-pool-1-2
bounds-pool-1-2 c = simp length-set (omega arith)

pub returns : goal.returns
returns c =
    let args = c.args in
    let row = c.write_route in
    let entered = route_writes ipv4 args.place.0 (route_of args.route) (word args.pool.now args.cell) in
    ap (λ (v : ℕ). set (set row.new.pool args.cell v) 1 (word args.pool.now 1 + 1)) c.route_link.ensures
    ∙ two_more args.pool.now row.new.pool entered args.cell _ 1 _ row.ensures
