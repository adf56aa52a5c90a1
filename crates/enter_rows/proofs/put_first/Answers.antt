-- `write_route` writes the row, and the two words behind it, the root and the count, are two writes more: `two_more`.
use Rattle.pool.specs.Layout.{word}
use Prim.Native.Nat.{ℕ, ◌+◌}
use mathlib.Core.Path.{ap, ◌∙◌}
use native.Mathlib.Omega.{arith}
use lib.ListN.{set, length-set}
use Rattle.route.specs.Means.{route_of}
use Rattle.pool.specs.Ipv4.{ipv4}
use Rattle.rows.specs.Writes.{route_writes}
use Rattle.rows.proofs.Rows.{two_more}
use Rattle.enter_rows.proofs.put_first.Goals as goal

pub bounds-pool-1-2 : goal.bounds-pool-1-2
bounds-pool-1-2 c = omega (arith, length-set c.write_route.new.pool 2 c.route_link.result)

pub returns : goal.returns
returns c =
    let args = c.args in
    let row = c.write_route in
    let entered = route_writes ipv4 args.place.0 (route_of args.route) 0 in
    ap (λ (v : ℕ). set (set row.new.pool 2 v) 1 (word args.pool.now 1 + 1)) c.route_link.ensures
    ∙ two_more args.pool.now row.new.pool entered 2 _ 1 _ row.ensures
