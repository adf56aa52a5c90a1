-- The payload, the prefix and the link of a row, written from the place that `seat` says, are its writes: `route_row`.
-- Writes keep the length: `length_writes`.
use mathlib.Core.Path.{ap, ◌∙◌}
use lib.ListN.{length}
use Rattle.route.specs.Means.{payload_of, prefix_of, route_of}
use Rattle.pool.specs.Ipv4.{ipv4}
use Rattle.rows.specs.Writes.{route_writes}
use Rattle.pool.proofs.Writes.{length_writes}
use Rattle.rows.proofs.Rows.{route_row}
use Rattle.enter_rows.proofs.write_route.Goals as goal

pub returns : goal.returns
returns c =
    let args = c.args in
    route_row ipv4 args.pool.now c.write_payload.new.pool c.write_prefix.new.pool args.place.0 c.seat-at.result
    (payload_of args.route.payload) (prefix_of args.route.prefix) args.next
    c.seat-at.ensures c.write_payload.ensures c.write_prefix.ensures

pub shape_of-pool : goal.shape_of-pool
shape_of-pool c =
    let args = c.args in
    ap length (returns c) ∙ length_writes (route_writes ipv4 args.place.0 (route_of args.route) args.next) args.pool.now
