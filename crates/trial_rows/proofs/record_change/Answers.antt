-- The action, the prefix, the two payloads and the count, written from the place that `slot` says, are the writes of a record:
-- `record_row`.
use Rattle.route.specs.Means.{prefix_of, payload_of}
use Rattle.pool.specs.Layout.{word}
use Rattle.pool.specs.Ipv4.{ipv4}
use Rattle.rows.proofs.Rows.{record_row}
use Rattle.trial_rows.proofs.record_change.Goals as goal

pub returns : goal.returns
returns c =
    let args = c.args in
    rw (← c.word.ensures) (record_row ipv4 args.pool.now c.write_prefix.new.pool c.write_payload.new.pool c.write_payload-2.new.pool
    args.capacity (word args.pool.now 4) c.slot-at.result c.word.result
    (prefix_of args.prefix) (payload_of args.old) (payload_of args.new)
    c.slot-at.ensures c.write_prefix.ensures c.write_payload.ensures c.write_payload-2.ensures)
