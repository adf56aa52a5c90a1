-- The newest recorded change is read off its slot: its prefix, its payload before and its action. One return for each action:
-- an add is taken out again (`add_undone`), a delete put back (`delete_undone`), a change swapped back (`change_undone`).
use mathlib.Core.Path.{sym, ap, ◌∙◌}
use native.Mathlib.Omega.{arith}
use Rattle.pool.specs.Action.{action_from}
use Rattle.pool.specs.Ipv4.{ipv4}
use Rattle.undo.proofs.TakenBack.{word_is, newest, readable, to_take, to_put, add_undone, delete_undone, change_undone}
use Rattle.undo.proofs.back.take_back.Goals as goal

pub overflow_sub-newest : goal.overflow_sub-newest
overflow_sub-newest c = omega (arith, (newest ipv4 _ _ _ c.requires.accepted.1).stands)

pub slot-at-requires : goal.slot-at-requires
slot-at-requires c = omega (arith, c.requires.fit, (newest ipv4 _ _ _ c.requires.accepted.1).few)

pub prefix_at-prefix-requires : goal.prefix_at-prefix-requires
prefix_at-prefix-requires c = omega (arith, c.requires.fit, (newest ipv4 _ _ _ c.requires.accepted.1).few, c.slot-at.ensures)

pub payload_at-payload-requires : goal.payload_at-payload-requires
payload_at-payload-requires c = omega (arith, c.requires.fit, (newest ipv4 _ _ _ c.requires.accepted.1).few, c.slot-at.ensures)

pub bounds-pool-at : goal.bounds-pool-at
bounds-pool-at c = omega (arith, c.requires.fit, (newest ipv4 _ _ _ c.requires.accepted.1).few, c.slot-at.ensures)

pub take_out-requires-clause-to_take : goal.take_out-requires-clause-to_take
take_out-requires-clause-to_take c =
    let one = word_is _ _ _ _ c.from_word-action.ensures c.in-Some-Added.is (rw c.in-Some-Added.is at c.in-Some-Added.field-0-is) in
    (c.requires.accepted.0, to_take ipv4 _ _ _ c.requires.accepted.1 _ c.slot-at.ensures _ c.prefix_at-prefix.ensures (λ z. omega (arith, z, one)))

pub put_in-requires-clause-to_put : goal.put_in-requires-clause-to_put
put_in-requires-clause-to_put c =
    let two = word_is _ _ _ _ c.from_word-action.ensures c.in-Some-Deleted.is (rw c.in-Some-Deleted.is at c.in-Some-Deleted.field-0-is) in
    (c.requires.accepted.0, to_put ipv4 _ _ _ c.requires.accepted.1 _ c.slot-at.ensures _ c.prefix_at-prefix.ensures _ c.payload_at-payload.ensures (omega (arith, two)))

pub swap-requires-clause-to_take : goal.swap-requires-clause-to_take
swap-requires-clause-to_take c =
    let three = word_is _ _ _ _ c.from_word-action.ensures c.in-Some-Changed.is (rw c.in-Some-Changed.is at c.in-Some-Changed.field-0-is) in
    (c.requires.accepted.0, to_take ipv4 _ _ _ c.requires.accepted.1 _ c.slot-at.ensures _ c.prefix_at-prefix.ensures (λ z. omega (arith, z, three)))

pub returns-in-Some-Added : goal.returns-in-Some-Added
returns-in-Some-Added c =
    let at = c.slot-at.ensures in
    let read = c.prefix_at-prefix.ensures in
    let one = word_is _ _ _ _ c.from_word-action.ensures c.in-Some-Added.is (rw c.in-Some-Added.is at c.in-Some-Added.field-0-is) in
    λ s a. add_undone ipv4 _ _ s a _ at _ read _ (omega (arith, one))
    (c.take_out.ensures s (to_take ipv4 _ _ s a _ at _ read (λ z. omega (arith, z, one))))

pub returns-in-Some-Deleted : goal.returns-in-Some-Deleted
returns-in-Some-Deleted c =
    let at = c.slot-at.ensures in
    let read = c.prefix_at-prefix.ensures in
    let old = c.payload_at-payload.ensures in
    let two = word_is _ _ _ _ c.from_word-action.ensures c.in-Some-Deleted.is (rw c.in-Some-Deleted.is at c.in-Some-Deleted.field-0-is) in
    λ s a. delete_undone ipv4 _ _ s a _ at _ read _ old _ (omega (arith, two))
    (c.put_in.ensures s (to_put ipv4 _ _ s a _ at _ read _ old (omega (arith, two))))

pub returns-in-Some-Changed : goal.returns-in-Some-Changed
returns-in-Some-Changed c =
    let at = c.slot-at.ensures in
    let read = c.prefix_at-prefix.ensures in
    let old = c.payload_at-payload.ensures in
    let three = word_is _ _ _ _ c.from_word-action.ensures c.in-Some-Changed.is (rw c.in-Some-Changed.is at c.in-Some-Changed.field-0-is) in
    λ s a. change_undone ipv4 _ _ s a _ at _ read _ old _ (omega (arith, three))
    (c.swap.ensures s (to_take ipv4 _ _ s a _ at _ read (λ z. omega (arith, z, three))))

pub returns-in-None : goal.returns-in-None
returns-in-None c =
    let none = sym c.from_word-action.ensures ∙ c.in-None.is in
    λ s a. absurd (readable ipv4 _ _ s a _ c.slot-at.ensures _ c.prefix_at-prefix.ensures (ap action_from (omega arith) ∙ none))
