-- The payload that is held is read, the new one written, then the change is noted: `change_does` from what the three ensure.
use Rattle.pool.specs.Ipv4.{ipv4}
use Rattle.pool.proofs.Ipv4.{laid4}
use Rattle.apply.proofs.Made.{change_to_take, change_slot, change_does}
use Rattle.apply.proofs.make.change.Goals as goal

pub swap-requires-clause-to_take : goal.swap-requires-clause-to_take
swap-requires-clause-to_take c = (c.requires.accepted.0, change_to_take ipv4 laid4 _ _ _ _ c.requires.accepted.1)

pub note-requires-clause-pool_bound : goal.note-requires-clause-pool_bound
note-requires-clause-pool_bound c =
    let a = c.requires.accepted.1 in
    change_slot ipv4 laid4 _ _ _ _ a _ (c.swap.ensures _ (change_to_take ipv4 laid4 _ _ _ _ a))

pub returns : goal.returns
returns c =
    λ s a. change_does ipv4 laid4 _ _ _ s a _ _ _ (λ r k. c.held_payload-old.ensures s a.means a.capacity_is r k)
    (c.swap.ensures s (change_to_take ipv4 laid4 _ _ _ s a)) c.note.ensures
