-- The hop that is held is read, the route taken out, then the change is noted: `delete_does` from what the three ensure.
use Rattle.pool.specs.Ipv4.{ipv4}
use Rattle.pool.proofs.Ipv4.{laid4}
use Rattle.apply.proofs.Made.{delete_to_take, delete_slot, delete_does}
use Rattle.apply.proofs.make.delete.Goals as goal

pub take_out-requires-clause-to_take : goal.take_out-requires-clause-to_take
take_out-requires-clause-to_take c = (c.requires.accepted.0, delete_to_take ipv4 laid4 _ _ _ _ _ c.requires.accepted.1)

pub note-requires-clause-pool_bound : goal.note-requires-clause-pool_bound
note-requires-clause-pool_bound c =
    let a = c.requires.accepted.1 in
    delete_slot ipv4 laid4 _ _ _ _ _ a _ (c.take_out.ensures _ (delete_to_take ipv4 laid4 _ _ _ _ _ a))

pub returns : goal.returns
returns c =
    λ s a. delete_does ipv4 laid4 _ _ _ _ s a _ _ _ (λ r k. c.held_payload-old.ensures s a.means a.capacity_is r k)
    (c.take_out.ensures s (delete_to_take ipv4 laid4 _ _ _ _ s a)) c.note.ensures
