-- The route is put in (`add_to_put` says that it may be), then the change is noted: `add_does` from what the two ensure.
use Rattle.pool.specs.Ipv4.{ipv4}
use Rattle.pool.proofs.Ipv4.{laid4}
use Rattle.apply.proofs.Made.{add_to_put, add_slot, add_does}
use Rattle.apply.proofs.make.add.Goals as goal

pub put_in-requires-clause-to_put : goal.put_in-requires-clause-to_put
put_in-requires-clause-to_put c = (c.requires.accepted.0, add_to_put ipv4 laid4 _ _ _ _ c.requires.accepted.1)

pub note-requires-clause-pool_bound : goal.note-requires-clause-pool_bound
note-requires-clause-pool_bound c =
    let a = c.requires.accepted.1 in
    add_slot ipv4 laid4 _ _ _ _ a _ (c.put_in.ensures _ (add_to_put ipv4 laid4 _ _ _ _ a))

pub returns : goal.returns
returns c =
    λ s a. add_does ipv4 laid4 _ _ _ s a _ _ (c.put_in.ensures s (add_to_put ipv4 laid4 _ _ _ s a)) c.note.ensures
