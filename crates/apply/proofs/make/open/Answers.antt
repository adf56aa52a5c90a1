-- The head of an open trial with no change is written: `open_does`.
use Rattle.pool.specs.Ipv4.{ipv4}
use Rattle.pool.proofs.Ipv4.{laid4}
use Rattle.apply.proofs.Made.{open_does}
use Rattle.apply.proofs.make.open.Goals as goal

pub returns : goal.returns
returns c = λ s a. open_does ipv4 laid4 _ _ _ s a c.write_head.ensures
