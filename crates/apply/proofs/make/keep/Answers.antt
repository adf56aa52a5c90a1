-- The head of a closed trial is written: `keep_does`.
use Rattle.pool.specs.Ipv4.{ipv4}
use Rattle.pool.proofs.Ipv4.{laid4}
use Rattle.apply.proofs.Made.{keep_does}
use Rattle.apply.proofs.make.keep.Goals as goal

pub returns : goal.returns
returns c = λ s a. keep_does ipv4 laid4 _ _ _ s a c.write_head.ensures
