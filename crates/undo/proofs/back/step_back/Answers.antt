-- The change is taken back, and then its record struck: `step_does` from what the two ensure.
use Rattle.pool.specs.Ipv4.{ipv4}
use Rattle.pool.proofs.Ipv4.{laid4}
use Rattle.undo.proofs.TakenBack.{strike_may, step_does}
use Rattle.undo.proofs.back.step_back.Goals as goal

pub strike-requires : goal.strike-requires
strike-requires c =
    strike_may ipv4 laid4 _ _ _ c.requires.accepted c.take_back.ensures

pub returns : goal.returns
returns c =
    step_does ipv4 laid4 _ _ _ _ c.take_back.ensures c.strike.ensures
