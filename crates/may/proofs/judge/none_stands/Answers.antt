-- The head's word of the standing changes tells it: `tells_standing`, at 0.
use Rattle.pool.specs.Ipv4.{ipv4}
use Rattle.may.proofs.Mays.{tells_standing}
use Rattle.may.proofs.judge.none_stands.Goals as goal

pub returns : goal.returns
returns c = tells_standing ipv4 _ 0
