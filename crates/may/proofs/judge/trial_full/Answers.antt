-- The head's word of the standing changes tells it: `tells_trial_full`.
use native.Mathlib.Omega.{arith}
use Rattle.pool.specs.Ipv4.{ipv4}
use Rattle.may.proofs.Mays.{tells_trial_full}
use Rattle.may.proofs.judge.trial_full.Goals as goal

pub returns : goal.returns
returns c = tells_trial_full ipv4 (omega arith) _
