-- A root link of 0 holds no route.
use Rattle.pool.specs.Ipv4.{ipv4}
use Rattle.walk.proofs.Fronts.{firsts_empty}
use Rattle.walk.proofs.walk.first.Goals as goal

pub returns-then-is_empty : goal.returns-then-is_empty
returns-then-is_empty c = firsts_empty ipv4 _ _ c.if-is_empty.true
