-- The pool's own words are lent on; what they tell, the pool tells: `tells_guarded`.
use Rattle.pool.specs.Ipv4.{ipv4}
use Rattle.pool.proofs.Ipv4.{laid4}
use Rattle.may.proofs.Mays.{tells_guarded}
use Rattle.may.proofs.judge.guarded.Goals as goal

pub returns : goal.returns
returns c = tells_guarded ipv4 laid4 _ _ _ c.requires c.size_of-own.ensures _ _ _ c.guarded_in.ensures
