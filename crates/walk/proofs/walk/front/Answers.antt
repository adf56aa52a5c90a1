-- `leftmost` goes to a leaf, whose first route is the front.
use Rattle.pool.specs.Ipv4.{ipv4}
use Rattle.walk.proofs.Fronts.{fronts_leaf}
use Rattle.walk.proofs.walk.front.Goals as goal

pub returns : goal.returns
returns c = fronts_leaf ipv4 _ _ _ _ _ c.in_ok-place.ensures c.route_at.ensures
