-- The inner loop goes along a leaf's routes, none of which matched; the outer one goes up the way, leaf by leaf, and whatever matches
-- is still to come. The lengths fall in a leaf, the level from leaf to leaf.
-- It ends at a route that matches (`climbs_hit`), at the top (`climbs_top`), or where the words are no tree (`climbs_lost`).
use Prim.Native.Nat.{◌≤◌, ◌<◌}
use Rattle.pool.specs.Layout.{held_prefix}
use Rattle.pool.specs.Ipv4.{ipv4}
use Rattle.search.specs.Down.{AllUsable}
use Rattle.climb.proofs.Climbing.{Matching, AllClimbing}
use Rattle.climb.proofs.climb.climb.Given as goal

abbrev pub invariant-loop-inner : goal.invariant-loop-inner
invariant-loop-inner l =
    (l.place.0 < l.capacity) × Matching ipv4 l.capacity l.pool l.destination l.initial.place.0 l.place.0

abbrev pub decreases-loop-inner : goal.decreases-loop-inner
decreases-loop-inner l = (held_prefix ipv4 l.pool l.place.0).length

abbrev pub invariant-climb : goal.invariant-climb
invariant-climb l =
    (l.level ≤ 32) × AllUsable ipv4 l.capacity l.pool l.inner l.level × (l.first.0 < l.capacity)
    × AllClimbing ipv4 l.capacity l.pool l.destination l.inner l.level l.first.0

abbrev pub decreases-climb : goal.decreases-climb
decreases-climb l = l.level
