-- The loop's invariant: for every list of routes that the tree holds, the changes from `change` on are taken back, which leaves `held` routes
-- (`Standing`). One that cannot be taken back stops it (`standing_stop`); with none left, `standing_end`.
use Prim.Native.Nat.{◌≤◌}
use mathlib.Core.Path.{◌≡◌}
use mathlib.Core.List.{List}
use lib.ListN.{length}
use Rattle.model.specs.Routes.{Route}
use Rattle.model.specs.Ipv4.{Payload}
use Rattle.pool.specs.Ipv4.{ipv4}
use Rattle.standing.specs.Changes.{Tabled}
use Rattle.standing.proofs.Turning.{Standing}
use Rattle.standing.proofs.changes.can_take_back.Given as goal

abbrev pub invariant-loop-change : goal.invariant-loop-change
invariant-loop-change l =
    (l.held ≤ l.capacity)
    × ((routes : List (Route Payload)) → Tabled ipv4 l.capacity l.pool routes → l.routes ≡ length routes
    → Standing ipv4 l.capacity l.pool l.standing l.change l.held routes)
