-- The loop is partway down every tree that the words hold: the places passed are kept, and the part that is left stands at the link.
-- Each bit that is tested is later than the last, so what is left of the width falls. The ends at no root and at a leaf are laws: `ways_empty`, `ways_leaf`.
use Prim.Native.Nat.{◌-◌, ◌≤◌}
use mathlib.Core.Path.{◌≡◌}
use lib.ListN.{length}
use Rattle.pool.specs.Layout.{root_in}
use Rattle.pool.specs.Ipv4.{ipv4}
use Rattle.search.specs.Down.{AllUsable}
use Rattle.search.proofs.Partway.{AllPartway}
use Rattle.search.proofs.descent.down.Given as goal

abbrev pub invariant-loop-place : goal.invariant-loop-place
invariant-loop-place l =
    (length l.inner ≡ 32) × (l.depth ≤ l.lowest) × (l.lowest ≤ 32) × (root_in l.pool ≡ 0 → ⊥) × AllUsable ipv4 l.capacity l.pool l.inner l.depth
    × AllPartway ipv4 l.capacity l.pool l.destination l.inner l.depth l.link l.lowest

abbrev pub decreases-loop-place : goal.decreases-loop-place
decreases-loop-place l = 32 - l.lowest
