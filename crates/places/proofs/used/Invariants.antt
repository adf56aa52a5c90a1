-- The invariant: the count is the tally of the places below that are used. A tally is no more than the places, so the count can't wrap.
use mathlib.Core.Path.{◌≡◌}
use Rattle.pool.specs.Ipv4.{ipv4}
use Rattle.places.specs.Marks.{tally, is_used}
use Rattle.places.proofs.used.Given as goal

abbrev pub invariant-loop-at : goal.invariant-loop-at
invariant-loop-at l = l.count ≡ tally (is_used ipv4 l.capacity l.pool l.sort) l.at
