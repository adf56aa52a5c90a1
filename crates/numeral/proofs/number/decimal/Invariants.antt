-- What the digits still to read spell behind the number read so far, all of them spell, and nothing else.
use Prim.Native.Nat.{◌<◌}
use lib.ListN.{length}
use Rattle.numeral.proofs.Digits.{SoFar}
use Rattle.numeral.proofs.number.decimal.Given as goal

abbrev pub invariant-loop-b : goal.invariant-loop-b
invariant-loop-b l = (0 < length l.s) × SoFar l.s l.b-index l.value
