-- Past the end nothing is written. Else the one word is set.
use mathlib.Core.Path.{refl}
use mathlib.Core.Logic.{inl, inr}
use native.Mathlib.Omega.{arith}
use Rattle.perform.proofs.poke.Goals as goal

pub returns-then-words-i : goal.returns-then-words-i
returns-then-words-i c = inr (omega arith, refl, refl)

pub returns : goal.returns
returns c = inl (omega arith, refl, refl)
