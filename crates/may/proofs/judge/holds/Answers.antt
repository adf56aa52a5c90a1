-- The pool's own words are lent to `search::find`; what it finds there tells whether the prefix is held: `tells_holds`.
use mathlib.Core.Path.{refl}
use borrow.Author.Rules.{rules}
use Rattle.pool.specs.Ipv4.{ipv4}
use Rattle.pool.proofs.Ipv4.{laid4}
use Rattle.may.proofs.Mays.{tells_holds}
use Rattle.may.proofs.judge.holds.Goals as goal

pub returns-in-Ok-Some : goal.returns-in-Ok-Some
returns-in-Ok-Some c = tells_holds ipv4 laid4 _ _ _ c.requires c.size_of-own.ensures _ _ _ (rw c.in-Ok-Some.field-0-is at c.in-Ok-Some.ensures) refl

pub returns-in_default : goal.returns-in_default
returns-in_default c = tells_holds ipv4 laid4 _ _ _ c.requires c.size_of-own.ensures _ _ _ c.in_default.ensures (search rules)

pub returns-in_default-2 : goal.returns-in_default-2
returns-in_default-2 c = tells_holds ipv4 laid4 _ _ _ c.requires c.size_of-own.ensures _ _ _ (rw c.in_default.is at c.find.ensures) refl
