-- In a trial the change is recorded; with no trial the words stay as they are.
use mathlib.Core.Path.{refl}
use native.Mathlib.Omega.{arith}
use Rattle.apply.proofs.make.note.Goals as goal

pub record_change-requires : goal.record_change-requires
record_change-requires c =
    (c.requires.fit.0, c.requires.pool_bound c.if-is_open.true, omega (arith, c.requires.fit.1))

pub returns-then-is_open : goal.returns-then-is_open
returns-then-is_open c =
    record { in_trial = λ k. c.record_change.ensures; without = λ k. absurd (k c.if-is_open.true) }

pub returns-else-is_open : goal.returns-else-is_open
returns-else-is_open c = record { in_trial = λ k. absurd (c.if-is_open.false k); without = λ k. refl }
