-- A byte is no digit, or makes the number too great, or is one digit more: one law each.
use borrow.Author.Rules.{rules}
use Rattle.numeral.proofs.Digits.{no_digit, too_great, turn, ended}
use Rattle.numeral.proofs.number.decimal.Goals as goal

pub loop-b-init : goal.loop-b-init
loop-b-init c = (search rules, record { whole = λ n h. h; rest = λ n h. h })

pub returns-in_err-digit_of : goal.returns-in_err-digit_of
returns-in_err-digit_of c =
    rw c.from_residual.ensures (no_digit _ _ _ (search rules) c.loop-b.invariant.1 c.in_err-digit_of.ensures)

pub returns-in_err-value : goal.returns-in_err-value
returns-in_err-value c =
    rw c.from_residual-in_err-value.ensures (too_great _ _ _ (search rules) c.loop-b.invariant.1 _ c.in_ok-digit_of.ensures c.in_err-value.ensures)

pub loop-b-preserved : goal.loop-b-preserved
loop-b-preserved c =
    (c.loop-b.invariant.0, turn _ _ _ (search rules) c.loop-b.invariant.1 _ c.in_ok-digit_of.ensures _ c.in_ok-value.ensures.1)

pub returns : goal.returns
returns c = (c.loop-b.invariant.0, ended _ _ _ (search rules) c.loop-b.invariant.1)
