-- Each test of the head that fails refuses it, by arithmetic from the word read; past the last, all fields of a fine head are arithmetic
-- but the last: with no trial open, none stands exactly when that word is 0.
use native.Mathlib.Omega.{arith}
use borrow.Author.Tests.{eqb-true, eq-eqb}
use Rattle.audit.proofs.head.head_is_good.Goals as goal

pub returns : goal.returns
returns c = (
  λ t. record {
    at_least_one = omega arith;
    in_range = omega arith;
    capacity_there = omega arith;
    trial_known = omega arith;
    few = omega arith;
    none_standing = λ e. omega (arith, eqb-true _ 0 t);
  },
  λ f. eq-eqb _ 0 (f.none_standing (omega arith)),
)
