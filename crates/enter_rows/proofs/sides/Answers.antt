-- The two sides go by the bit of the address at the index, which is 0 in the one branch and, being below 2, 1 in the other.
use mathlib.Core.Path.{◌≡◌, refl, sym, ◌∙◌}
use native.Mathlib.Omega.{arith}
use Rattle.bits.specs.Address.{bit}
use Rattle.bits.proofs.First.{bit_lt}
use Rattle.enter_rows.proofs.sides.Goals as goal

pub returns-then-on_left : goal.returns-then-on_left
returns-then-on_left c =
    let args = c.args in
    let zero : bit 32 args.index args.address ≡ 0 = sym c.bit_of-on_left.ensures ∙ c.if-on_left.true in
    rw zero (refl, refl)

pub returns-else-on_left : goal.returns-else-on_left
returns-else-on_left c =
    let args = c.args in
    let below = bit_lt 32 args.index args.address in
    let one : bit 32 args.index args.address ≡ 1 = omega (arith, c.bit_of-on_left.ensures, below, c.if-on_left.false) in
    rw one (refl, refl)
