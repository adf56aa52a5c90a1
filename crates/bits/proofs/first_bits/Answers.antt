-- `bits::first_bits` meets its contract.
use mathlib.Core.Path.{sym, ap, ◌∙◌, refl}
use Prim.Native.Nat.{ℕ}
use Rattle.bits.specs.Address.{first}
use Rattle.bits.proofs.First.{first_none}
use Rattle.bits.proofs.first_bits.Goals as goal

pub returns-then-length-eq0 : goal.returns-then-length-eq0
returns-then-length-eq0 c =
    let a = c.args.address in
    sym (ap (λ (n : ℕ). first 32 n a) c.if-length-eq0.true ∙ first_none 32 a c.ranges.address.fits)

pub returns : goal.returns
unfolding first
returns c = refl
