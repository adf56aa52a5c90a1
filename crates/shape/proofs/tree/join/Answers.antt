-- Each test that fails leaves no common start of the two sides, and needs only arithmetic. Where all hold, the start is half of what the
-- left side's lowest address begins with, and the span is what the two sides' spans make.
use Prim.Native.Nat.{◌/◌}
use mathlib.Core.Path.{refl}
use native.Mathlib.Omega.{arith}
use Rattle.shape.proofs.tree.join.Goals as goal

pub returns : goal.returns
returns c =
    let zero = c.first_bits-zero.result in (
      (
        zero / 2,
        record {
          left_least = omega arith;
          left_greatest = omega arith;
          right_least = omega arith;
          right_greatest = omega arith;
        },
      ),
      refl,
      refl,
      refl,
      refl,
    )
