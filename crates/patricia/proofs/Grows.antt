-- That the bit number grows from parent to child follows from the rest of document 01's sentence: leaves that share the bits before a node's own,
-- and have the same bit there, can only part further on. The clause stands in `NodeObeys` because document 01 states it.
use Prim.Native.Nat.{ℕ, ◌<◌}
use mathlib.Core.Path.{◌≡◌, ap}
use native.Mathlib.Nat.{le_of_lt}
use native.Mathlib.Omega.{arith}
use Rattle.bits.specs.Address.{first, bit}
use Rattle.bits.proofs.Cases.{Compared, lower, same, higher, compared}
use Rattle.bits.proofs.First.{bit_fewer}

-- x and y are leaves of a node's one side, which have 0 and 1 at the bit c of the child there
pub grows_anyway : (W b c x y : ℕ) → b < W → first W b x ≡ first W b y → bit W b x ≡ bit W b y → bit W c x ≡ 0 → bit W c y ≡ 1 → b < c
grows_anyway W b c x y h s e p q = go (compared b c)
  where
    go : Compared b c → b < c
    go (lower l) = l
    go (same f) = absurd (omega (arith, p, q, e, ap (λ (n : ℕ). bit W n x) f, ap (λ (n : ℕ). bit W n y) f))
    go (higher l) = absurd (omega (arith, p, q, bit_fewer W c b x y l (le_of_lt h) s))
