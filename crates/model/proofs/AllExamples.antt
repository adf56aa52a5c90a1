-- The starred examples of document 01 hold: one statement, by computation.
use Prim.Native.Nat.{ℕ}
use mathlib.Core.Path.{◌≡◌, refl}
use mathlib.Core.List.{map}
use Rattle.bits.specs.Address.{first, clear}
use Rattle.bits.specs.Mask.{good_mask, mask_length}
use lib.Count.{ones_in, count_trailing_zeros}
use Rattle.model.specs.Prefix.{well_formed, matches, before, same}
use Rattle.model.specs.Ipv4.{good_hop}
use Rattle.model.specs.Examples.{Example, examples, answered}

pub examples_hold : (words : ℕ → ℕ) → map (answered words) examples ≡ map (λ (e : Example). e.wanted) examples
unfolding first clear good_mask mask_length ones_in count_trailing_zeros well_formed matches before same good_hop
examples_hold words = refl
