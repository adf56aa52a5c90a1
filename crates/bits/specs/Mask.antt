-- Document 01: "a mask is good when its ones and its trailing zeros add up to 32; the length is the number of ones". Over any width W.
use Rattle.std.specs.Prelude.{ℕ, ◌+◌, Bool, eqb}
use Rattle.std.specs.Int.Count.{ones_in, count_trailing_zeros}

-- The number of ones among the W bits of a mask.
unfoldable pub mask_length : ℕ → ℕ → ℕ
mask_length W m = ones_in W m

-- "A mask is good when its ones and its trailing zeros add up to" the width.
unfoldable pub good_mask : ℕ → ℕ → Bool
good_mask W m = eqb (ones_in W m + count_trailing_zeros W m) W
