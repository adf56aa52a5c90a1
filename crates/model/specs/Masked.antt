-- "A prefix may come with a mask word in place of a length: a mask is good when ..; the length is the number of ones."
use Rattle.std.specs.Prelude.{ℕ, suc, cond}
use Rattle.bits.specs.Mask.{good_mask, mask_length}
use Rattle.model.specs.Prefix.{Prefix}

-- The length that goes with a mask: its ones; for a mask with a hole one that no prefix has, so that 3 comes at its place in each call.
unfoldable pub masked_length : ℕ → ℕ → ℕ
masked_length W m = cond (good_mask W m) (mask_length W m) (suc W)

-- The prefix of an address and a mask.
abbrev pub masked : ℕ → ℕ → ℕ → Prefix
masked W a m = record { address = a; length = masked_length W m }
