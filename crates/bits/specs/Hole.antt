-- The mask of a length, and what a mask with a hole is. Over any width W.
use Rattle.std.specs.Prelude.{ℕ, ◌-◌, ◌^◌, ◌<◌, ◌≡◌}
use Rattle.bits.specs.Address.{bit}

-- The mask of a length: so many ones, and zeros after them.
unfoldable pub mask_of : ℕ → ℕ → ℕ
mask_of W k = 2 ^ W - 2 ^ (W - k)

-- "A mask with a hole": a 0 with a 1 after it.
pub record Hole (W m : ℕ) : Type 0 where
  pub gap : ℕ
  pub past : ℕ
  pub later : gap < past
  pub within : past < W
  pub off : bit W gap m ≡ 0
  pub on : bit W past m ≡ 1
