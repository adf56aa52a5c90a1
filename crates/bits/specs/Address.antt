-- Addresses are numbers below 2 ^ W, W bits wide, and bit 0 is the highest (document 01, first paragraph). Every definition holds for any width W.
use Rattle.std.specs.Prelude.{ℕ, suc, ◌-◌, ◌/◌, ◌%◌, ◌^◌, ◌≤◌, ◌<◌, ◌≡◌, Bool, ◌≢◌, eqb}

-- The first k bits of an address, as a number: the last W - k are dropped.
unfoldable pub first : ℕ → ℕ → ℕ → ℕ
first W k a = a / 2 ^ (W - k)

-- Bit b of an address, 0 or 1: the last of its first b + 1 bits.
unfoldable pub bit : ℕ → ℕ → ℕ → ℕ
bit W b a = first W (suc b) a % 2

-- "All address bits from the length on are zero": what the first k bits leave over is 0.
unfoldable pub clear : ℕ → ℕ → ℕ → Bool
clear W k a = eqb (a % 2 ^ (W - k)) 0

-- k is the bit at which x and y part: they share the k bits before it and differ there. Where they never part, k is W.
pub record Part (W x y k : ℕ) : Type 0 where
  pub within : k ≤ W
  pub shared : first W k x ≡ first W k y
  pub apart : k < W → bit W k x ≢ bit W k y
