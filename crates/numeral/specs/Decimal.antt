-- What it is to read a decimal number.
use Rattle.std.specs.Prelude.{ℕ, ◌+◌, ◌*◌, ◌-◌, ◌≤◌, ◌<◌, List, [], ◌∷◌, Option, Some, None, length}

-- Behind the number before, the bytes spell the number n: each is a digit, 48 to 57, and the last counts least.
pub data Spells : ℕ → List ℕ → ℕ → Type 0 where
  done : {n : ℕ} → Spells n [] n
  digit : {before b n : ℕ} {rest : List ℕ} → 48 ≤ b → b ≤ 57 → Spells (before * 10 + (b - 48)) rest n → Spells before (b ∷ rest) n

-- A number that was read is the one that the bytes spell, and there is a digit; where none was read they spell none that fits 32 bits.
abbrev pub ReadAs : List ℕ → Option ℕ → Type 0
ReadAs s (Some n) = (0 < length s) × Spells 0 s n
ReadAs s None = (n : ℕ) → 0 < length s → Spells 0 s n → n ≤ 4294967295 → ⊥
