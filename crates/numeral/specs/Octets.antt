-- What it is to read an address.
use Rattle.std.specs.Prelude.{ℕ, suc, ◌+◌, ◌*◌, ◌≤◌, ◌<◌, ◌≡◌, List, ◌∷◌, ◌++◌, Option, Some, None, length, take, drop}
use Rattle.numeral.specs.Decimal.{Spells}
use Rattle.numeral.specs.Words.{index_of}

-- An octet: digits that spell a number up to 255.
abbrev pub Octet : List ℕ → ℕ → Type 0
Octet s n = (0 < length s) × Spells 0 s n × (n ≤ 255)

-- Behind the number before, the bytes say k + 1 octets with a dot, byte 46, between them, and the number that they make; the last counts least.
pub data Dotted : ℕ → ℕ → List ℕ → ℕ → Type 0 where
  last : {before n : ℕ} {s : List ℕ} → Octet s n → Dotted 0 before s (before * 256 + n)
  more : {k before n whole : ℕ} {s rest : List ℕ} → Octet s n → Dotted k (before * 256 + n) rest whole → Dotted (suc k) before (s ++ (46 ∷ rest)) whole

-- An address that was read is the one that four octets say; where none was read the bytes say none.
abbrev pub ReadAddress : List ℕ → Option ℕ → Type 0
ReadAddress s (Some n) = Dotted 3 0 s n
ReadAddress s None = (n : ℕ) → Dotted 3 0 s n → ⊥

-- Where the first dot from a place on stands, or the end.
abbrev pub dot_from : List ℕ → ℕ → ℕ
dot_from s from = from + index_of 46 (drop from s)

-- What stands from a place up to there.
abbrev pub up_to_dot : List ℕ → ℕ → List ℕ
up_to_dot s from = take (index_of 46 (drop from s)) (drop from s)

-- An octet stands there, with its number behind the number before; or none does.
abbrev pub OctetAt : List ℕ → ℕ → ℕ → Option (ℕ × ℕ) → Type 0
OctetAt s from before (Some (v, end)) = ((n : ℕ) × Octet (up_to_dot s from) n × (v ≡ before * 256 + n)) × (end ≡ dot_from s from)
OctetAt s from before None = (n : ℕ) → Octet (up_to_dot s from) n → ⊥

-- The same behind the dot that must stand at a place.
abbrev pub NextAt : List ℕ → ℕ → ℕ → Option (ℕ × ℕ) → Type 0
NextAt s dot before (Some (v, end)) = (dot < length s) × OctetAt s (dot + 1) before (Some (v, end))
NextAt s dot before None = dot < length s → OctetAt s (dot + 1) before None
