-- Document 01, "What the table holds": prefixes, and the order in which the walk shows them. W is the width of an address in bits.
use Rattle.std.specs.Prelude.{ℕ, ◌^◌, ◌<◌, ◌≡◌, Bool, ◌&&◌, ◌||◌, ◌⊎◌, leb, ltb, eqb}
use Rattle.bits.specs.Address.{first, clear}

-- "A prefix is an address and a length".
pub record Prefix : Type 0 where
  pub address : ℕ
  pub length : ℕ

-- The length is from 0 to W, the address has W bits, and "all address bits from the length on are zero".
unfoldable pub well_formed : ℕ → Prefix → Bool
well_formed W p = leb p.length W && ltb p.address (2 ^ W) && clear W p.length p.address

-- "A route matches a destination when the destination's first "length" bits equal the prefix's".
unfoldable pub matches : ℕ → Prefix → ℕ → Bool
matches W p d = eqb (first W p.length d) (first W p.length p.address)

-- "Lower address first; for one address, the longer prefix first."
unfoldable pub Before : Prefix → Prefix → Type 0
Before p q = (p.address < q.address) ⊎ ((p.address ≡ q.address) × (q.length < p.length))

-- The same as a test.
unfoldable pub before : Prefix → Prefix → Bool
before p q = ltb p.address q.address || eqb p.address q.address && ltb q.length p.length

-- Two prefixes are one: the same address and the same length.
unfoldable pub same : Prefix → Prefix → Bool
same p q = eqb p.address q.address && eqb p.length q.length
