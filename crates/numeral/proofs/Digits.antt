-- What digits spell, as they are read one by one.
use Prim.Native.Nat.{ℕ, ◌+◌, ◌*◌, ◌-◌, ◌≤◌, ◌<◌}
use native.Mathlib.Numerals.{add-one}
use native.Mathlib.Omega.{arith}
use mathlib.Core.Path.{◌≡◌}
use mathlib.Core.List.{List, ◌∷◌}
use lib.ListN.{length, drop, get_or, drop_of_length-le}
use lib.Seq.{drop-cons}
use Rattle.std.specs.Prelude.{None}
use Rattle.numeral.specs.Decimal.{Spells, done, digit, ReadAs}

-- what the digits from place i on spell behind the value, all of them spell, and the other way round
pub record SoFar (s : List ℕ) (i value : ℕ) : Type 0 where
  pub whole : (n : ℕ) → Spells value (drop i s) n → Spells 0 s n
  pub rest : (n : ℕ) → Spells 0 s n → Spells value (drop i s) n

-- what stands in front is a digit
front : {value b n : ℕ} {rest : List ℕ} → Spells value (b ∷ rest) n → (48 ≤ b) × (b ≤ 57) × Spells (value * 10 + (b - 48)) rest n
front (digit low high h) = (low, high, h)

-- digits only make a number greater
grows : {value n : ℕ} {s : List ℕ} → Spells value s n → value ≤ n
grows done = omega arith
grows (digit low high h) = omega (arith, grows h)

module _ (s : List ℕ) (i value : ℕ) (inside : i < length s) (f : SoFar s i value) where
  -- if all of them spell a number, the next is a digit
  pub next : (n : ℕ) → Spells 0 s n → (48 ≤ get_or s i 0) × (get_or s i 0 ≤ 57) × Spells (value * 10 + (get_or s i 0 - 48)) (drop (i + 1) s) n
  next n h = rw (add-one i) (front (rw (drop-cons s i 0 inside) at (f.rest n h)))

  -- a digit more
  pub digit_more : (d : ℕ) → 48 ≤ get_or s i 0 → get_or s i 0 ≤ 57 → d ≡ get_or s i 0 - 48 → SoFar s (i + 1) (value * 10 + d)
  digit_more d low high e = record {
    whole = λ n h. f.whole n (rw (drop-cons s i 0 inside) (digit low high (rw e at (rw (add-one i) at h))));
    rest = λ n h. rw e (next n h).2;
  }

  -- a number that has become too great
  pub past_the_most : (d : ℕ) → d ≡ get_or s i 0 - 48 → 4294967295 < value * 10 + d → (n : ℕ) → 0 < length s → Spells 0 s n → n ≤ 4294967295 → ⊥
  past_the_most d e high n some h fits = omega (arith, grows (next n h).2, e, high, fits)

  -- a byte that is no digit
  pub no_digit : ((48 ≤ get_or s i 0) × (get_or s i 0 ≤ 57) → ⊥) → ReadAs s None
  no_digit none n some h fits = none ((next n h).0, (next n h).1)

  module _ (d : ℕ) (digit-is : ((48 ≤ get_or s i 0) × (get_or s i 0 ≤ 57)) × (d ≡ get_or s i 0 - 48)) where
    -- a number that has become too great
    pub too_great : (value * 10 + d ≤ 4294967295 → ⊥) → ReadAs s None
    too_great high n some h fits = high (omega (arith, grows (next n h).2, digit-is.1, fits))

    -- a digit more
    pub turn : (v : ℕ) → v ≡ value * 10 + d → SoFar s (i + 1) v
    turn v is = rw is (record {
      whole = λ n h. f.whole n (rw (drop-cons s i 0 inside) (digit digit-is.0.0 digit-is.0.1 (rw digit-is.1 at (rw (add-one i) at h))));
      rest = λ n h. rw digit-is.1 (next n h).2;
    })

-- no digit is left
pub ended : (s : List ℕ) (i value : ℕ) → length s ≤ i → SoFar s i value → Spells 0 s value
ended s i value past f = f.whole value (rw (drop_of_length-le s past) done)
