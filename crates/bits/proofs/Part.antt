-- The laws of the bit at which two addresses part, over any width. Routes are compared and searched by this bit.
use Prim.Native.Nat.{ℕ, suc, ◌-◌, ◌*◌, ◌/◌, ◌^◌, ◌≤◌, ◌<◌}
use mathlib.Core.Path.{◌≡◌, sym, ap, ◌∙◌}
use mathlib.Core.Logic.{◌⊎◌, inl, inr}
use native.Mathlib.Nat.{le_refl, le_antisymm, div-eq_of_lt, div-lt_iff_lt-mul, pow-suc}
use native.Mathlib.Omega.{arith}
use lib.Bits.{bit_xor, xor_lt, xor_shr, xor_self, xor_add_and, and_le_l, and_le_r}
use lib.Pow.{pow_pos}
use lib.Count.{count_leading_zeros, leading_le, leading_length}
use Rattle.bits.proofs.Cases.{lt_or_le, zero_or_one}
use Rattle.bits.proofs.First.{bit_lt, first_step, first_all, first_fewer, bit_fewer, first_more, first_lt}
use Rattle.bits.specs.Address.{first, bit, Part}

-- ---- what parting at k says of any other count of bits

-- addresses share no more bits than those before they part
pub part_most : (W x y j k : ℕ) → Part W x y k → j ≤ W → first W j x ≡ first W j y → j ≤ k
part_most W x y j k p l e = go (lt_or_le k j)
  where
    go : (k < j) ⊎ (j ≤ k) → j ≤ k
    go (inl h) = absurd (p.apart (omega arith) (bit_fewer W k j x y h l e))
    go (inr h) = h

-- and they share every count up to there
pub part_fewer : (W x y j k : ℕ) → Part W x y k → j ≤ k → first W j x ≡ first W j y
part_fewer W x y j k p h = first_fewer W j k x y h p.within p.shared

-- so they part at one bit
pub part_unique : (W x y j k : ℕ) → Part W x y j → Part W x y k → j ≡ k
part_unique W x y j k p q =
    le_antisymm (part_most W x y j k q p.within p.shared) (part_most W x y k j p q.within q.shared)

-- whichever is named first
pub part_swap : (W x y k : ℕ) → Part W x y k → Part W y x k
part_swap W x y k p = record { within = p.within; shared = sym p.shared; apart = λ h e. p.apart h (sym e) }

-- ---- addresses that never part are one

-- addresses that share all bits are one
shared_all : (W x y k : ℕ) → Part W x y k → W ≤ k → x ≡ y
shared_all W x y k p h = sym (first_all W x) ∙ part_fewer W x y W k p h ∙ first_all W y

-- so are those that part at the width, past the last bit
pub part_whole : (W x y : ℕ) → Part W x y W → x ≡ y
part_whole W x y p = shared_all W x y W p (le_refl W)

-- and two addresses part at a bit
pub part_apart : (W x y k : ℕ) → Part W x y k → (x ≡ y → ⊥) → k < W
part_apart W x y k p n = go (lt_or_le k W)
  where
    go : (k < W) ⊎ (W ≤ k) → k < W
    go (inl h) = h
    go (inr h) = absurd (n (shared_all W x y k p h))

-- ---- the bit at which they part puts them in order

-- the one with the 0 is the lower
pub part_order_back : (W x y k : ℕ) → Part W x y k → k < W → bit W k x ≡ 0 → x < y
part_order_back W x y k p h z = go (zero_or_one (bit W k y) (bit_lt W k y))
  where
    go : (bit W k y ≡ 0) ⊎ (bit W k y ≡ 1) → x < y
    go (inl e) = absurd (p.apart h (z ∙ sym e))
    go (inr e) = first_lt W (suc k) x y (omega (arith, first_step W k x h, first_step W k y h, p.shared))

-- and the lower has the 0
pub part_order : (W x y k : ℕ) → Part W x y k → x < y → (k < W) × (bit W k x ≡ 0) × (bit W k y ≡ 1)
part_order W x y k p l = go (zero_or_one (bit W k x) (bit_lt W k x)) (zero_or_one (bit W k y) (bit_lt W k y))
  where
    h : k < W
    h = part_apart W x y k p (omega arith)

    go : (bit W k x ≡ 0) ⊎ (bit W k x ≡ 1) → (bit W k y ≡ 0) ⊎ (bit W k y ≡ 1)
        → (k < W) × (bit W k x ≡ 0) × (bit W k y ≡ 1)
    go (inl a) (inl b) = absurd (p.apart h (a ∙ sym b))
    go (inl a) (inr b) = (h, a, b)
    go (inr a) (inl b) = omega (arith, part_order_back W y x k (part_swap W x y k p) h b)
    go (inr a) (inr b) = absurd (p.apart h (a ∙ sym b))

-- ---- the bit at which they part, by xor: its zeros at the front are the bits that the two share

-- xor is 0 for equal numbers only
xor_zero : (a b : ℕ) → bit_xor a b ≡ 0 → a ≡ b
xor_zero a b e = omega (arith, e, xor_add_and a b, and_le_l a b, and_le_r a b)

-- the first bits of the xor are the xor of the first bits
first_xor : (W k x y : ℕ) → first W k (bit_xor x y) ≡ bit_xor (first W k x) (first W k y)
unfolding first
first_xor W k x y = xor_shr x y (W - k)

-- the leading zeros of a number are zeros
zeros_first : (W z : ℕ) → z < 2 ^ W → first W (count_leading_zeros W z) z ≡ 0
unfolding first
zeros_first W z h =
    let s = leading_length W z h in
    let e : W - count_leading_zeros W z ≡ s.0 = omega (arith, s.1) in
    ap (λ (n : ℕ). z / 2 ^ n) e ∙ div-eq_of_lt s.2

-- and the bit after them is not
zeros_end : (W z : ℕ) → z < 2 ^ W → count_leading_zeros W z < W → first W (suc (count_leading_zeros W z)) z ≡ 0 → ⊥
unfolding first
zeros_end W z h l e =
    let s = leading_length W z h in
    let j = W - suc (count_leading_zeros W z) in
    let m : s.0 ≡ suc j = omega (arith, s.1) in
    let small : z < 1 * 2 ^ j = (div-lt_iff_lt-mul (pow_pos j)).0 (omega (arith, e)) in
    omega (arith, s.3, ap (λ (n : ℕ). 2 ^ n) m, pow-suc 2 j, small)

-- so two addresses part where the leading zeros of their xor end
pub part_xor : (W x y : ℕ) → x < 2 ^ W → y < 2 ^ W → Part W x y (count_leading_zeros W (bit_xor x y))
part_xor W x y hx hy =
    let z = bit_xor x y in
    let k = count_leading_zeros W z in
    let h : z < 2 ^ W = xor_lt W x y hx hy in
    let same : first W k x ≡ first W k y = xor_zero _ _ (sym (first_xor W k x y) ∙ zeros_first W z h) in
    record {
      within = leading_le W z;
      shared = same;
      apart = λ l e.
          let more = first W (suc k) x in
          zeros_end W z h l (first_xor W (suc k) x y ∙ ap (bit_xor more) (sym (first_more W k x y l same e)) ∙ xor_self more);
    }

-- so any two addresses part somewhere
pub part_exists : (W x y : ℕ) → x < 2 ^ W → y < 2 ^ W → (k : ℕ) × Part W x y k
part_exists W x y hx hy = (count_leading_zeros W (bit_xor x y), part_xor W x y hx hy)
