-- The laws of first bits and single bits, over any width. What stands above uses these and leaves the two definitions shut.
use Prim.Native.Nat.{ℕ, suc, ◌+◌, ◌-◌, ◌*◌, ◌/◌, ◌%◌, ◌^◌, ◌≤◌, ◌<◌}
use mathlib.Core.Path.{◌≡◌, sym, ap, ◌∙◌, subst}
use mathlib.Core.Logic.{◌⊎◌, inl, inr}
use native.Mathlib.Nat.{div-one, div-eq_of_lt, sub_self, suc-sub-suc, div-add-mod', add-sub_of_le, sub-zero, zero-mod, eq_of_mul-eq-mul_right, le_of_lt, le_step}
use native.Mathlib.Omega.{arith}
use borrow.Author.Tests.{eqb-true, eq-eqb}
use mathlib.Core.Bool.{true}
use lib.Pow.{pow_pos, pow-add, shr-shr, shr_mono, shr_lt, mod-mod-pow}
use Rattle.bits.proofs.Cases.{lt_or_le}
use Rattle.bits.specs.Address.{first, bit, clear}

-- ---- single bits

pub bit_lt : (W b a : ℕ) → bit W b a < 2
unfolding bit
bit_lt W b a = omega arith

-- bit b, shifted down to the last place
pub bit_shift : (W b a : ℕ) → a / 2 ^ (W - b) % 2 ≡ bit (suc W) b a
unfolding bit first
bit_shift W b a = ap (λ (n : ℕ). a / 2 ^ n % 2) (sym (suc-sub-suc W b))

-- ---- one bit more

first_half : (W b a : ℕ) → b < W → first W (suc b) a / 2 ≡ first W b a
unfolding first
first_half W b a h =
    let e : (W - suc b) + 1 ≡ W - b = omega arith in
    shr-shr a (W - suc b) 1 ∙ ap (λ (n : ℕ). a / 2 ^ n) e

-- the first b + 1 bits are the first b, then bit b
pub first_step : (W b a : ℕ) → b < W → first W (suc b) a ≡ 2 * first W b a + bit W b a
unfolding bit
first_step W b a h = omega (arith, first_half W b a h)

-- ---- none and all

pub first_none : (W a : ℕ) → a < 2 ^ W → first W 0 a ≡ 0
unfolding first
first_none W a h = simp sub-zero (div-eq_of_lt h)

pub first_all : (W a : ℕ) → first W W a ≡ a
unfolding first
first_all W a = ap (λ (n : ℕ). a / 2 ^ n) (sub_self W) ∙ div-one a

-- ---- fewer bits of the same

-- the first j bits of the first k: how k bits lead to fewer
pub first_first : (W j k a : ℕ) → j ≤ k → k ≤ W → first k j (first W k a) ≡ first W j a
unfolding first
first_first W j k a h l =
    let e : (W - k) + (k - j) ≡ W - j = omega arith in
    shr-shr a (W - k) (k - j) ∙ ap (λ (n : ℕ). a / 2 ^ n) e

-- addresses that share k bits share fewer
pub first_fewer : (W j k x y : ℕ) → j ≤ k → k ≤ W → first W k x ≡ first W k y → first W j x ≡ first W j y
first_fewer W j k x y h l e = sym (first_first W j k x h l) ∙ ap (first k j) e ∙ first_first W j k y h l

-- and every bit before the k-th
pub bit_fewer : (W b k x y : ℕ) → b < k → k ≤ W → first W k x ≡ first W k y → bit W b x ≡ bit W b y
unfolding bit
bit_fewer W b k x y h l e = ap (λ (n : ℕ). n % 2) (first_fewer W (suc b) k x y h l e)

-- sharing b bits and bit b is sharing b + 1 bits
pub first_more : (W b x y : ℕ) → b < W → first W b x ≡ first W b y → bit W b x ≡ bit W b y → first W (suc b) x ≡ first W (suc b) y
first_more W b x y h e f = omega (arith, first_step W b x h, first_step W b y h)

-- ---- the order of addresses is the order of their bits

pub first_mono : (W k x y : ℕ) → x ≤ y → first W k x ≤ first W k y
unfolding first
first_mono W k x y h = shr_mono (W - k) h

pub first_lt : (W k x y : ℕ) → first W k x < first W k y → x < y
first_lt W k x y h = go (lt_or_le x y)
  where
    go : (x < y) ⊎ (y ≤ x) → x < y
    go (inl l) = l
    go (inr g) = omega (arith, first_mono W k y x g)

-- the first k bits of an address are below 2 ^ k
pub first_below : (W k a : ℕ) → k ≤ W → a < 2 ^ W → first W k a < 2 ^ k
unfolding first
first_below W k a l h = shr_lt k (W - k) (subst (λ (n : ℕ). a < 2 ^ n) (sym (add-sub_of_le l)) h)

-- ---- addresses that are clear from k on

-- the test, as a fact
unfoldable pub Clear : ℕ → ℕ → ℕ → Type 0
Clear W k a = a % 2 ^ (W - k) ≡ 0

pub clear_true : (W k a : ℕ) → clear W k a ≡ true → Clear W k a
unfolding clear Clear
clear_true W k a t = eqb-true _ _ t

pub true_clear : (W k a : ℕ) → Clear W k a → clear W k a ≡ true
unfolding clear Clear
true_clear W k a c = eq-eqb _ _ c

-- an address clear from k on is its first k bits and zeros
pub clear_whole : (W k a : ℕ) → Clear W k a → a ≡ first W k a * 2 ^ (W - k)
unfolding first Clear
clear_whole W k a c = omega (arith, div-add-mod' a (2 ^ (W - k)), c)

-- so it is the least of all that begin as it does
pub clear_least : (W k x y : ℕ) → Clear W k x → first W k x ≡ first W k y → x ≤ y
unfolding first
clear_least W k x y c e =
    let whole : x ≡ first W k y * 2 ^ (W - k) = clear_whole W k x c ∙ ap (λ (n : ℕ). n * 2 ^ (W - k)) e in
    omega (arith, div-add-mod' y (2 ^ (W - k)), whole)

-- and two that are clear and begin alike are one
pub clear_same : (W k x y : ℕ) → Clear W k x → Clear W k y → first W k x ≡ first W k y → x ≡ y
clear_same W k x y c d e = clear_whole W k x c ∙ ap (λ (n : ℕ). n * 2 ^ (W - k)) e ∙ sym (clear_whole W k y d)

-- clear from k on is clear from any later bit on
pub clear_later : (W j k a : ℕ) → j ≤ k → k ≤ W → Clear W j a → Clear W k a
unfolding Clear
clear_later W j k a h l c =
    let e : (k - j) + (W - k) ≡ W - j = omega arith in
    sym (mod-mod-pow a (k - j) (W - k)) ∙ ap (λ (n : ℕ). a % 2 ^ n % 2 ^ (W - k)) e ∙ ap (λ (n : ℕ). n % 2 ^ (W - k)) c ∙ zero-mod (2 ^ (W - k))

-- a bit at or past k is 0
pub clear_bit : (W k b a : ℕ) → k ≤ b → b < W → Clear W k a → bit W b a ≡ 0
clear_bit W k b a h l c =
    let P = 2 ^ (W - suc b) in
    let e : W - b ≡ (W - suc b) + 1 = omega arith in
    let double : 2 ^ (W - b) ≡ P * 2 = ap (λ (n : ℕ). 2 ^ n) e ∙ pow-add 2 (W - suc b) 1 in
    let short : a ≡ first W b a * (P * 2) = clear_whole W b a (clear_later W k b a h (le_of_lt l) c) ∙ ap (λ (n : ℕ). first W b a * n) double in
    let long : a ≡ first W (suc b) a * P = clear_whole W (suc b) a (clear_later W k (suc b) a (le_step h) l c) in
    let even : first W (suc b) a ≡ 2 * first W b a = eq_of_mul-eq-mul_right P (pow_pos (W - suc b)) _ _ (sym long ∙ short ∙ omega arith) in
    omega (arith, first_step W b a l, even)
