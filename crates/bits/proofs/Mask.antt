-- The laws of masks, over any width: a good mask is ones and then zeros, and any other has a hole.
-- Ones and trailing zeros are counted from the last bit on, so most laws go by the width, one bit at a time.
use Prim.Native.Nat.{ℕ, zero, suc, ◌+◌, ◌-◌, ◌*◌, ◌/◌, ◌%◌, ◌^◌, ◌≤◌, ◌<◌, zero-le}
use mathlib.Core.Path.{◌≡◌, sym, ap, ◌∙◌}
use mathlib.Core.Logic.{◌⊎◌, inl, inr, ⊎_elim, ◌↔◌}
use mathlib.Core.Bool.{true, false}
use native.Mathlib.Nat.{le_refl, le_antisymm, le_step, le_of_suc-le-suc, not-suc-le-zero, zero-lt-suc}
use native.Mathlib.Nat.{add-zero, add_comm, add-sub_of_le, sub-le, le-add_left, pow-suc}
use native.Mathlib.Nat.{mod-one, mod-lt, mod-eq_of_lt, mul-mod_left, eq_of_mul-eq-mul_right}
use native.Mathlib.Numerals.{add-one}
use native.Mathlib.Omega.{arith}
use borrow.Author.Tests.{eqb-true, eqb-false, eq-eqb, ne_eqb, le-leb, lt-leb}
use lib.Dec.{leb}
use lib.Arith.{digits_mod, lt-one, lt_of_le-ne}
use lib.Pow.{pow_pos, pow_mono, pow-sub-lt, mod-pow-add, high_ones, shr-shr}
use lib.Bits.{bit_and, and_high}
use lib.Count.{ones_in, ones, ones_step, ones_cat, ones-ones, under, count_trailing_zeros, trailing_le}
use Rattle.bits.proofs.Cases.{lt_or_le, zero_or_one}
use Rattle.bits.proofs.First.{Clear, first_below, first_all, clear_whole}
use Rattle.bits.specs.Address.{first, bit, clear}
use Rattle.bits.specs.Mask.{mask_length, good_mask}
use Rattle.bits.specs.Hole.{mask_of, Hole}

-- ---- one bit more: the last bit, and what stands before it

-- what the counts are where the last bit is 0
record Even (W m : ℕ) : Type 0 where
  digit : m % 2 ≡ 0
  count : ones_in (suc W) m ≡ ones_in W (m / 2)
  zeros : count_trailing_zeros (suc W) m ≡ suc (count_trailing_zeros W (m / 2))

-- and where it is 1
record Odd (W m : ℕ) : Type 0 where
  digit : m % 2 ≡ 1
  count : ones_in (suc W) m ≡ suc (ones_in W (m / 2))
  zeros : count_trailing_zeros (suc W) m ≡ 0

-- it is one or the other
last : (W m : ℕ) → Even W m ⊎ Odd W m
unfolding ones_in count_trailing_zeros
last W m = go (zero_or_one (m % 2) (mod-lt m (zero-lt-suc 1)))
  where
    below : {d : ℕ} → m % 2 ≡ d → count_trailing_zeros (suc W) m ≡ under d (count_trailing_zeros W (m / 2))
    below e = ap (λ (d : ℕ). under d (count_trailing_zeros W (m / 2))) e

    go : (m % 2 ≡ 0) ⊎ (m % 2 ≡ 1) → Even W m ⊎ Odd W m
    go (inl e) = inl (record { digit = e; count = omega arith; zeros = below e })
    go (inr e) = inr (record { digit = e; count = omega arith; zeros = below e })

-- the remainder by a power, from its last bit
mod_last : (t m : ℕ) → m % 2 ^ suc t ≡ (m / 2 % 2 ^ t) * 2 + m % 2
mod_last t m = ap (λ (n : ℕ). m % 2 ^ n) (sym (add-one t)) ∙ mod-pow-add m t 1

-- ---- an address is clear from a bit on where its trailing zeros reach that bit

-- t zeros at the end are counted
zeros_trailing : (W t a : ℕ) → t ≤ W → a % 2 ^ t ≡ 0 → t ≤ count_trailing_zeros W a
zeros_trailing W zero a l e = zero-le
zeros_trailing zero (suc t) a l e = absurd (not-suc-le-zero l)
zeros_trailing (suc W) (suc t) a l e =
    let rest = zeros_trailing W t (a / 2) (le_of_suc-le-suc l) (omega (arith, mod_last t a)) in
    ⊎_elim (λ (v : Even W a). omega arith) (λ (d : Odd W a). omega (arith, mod_last t a)) (last W a)

-- and those that are counted are zeros
trailing_zeros : (W t a : ℕ) → t ≤ count_trailing_zeros W a → a % 2 ^ t ≡ 0
trailing_zeros W zero a l = mod-one a
trailing_zeros zero (suc t) a l = omega (arith, trailing_le 0 a)
trailing_zeros (suc W) (suc t) a l =
    ⊎_elim
    (λ (v : Even W a). omega (arith, mod_last t a, trailing_zeros W t (a / 2) (omega arith)))
    (λ (d : Odd W a). omega arith)
    (last W a)

-- the test by trailing zeros is the test of `clear`
pub clear_trailing : (W k a : ℕ) → k ≤ W → leb W (k + count_trailing_zeros W a) ≡ clear W k a
unfolding clear
clear_trailing W k a l = go (lt_or_le (k + count_trailing_zeros W a) W)
  where
    go : (k + count_trailing_zeros W a < W) ⊎ (W ≤ k + count_trailing_zeros W a) → leb W (k + count_trailing_zeros W a) ≡ clear W k a
    go (inl h) =
        lt-leb _ _ h ∙ sym (ne_eqb _ _ (λ (e : a % 2 ^ (W - k) ≡ 0). omega (arith, zeros_trailing W (W - k) a (sub-le W k) e)))
    go (inr h) = le-leb _ _ h ∙ sym (eq-eqb _ _ (trailing_zeros W (W - k) a (omega arith)))

-- ---- ones and trailing zeros

-- looking at more bits than there are finds no more ones
pub ones_all : (W m : ℕ) → m < 2 ^ W → ones_in W m ≡ ones m
unfolding ones_in ones
ones_all zero m h = ap ones (sym (lt-one h))
ones_all (suc W) m h = ap (λ (n : ℕ). m % 2 + n) (ones_all W (m / 2) (omega (arith, h, pow-suc 2 W))) ∙ sym (ones_step m)

-- ones and trailing zeros never overlap
pub ones_trailing : (W m : ℕ) → ones_in W m + count_trailing_zeros W m ≤ W
unfolding ones_in count_trailing_zeros
ones_trailing zero m = zero-le
ones_trailing (suc W) m =
    let rest = ones_trailing W (m / 2) in
    ⊎_elim (λ (v : Even W m). omega arith) (λ (d : Odd W m). omega arith) (last W m)

-- ---- single bits, from the last on

-- the bits before the last are those of the number without it
first_before : (W b m : ℕ) → b ≤ W → first (suc W) b m ≡ first W b (m / 2)
unfolding first
first_before W b m h =
    let e : suc W - b ≡ 1 + (W - b) = omega arith in
    ap (λ (n : ℕ). m / 2 ^ n) e ∙ sym (shr-shr m 1 (W - b))

-- so each bit but the last is one of those
bit_before : (W b m : ℕ) → b < W → bit (suc W) b m ≡ bit W b (m / 2)
unfolding bit
bit_before W b m h = ap (λ (n : ℕ). n % 2) (first_before W (suc b) m h)

-- and the last is what they leave
bit_last : (W m : ℕ) → bit (suc W) W m ≡ m % 2
unfolding bit
bit_last W m = ap (λ (n : ℕ). n % 2) (first_all (suc W) m)

-- bit b stands before the last, and is the same bit without it
abbrev Before : ℕ → ℕ → ℕ → Type 0
Before W b m = (b < W) × (bit (suc W) b m ≡ bit W b (m / 2))

-- any bit is the last, or one of those before it
bit_cases : (W b m : ℕ) → b < suc W → (bit (suc W) b m ≡ m % 2) ⊎ Before W b m
bit_cases W b m h = go (lt_or_le b W)
  where
    go : (b < W) ⊎ (W ≤ b) → (bit (suc W) b m ≡ m % 2) ⊎ Before W b m
    go (inl l) = inr (l, bit_before W b m l)
    go (inr l) = inl (ap (λ (n : ℕ). bit (suc W) n m) (le_antisymm (le_of_suc-le-suc h) l) ∙ bit_last W m)

-- a bit that is 0 is missing from the count of ones
zero_short : (W b m : ℕ) → b < W → bit W b m ≡ 0 → ones_in W m < W
unfolding ones_in
zero_short zero b m h z = absurd (not-suc-le-zero h)
zero_short (suc W) b m h z =
    ⊎_elim
    (λ (e : bit (suc W) b m ≡ m % 2). omega (arith, ones_trailing W (m / 2)))
    (λ (r : Before W b m). omega (arith, zero_short W b (m / 2) r.0 (sym r.1 ∙ z)))
    (bit_cases W b m h)

-- and where a one is missing there is such a bit
short_zero : (W m : ℕ) → ones_in W m < W → (b : ℕ) × (b < W) × (bit W b m ≡ 0)
short_zero zero m h = absurd (not-suc-le-zero h)
short_zero (suc W) m h =
    ⊎_elim
    (λ (v : Even W m). (W, le_refl (suc W), bit_last W m ∙ v.digit))
    (λ (d : Odd W m).
    let r = short_zero W (m / 2) (omega arith) in
    (r.0, le_step r.1, bit_before W r.0 m r.1 ∙ r.2))
    (last W m)

-- ---- masks with a hole

-- the 0 is missing from the ones, and the 1 after it keeps it out of the trailing zeros
gap_short : (W g p m : ℕ) → g < p → p < W → bit W g m ≡ 0 → bit W p m ≡ 1 → ones_in W m + count_trailing_zeros W m < W
gap_short zero g p m l h off on = absurd (not-suc-le-zero h)
gap_short (suc W) g p m l h off on =
    let before : g < W = omega arith in
    let gap : bit W g (m / 2) ≡ 0 = sym (bit_before W g m before) ∙ off in
    let short : ones_in W (m / 2) < W = zero_short W g (m / 2) before gap in
    ⊎_elim
    (λ (v : Even W m).
    ⊎_elim
    (λ (e : bit (suc W) p m ≡ m % 2). omega arith)
    (λ (r : Before W p m). omega (arith, gap_short W g p (m / 2) l r.0 gap (sym r.1 ∙ on)))
    (bit_cases W p m h))
    (λ (d : Odd W m). omega arith)
    (last W m)

-- so a mask with a hole is not good
pub hole_refused : (W m : ℕ) → Hole W m → good_mask W m ≡ false
unfolding good_mask
hole_refused W m h =
    ne_eqb (ones_in W m + count_trailing_zeros W m) W
    (omega (arith, gap_short W h.gap h.past m h.later h.within h.off h.on))

-- where ones and trailing zeros do not fill the width, there is a 0 with a 1 after it
short_hole : (W m : ℕ) → ones_in W m + count_trailing_zeros W m < W → Hole W m
short_hole zero m h = absurd (not-suc-le-zero h)
short_hole (suc W) m h =
    ⊎_elim
    (λ (v : Even W m).
    let r = short_hole W (m / 2) (omega arith) in
    record {
      gap = r.gap;
      past = r.past;
      later = r.later;
      within = le_step r.within;
      off = bit_before W r.gap m (omega arith) ∙ r.off;
      on = bit_before W r.past m r.within ∙ r.on;
    })
    (λ (d : Odd W m).
    let r = short_zero W (m / 2) (omega arith) in
    record {
      gap = r.0;
      past = W;
      later = r.1;
      within = le_refl (suc W);
      off = bit_before W r.0 m r.1 ∙ r.2;
      on = bit_last W m ∙ d.digit;
    })
    (last W m)

-- so a mask that is not good has a hole
pub refused_hole : (W m : ℕ) → good_mask W m ≡ false → Hole W m
unfolding good_mask
refused_hole W m f = short_hole W m (lt_of_le-ne (ones_trailing W m) (eqb-false _ _ f))

-- ---- good masks

-- the mask of a length is so many ones, and zeros after them
mask_high : (W k : ℕ) → k ≤ W → mask_of W k ≡ (2 ^ k - 1) * 2 ^ (W - k)
unfolding mask_of
mask_high W k l = ap (λ (n : ℕ). 2 ^ n - 2 ^ (W - k)) (sym (add-sub_of_le l)) ∙ high_ones k (W - k)

-- and a number of the width
mask_below : (W k : ℕ) → mask_of W k < 2 ^ W
unfolding mask_of
mask_below W k = pow-sub-lt W (pow_pos (W - k))

-- all ones, shifted up and cut to the width, are that mask
pub mask_shift : (W k : ℕ) → ((2 ^ W - 1) * 2 ^ (W - k)) % 2 ^ W ≡ mask_of W k
unfolding mask_of
mask_shift W k =
    let t = W - k in
    let low : 2 ^ t ≤ 2 ^ W = pow_mono (sub-le W k) in
    let high : 2 ^ W ≤ 2 ^ (t + W) = pow_mono (le-add_left W t) in
    let up : (2 ^ W - 1) * 2 ^ t ≡ (2 ^ t - 1) * 2 ^ W + mask_of W k =
    omega (arith, high_ones W t, high_ones t W, ap (λ (n : ℕ). 2 ^ n) (add_comm W t)) in
    ap (λ (n : ℕ). n % 2 ^ W) up ∙ digits_mod (2 ^ t - 1) (mask_below W k)

-- the ones of that mask are its length
mask_ones : (W k : ℕ) → k ≤ W → ones_in W (mask_of W k) ≡ k
unfolding ones
mask_ones W k l =
    ones_all W (mask_of W k) (mask_below W k) ∙ ap ones (mask_high W k l ∙ sym (add-zero _))
    ∙ ones_cat (W - k) (2 ^ k - 1) 0 (pow_pos (W - k)) ∙ add-zero _ ∙ ones-ones k

-- the mask of a length is good, and has that length
pub mask_of_good : (W k : ℕ) → k ≤ W → (good_mask W (mask_of W k) ≡ true) × (mask_length W (mask_of W k) ≡ k)
unfolding good_mask mask_length
mask_of_good W k l =
    let m = mask_of W k in
    let t = W - k in
    let count = mask_ones W k l in
    let low : m % 2 ^ t ≡ 0 = ap (λ (n : ℕ). n % 2 ^ t) (mask_high W k l) ∙ mul-mod_left (2 ^ k - 1) (2 ^ t) in
    let full : ones_in W m + count_trailing_zeros W m ≡ W = omega (arith, ones_trailing W m, zeros_trailing W t m (sub-le W k) low) in
    (eq-eqb _ _ full, count)

-- a mask that its ones and trailing zeros fill is the mask of its length
filled_mask : (W m : ℕ) → m < 2 ^ W → ones_in W m + count_trailing_zeros W m ≡ W → m ≡ mask_of W (ones_in W m)
unfolding mask_of ones_in
filled_mask zero m h e = lt-one h
filled_mask (suc W) m h e =
    let o = ones_in W (m / 2) in
    let most = ones_trailing W (m / 2) in
    let below : m / 2 < 2 ^ W = omega (arith, pow-suc 2 W) in
    let half : o + count_trailing_zeros W (m / 2) ≡ W → m / 2 ≡ 2 ^ W - 2 ^ (W - o) = filled_mask W (m / 2) below in
    ⊎_elim
    (λ (v : Even W m).
    let full = half (omega arith) in
    let s : suc W - (m % 2 + o) ≡ suc (W - o) = omega arith in
    omega (arith, pow-suc 2 W, ap (λ (n : ℕ). 2 ^ n) s, pow-suc 2 (W - o)))
    (λ (d : Odd W m).
    let full = half (omega arith) in
    let s : suc W - (m % 2 + o) ≡ 0 = omega arith in
    let t : W - o ≡ 0 = omega arith in
    omega (arith, pow-suc 2 W, ap (λ (n : ℕ). 2 ^ n) s, ap (λ (n : ℕ). 2 ^ n) t))
    (last W m)

-- so a good mask of the width is the mask of its length
pub good_is_mask : (W m : ℕ) → m < 2 ^ W → good_mask W m ≡ true
    → (mask_length W m ≤ W) × (m ≡ mask_of W (mask_length W m))
unfolding good_mask mask_length
good_is_mask W m h t = (omega (arith, ones_trailing W m), filled_mask W m h (eqb-true _ _ t))

-- ---- the old way to match: a destination and a mask, compared with a key

-- AND with a mask keeps the first bits and clears the others
and_mask : (W k d : ℕ) → k ≤ W → d < 2 ^ W → bit_and d (mask_of W k) ≡ first W k d * 2 ^ (W - k)
unfolding mask_of first
and_mask W k d l h =
    ap (λ (n : ℕ). bit_and d (2 ^ n - 2 ^ (W - k))) (sym (add-sub_of_le l)) ∙ and_high d k (W - k)
    ∙ ap (λ (n : ℕ). n * 2 ^ (W - k)) (mod-eq_of_lt (first_below W k d l h))

-- so a clear key matches by its mask exactly where it matches by its length
pub mask_match : (W k d a : ℕ) → k ≤ W → d < 2 ^ W → Clear W k a
    → (first W k d ≡ first W k a) ↔ (bit_and d (mask_of W k) ≡ a)
mask_match W k d a l h c = (
  λ e. and_mask W k d l h ∙ ap (λ (n : ℕ). n * 2 ^ (W - k)) e ∙ sym (clear_whole W k a c),
  λ e. eq_of_mul-eq-mul_right (2 ^ (W - k)) (pow_pos (W - k)) _ _ (sym (and_mask W k d l h) ∙ e ∙ clear_whole W k a c),
)
