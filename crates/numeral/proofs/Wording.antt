-- How far blanks and words go, over plain values.
use Prim.Native.Nat.{ℕ, zero, suc, ◌+◌, ◌-◌, ◌≤◌, ◌<◌, min}
use mathlib.Core.Path.{◌≡◌, refl, sym, ap, ◌∙◌}
use mathlib.Core.Bool.{Bool, true, false, not, beq}
use mathlib.Core.List.{List, [], ◌∷◌}
use mathlib.Core.Logic.{◌⊎◌, inl, inr}
use native.Mathlib.Numerals.{add-one}
use native.Mathlib.Omega.{arith}
use borrow.Author.Tests.{eq-eqb, ne_eqb, not-true, not-false}
use lib.Dec.{eqb}
use lib.ListN.{length, take, drop, get_or, length-drop, drop_of_length-le}
use lib.Seq.{take_all, take-length, drop-length, drop-cons, drop-drop}
use Rattle.bits.proofs.Cases.{lt_or_le}
use Rattle.numeral.specs.Words.{index_of, is_blank, fits, leading, from_word, word_at, Behind}

-- what stands from a place on, as a slice of it is
abbrev pub rest_of : List ℕ → ℕ → List ℕ
rest_of s i = take (length s - i) (drop i s)

rest-is : (s : List ℕ) (i : ℕ) → rest_of s i ≡ drop i s
rest-is s i = take_all (length s - i) (drop i s) (omega (arith, length-drop i s))

-- ---- a byte looked for up to the end

-- it stands in front
pub at_once : (b x : ℕ) (rest : List ℕ) → x ≡ b → index_of b (x ∷ rest) ≡ 0
unfolding index_of
at_once b x rest e = rw (eq-eqb x b e)

-- another stands in front
pub later : (b x : ℕ) (rest : List ℕ) → (x ≡ b → ⊥) → index_of b (x ∷ rest) ≡ suc (index_of b rest)
unfolding index_of
later b x rest n = rw (ne_eqb x b n)

-- nothing is left
pub nowhere : (b : ℕ) → index_of b [] ≡ 0
unfolding index_of
nowhere b = refl

module _ (b : ℕ) (s : List ℕ) (i : ℕ) where
  pub looks_on : i < length s → (get_or s i 0 ≡ b → ⊥) → index_of b (drop i s) ≡ suc (index_of b (drop (i + 1) s))
  looks_on h n = rw (add-one i, drop-cons s i 0 h) (later b (get_or s i 0) (drop (suc i) s) n)

  pub stands : i < length s → get_or s i 0 ≡ b → index_of b (drop i s) ≡ 0
  stands h e = rw (drop-cons s i 0 h) (at_once b (get_or s i 0) (drop (suc i) s) e)

  pub stands_nowhere : length s ≤ i → index_of b (drop i s) ≡ 0
  stands_nowhere h = rw (drop_of_length-le s h) (nowhere b)

-- looked for up to the length, it is looked for to the end
pub found_at : (b : ℕ) (s : List ℕ) (from end : ℕ) → end ≡ from + index_of b (drop from (take (length s) s)) → end ≡ from + index_of b (drop from s)
found_at b s from end e = e ∙ ap (λ (t : List ℕ). from + index_of b (drop from t)) (take-length s)

-- other bytes stand before a place, and there it stands or is the end
first_at : (b : ℕ) (s : List ℕ) (k : ℕ) → k ≤ length s
    → ((j : ℕ) → j < k → get_or s j 0 ≡ b → ⊥) → (k < length s → get_or s k 0 ≡ b) → k ≡ index_of b s
first_at b [] k h before there = omega (arith, nowhere b, h)
first_at b (x ∷ s) zero h before there = sym (at_once b x s (there (omega arith)))
first_at b (x ∷ s) (suc k) h before there =
    let deeper = first_at b s k (omega (arith, h)) (λ j l. before (suc j) (omega (arith, l))) (λ l. there (omega (arith, l))) in
    omega (arith, later b x s (before 0 (omega arith)), deeper)

pub first_from : (b : ℕ) (s : List ℕ) (i k : ℕ) → k ≤ length (rest_of s i)
    → ((j : ℕ) → j < k → get_or (rest_of s i) j 0 ≡ b → ⊥) → (k < length (rest_of s i) → get_or (rest_of s i) k 0 ≡ b)
    → i + k ≡ i + index_of b (drop i s)
first_from b s i k h before there =
    ap (λ (n : ℕ). i + n) (first_at b (rest_of s i) k h before there ∙ ap (index_of b) (rest-is s i))

-- ---- blanks

pub blank_space : (b : ℕ) → b ≡ 32 → eqb b 32 ≡ is_blank b
blank_space b e = rw (eq-eqb b 32 e)

pub blank_other : (b : ℕ) → (b ≡ 32 → ⊥) → eqb b 9 ≡ is_blank b
blank_other b n = rw (ne_eqb b 32 n)

module _ (s : List ℕ) (i : ℕ) (blank x : Bool) (h : i < length s) (e : x ≡ is_blank (get_or s i 0)) where
  pub goes_on : not (beq x blank) ≡ false → leading blank (drop i s) ≡ suc (leading blank (drop (i + 1) s))
  goes_on t =
      let f : beq (is_blank (get_or s i 0)) blank ≡ true = rw e at (not-false (beq x blank) t) in
      rw (add-one i, drop-cons s i 0 h, f) refl

  pub stops : not (beq x blank) ≡ true → leading blank (drop i s) ≡ 0
  stops t =
      let f : beq (is_blank (get_or s i 0)) blank ≡ false = rw e at (not-true (beq x blank) t) in
      rw (drop-cons s i 0 h, f) refl

pub ends : (s : List ℕ) (i : ℕ) (blank : Bool) → length s ≤ i → leading blank (drop i s) ≡ 0
ends s i blank h = rw (drop_of_length-le s h) refl

-- the bytes before a place fit, and the one there, if it isn't the end, doesn't
leading-is : (blank : Bool) (s : List ℕ) (k : ℕ) → k ≤ length s
    → ((j : ℕ) → j < k → fits blank (get_or s j 0) ≡ true) → (k < length s → fits blank (get_or s k 0) ≡ false) → k ≡ leading blank s
leading-is blank [] k h before there = omega (arith, h)
leading-is blank (x ∷ s) zero h before there = rw (there (omega arith))
leading-is blank (x ∷ s) (suc k) h before there =
    let deeper : k ≡ leading blank s =
    leading-is blank s k (omega (arith, h)) (λ j l. before (suc j) (omega (arith, l))) (λ l. there (omega (arith, l))) in
    rw (before 0 (omega arith)) (ap (λ (n : ℕ). suc n) deeper)

-- the same of what stands from place i on
module _ (blank : Bool) (s : List ℕ) (i k : ℕ) (h : k ≤ length (rest_of s i)) (before : (j : ℕ) → j < k → fits blank (get_or (rest_of s i) j 0) ≡ true)
    (there : k < length (rest_of s i) → fits blank (get_or (rest_of s i) k 0) ≡ false) where
  many : k ≡ leading blank (drop i s)
  many = leading-is blank (rest_of s i) k h before there ∙ ap (leading blank) (rest-is s i)

  inside : i ≤ length s → i + k ≤ length s
  inside l = omega (arith, h, l, ap length (rest-is s i), length-drop i s)

  passed : drop (i + k) s ≡ drop (leading blank (drop i s)) (drop i s)
  passed = sym (drop-drop k i s) ∙ ap (λ (n : ℕ). drop n (drop i s)) many

-- ---- words

pub past_line : (s : List ℕ) (from : ℕ) → length s < from → drop (length s) s ≡ from_word s from
past_line s from h =
    let none : drop from s ≡ [] = drop_of_length-le s {i = from} (omega (arith, h)) in
    rw (drop-length s, none) refl

pub in_line : (s : List ℕ) (from start : ℕ) → start ≡ from + leading true (drop from s) → drop start s ≡ from_word s from
in_line s from start e = rw e (sym (drop-drop (leading true (drop from s)) from s))

-- from a place where the word begins to one behind its last byte
module _ (s : List ℕ) (from start end : ℕ) (e : drop start s ≡ from_word s from) (f : end ≡ start + leading false (drop start s)) where
  pub word_between : take (end - start) (drop start s) ≡ word_at s from
  word_between =
      let many : end - start ≡ leading false (drop start s) = omega (arith, f) in
      rw (many, e) refl

  pub behind_word : end ≤ length s → Behind s from end
  behind_word h = (h, rw f (sym (drop-drop (leading false (drop start s)) start s) ∙ ap (λ (t : List ℕ). drop (leading false t) t) e))

-- past the end nothing stands, as at the end
same_rest : (s : List ℕ) (at from : ℕ) → from ≡ min at (length s) → drop from s ≡ drop at s
same_rest s at from e = go (lt_or_le (length s) at)
  where
    go : (length s < at) ⊎ (at ≤ length s) → drop from s ≡ drop at s
    go (inl h) = drop_of_length-le s {i = from} (omega (arith, e, h)) ∙ sym (drop_of_length-le s {i = at} (omega (arith, h)))
    go (inr h) = ap (λ (n : ℕ). drop n s) (omega (arith, e, h))

-- blanks are passed, and there the word begins
pub starts : (s : List ℕ) (at from k : ℕ) → from ≡ min at (length s) → k ≤ length (rest_of s from)
    → ((j : ℕ) → j < k → fits true (get_or (rest_of s from) j 0) ≡ true)
    → (k < length (rest_of s from) → fits true (get_or (rest_of s from) k 0) ≡ false)
    → (from + k ≤ length s) × (drop (from + k) s ≡ from_word s at)
starts s at from k e h before there = (
  inside true s from k h before there (omega (arith, e)),
  passed true s from k h before there ∙ ap (λ (t : List ℕ). drop (leading true t) t) (same_rest s at from e),
)

-- it goes as far as there is no blank
module _ (s : List ℕ) (at start k : ℕ) (e : (start ≤ length s) × (drop start s ≡ from_word s at)) (h : k ≤ length (rest_of s start))
    (before : (j : ℕ) → j < k → fits false (get_or (rest_of s start) j 0) ≡ true)
    (there : k < length (rest_of s start) → fits false (get_or (rest_of s start) k 0) ≡ false) where
  pub word_there : take k (rest_of s start) ≡ word_at s at
  word_there = rw (rest-is s start, many false s start k h before there, e.1) refl

  pub behind_there : Behind s at (start + k)
  behind_there = (
    inside false s start k h before there e.0,
    passed false s start k h before there ∙ ap (λ (t : List ℕ). drop (leading false t) t) e.1,
  )
