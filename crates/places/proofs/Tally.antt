-- Counting: a list of distinct numbers that pass a test has them all exactly when it is as long as there are such numbers.
use Prim.Native.Nat.{ℕ, zero, suc, ◌+◌, ◌≤◌, ◌<◌}
use mathlib.Core.Path.{◌≡◌, refl, sym, ap, subst, ◌∙◌}
use mathlib.Core.Bool.{Bool, true, false, not, cond, ◌&&◌, true≢false}
use mathlib.Core.List.{List, [], ◌∷◌}
use mathlib.Core.Logic.{◌⊎◌, inl, inr, ⊎_elim}
use native.Mathlib.Numerals.{add-one}
use native.Mathlib.Omega.{arith}
use borrow.Author.Tests.{eq-eqb, ne_eqb}
use lib.Dec.{eqb}
use lib.ListN.{length}
use Rattle.std.specs.List.{filter, range_with_len}
use Rattle.bits.proofs.Cases.{eq_or_ne}
use Rattle.model.proofs.Tests.{both, fails, not_both}
use Rattle.pool.specs.Means.{Among}
use Rattle.places.specs.Marks.{tally}
use Rattle.pool.proofs.Distinct.{Distinct}

-- ---- the chain that counts

one_more : (f : ℕ → Bool) (i : ℕ) → f i ≡ true → tally f (i + 1) ≡ tally f i + 1
one_more f i t = rw (add-one i) (rw t (omega arith))

no_more : (f : ℕ → Bool) (i : ℕ) → f i ≡ false → tally f (i + 1) ≡ tally f i
no_more f i t = rw (add-one i) (rw t refl)

-- from a on, the numbers that a filter keeps are those that the tally gains
kept_from : (f : ℕ → Bool) (a n b : ℕ) → b ≡ a + n → tally f a + length (filter f (range_with_len a n)) ≡ tally f b
kept_from f a zero b e = let same : a ≡ b = omega (arith, e) in omega (arith, ap (tally f) same)
kept_from f a (suc n) b e = go (f a) refl (kept_from f (a + 1) n b (omega (arith, e)))
  where
    go : (q : Bool) → f a ≡ q → tally f (a + 1) + length (filter f (range_with_len (a + 1) n)) ≡ tally f b
        → tally f a + length (filter f (range_with_len a (suc n))) ≡ tally f b
    go true t h = rw t (omega (arith, h, one_more f a t))
    go false t h = rw t (omega (arith, h, no_more f a t))

pub kept_tally : (f : ℕ → Bool) (n : ℕ) → length (filter f (range_with_len 0 n)) ≡ tally f n
kept_tally f n = omega (arith, kept_from f 0 n n (omega arith))

pub tally_more : (f : ℕ → Bool) (i n m : ℕ) → n ≡ tally f i → f i ≡ true → m ≡ n + 1 → m ≡ tally f (i + 1)
tally_more f i n m e t p = rw (add-one i) (rw t (p ∙ add-one n ∙ ap suc e))

pub tally_same : (f : ℕ → Bool) (i n m : ℕ) → n ≡ tally f i → f i ≡ false → m ≡ n → m ≡ tally f (i + 1)
tally_same f i n m e t p = rw (add-one i) (rw t (p ∙ e))

-- a number that is not 0 passes
pub passes : (n : ℕ) → (n ≡ 0 → ⊥) → not (eqb n 0) ≡ true
passes n f = rw (ne_eqb n 0 f)

pub passes_not : (n : ℕ) → n ≡ 0 → not (eqb n 0) ≡ false
passes_not n e = rw (eq-eqb n 0 e)

pub passed : (n : ℕ) → not (eqb n 0) ≡ true → 1 ≤ n
passed n t = ⊎_elim (λ e. absurd (not_both t (passes_not n e))) (λ f. omega (arith, f)) (eq_or_ne n 0)

-- ---- one number less

pub tally_le : (f : ℕ → Bool) (n : ℕ) → tally f n ≤ n
tally_le f zero = omega arith
tally_le f (suc n) = go (f n) refl (tally_le f n)
  where
    go : (b : Bool) → f n ≡ b → tally f n ≤ n → tally f (suc n) ≤ suc n
    go true t h = rw t (omega arith)
    go false t h = rw t (omega arith)

agree : (f g : ℕ → Bool) (n : ℕ) → ((i : ℕ) → i < n → f i ≡ g i) → tally f n ≡ tally g n
agree f g zero h = refl
agree f g (suc n) h = go (agree f g n (λ i k. h i (omega arith)))
  where
    go : tally f n ≡ tally g n → tally f (suc n) ≡ tally g (suc n)
    go e = rw (h n (omega arith), e)

-- the test without x
abbrev without : (ℕ → Bool) → ℕ → ℕ → Bool
without f x i = f i && not (eqb i x)

without_here : (f : ℕ → Bool) (x i : ℕ) → i ≡ x → without f x i ≡ false
without_here f x i e = fails (λ t. not_both (both (f i) (not (eqb i x)) t).1 (rw (eq-eqb i x e)))

without_other : (f : ℕ → Bool) (x i : ℕ) → (i ≡ x → ⊥) → without f x i ≡ f i
without_other f x i n = rw (ne_eqb i x n) (end (f i))
  where
    end : (b : Bool) → (b && true) ≡ b
    end true = refl
    end false = refl

one_less : (f : ℕ → Bool) (x n : ℕ) → x < n → f x ≡ true → suc (tally (without f x) n) ≡ tally f n
one_less f x zero h t = absurd (omega (arith, h))
one_less f x (suc n) h t = go (eq_or_ne n x) (one_less f x n)
  where
    below : n ≡ x → tally (without f x) n ≡ tally f n
    below e = agree (without f x) f n (λ i k. without_other f x i (λ q. omega (arith, k, e, q)))

    step : (a b : Bool) (k m : ℕ) → a ≡ b → suc k ≡ m → suc (cond a (suc k) k) ≡ cond b (suc m) m
    step true true k m e ih = ap suc ih
    step true false k m e ih = absurd (true≢false e)
    step false true k m e ih = absurd (true≢false (sym e))
    step false false k m e ih = ih

    go : (n ≡ x) ⊎ (n ≡ x → ⊥) → (x < n → f x ≡ true → suc (tally (without f x) n) ≡ tally f n) → suc (tally (without f x) (suc n)) ≡ tally f (suc n)
    go (inl e) ih =
        let yes' : f n ≡ true = ap f e ∙ t in
        rw (without_here f x n e, yes') (ap suc (below e))
    go (inr e) ih = step (without f x n) (f n) (tally (without f x) n) (tally f n) (without_other f x n e) (ih (omega (arith, h, e)) t)

-- ---- the pigeonhole law

-- a list of distinct numbers below n that pass the test
pub record Picked (f : ℕ → Bool) (n : ℕ) (xs : List ℕ) : Type 0 where
  pub distinct : Distinct xs
  pub below : (i : ℕ) → Among i xs → i < n
  pub pass : (i : ℕ) → Among i xs → f i ≡ true

picked_rest : (f : ℕ → Bool) (n x : ℕ) (xs : List ℕ) → Picked f n (x ∷ xs) → Picked (without f x) n xs
picked_rest f n x xs p = record {
  distinct = p.distinct.1;
  below = λ i h. p.below i (inr h);
  pass = λ i h. without_other f x i (λ e. p.distinct.0 (subst (λ (z : ℕ). Among z xs) e h)) ∙ p.pass i (inr h);
}

none_pass : (f : ℕ → Bool) (n : ℕ) → tally f n ≡ 0 → (i : ℕ) → i < n → f i ≡ true → ⊥
none_pass f n e i h t = omega (arith, one_less f i n h t, e)

-- as long as there are: it has them all
pub has_all : (f : ℕ → Bool) (n : ℕ) (xs : List ℕ) → Picked f n xs → length xs ≡ tally f n → (i : ℕ) → i < n → f i ≡ true → Among i xs
has_all f n [] p e i h t = none_pass f n (sym e) i h t
has_all f n (x ∷ xs) p e i h t =
    let less = one_less f x n (p.below x (inl refl)) (p.pass x (inl refl)) in
    ⊎_elim (λ q. inl q) (λ q. inr (has_all (without f x) n xs (picked_rest f n x xs p) (omega (arith, e, less)) i h (without_other f x i q ∙ t))) (eq_or_ne i x)

-- it has them all: as long as there are
pub all_there : (f : ℕ → Bool) (n : ℕ) (xs : List ℕ) → Picked f n xs → ((i : ℕ) → i < n → f i ≡ true → Among i xs) → length xs ≡ tally f n
all_there f n [] p h = sym (none_tally f n h)
  where
    none_tally : (f : ℕ → Bool) (n : ℕ) → ((i : ℕ) → i < n → f i ≡ true → ⊥) → tally f n ≡ 0
    none_tally f zero h = refl
    none_tally f (suc n) h = rw (fails (h n (omega arith))) (none_tally f n (λ i k. h i (omega arith)))
all_there f n (x ∷ xs) p h =
    let less = one_less f x n (p.below x (inl refl)) (p.pass x (inl refl)) in
    let rest = all_there (without f x) n xs (picked_rest f n x xs p) (λ i k t. others i k t) in
    omega (arith, less, rest)
  where
    others : (i : ℕ) → i < n → without f x i ≡ true → Among i xs
    others i k t =
        let w = both (f i) (not (eqb i x)) t in
        ⊎_elim (λ e. absurd (not_both t (without_here f x i e))) (λ a. a) (h i k w.0)
