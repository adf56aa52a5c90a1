-- Lists of numbers below n: distinct ones are no more than n; where there are n of them, all are there; where all are there, there are n at least.
use Prim.Native.Nat.{ℕ, zero, suc, ◌≤◌, ◌<◌}
use mathlib.Core.Path.{◌≡◌, refl, sym, ap, subst, ◌∙◌}
use mathlib.Core.List.{List, [], ◌∷◌}
use mathlib.Core.Logic.{◌⊎◌, inl, inr, ⊎_elim}
use native.Mathlib.Omega.{arith}
use lib.ListN.{length}
use Rattle.bits.proofs.Cases.{eq_or_ne}
use Rattle.pool.specs.Means.{Among}
use Rattle.pool.proofs.Distinct.{Distinct}

-- the list without x
record Without (x : ℕ) (xs : List ℕ) : Type 0 where
  others : List ℕ
  one_less : length xs ≤ suc (length others)
  apart : Distinct others
  among : (i : ℕ) → Among i others → Among i xs × (i ≡ x → ⊥)

without : (x : ℕ) (xs : List ℕ) → Distinct xs → Without x xs
without x [] d = record { others = []; one_less = omega arith; apart = tt; among = λ i k. absurd k }
without x (y ∷ ys) d = go (eq_or_ne y x) (without x ys d.1)
  where
    go : (y ≡ x) ⊎ (y ≡ x → ⊥) → Without x ys → Without x (y ∷ ys)
    go (inl e) w = record {
      others = ys;
      one_less = omega arith;
      apart = d.1;
      among = λ i k. (inr k, λ q. d.0 (subst (λ (z : ℕ). Among z ys) (q ∙ sym e) k));
    }
    go (inr n) w = record {
      others = y ∷ w.others;
      one_less = omega (arith, w.one_less);
      apart = (λ k. d.0 (w.among y k).0, w.apart);
      among = in_both;
    }
      where
        in_both : (i : ℕ) → Among i (y ∷ w.others) → Among i (y ∷ ys) × (i ≡ x → ⊥)
        in_both i (inl e) = (inl e, λ q. n (sym e ∙ q))
        in_both i (inr k) = let a = w.among i k in (inr a.0, a.1)

pub no_more : (n : ℕ) (xs : List ℕ) → Distinct xs → ((i : ℕ) → Among i xs → i < n) → length xs ≤ n
no_more zero [] d h = omega arith
no_more zero (x ∷ xs) d h = absurd (omega (arith, h x (inl refl)))
no_more (suc n) xs d h =
    let w = without n xs d in
    omega (arith, w.one_less, no_more n w.others w.apart (λ i k. let a = w.among i k in omega (arith, h i a.0, a.1)))

among_or_not : (i : ℕ) (xs : List ℕ) → Among i xs ⊎ (Among i xs → ⊥)
among_or_not i [] = inr (λ k. k)
among_or_not i (x ∷ xs) = go (eq_or_ne i x) (among_or_not i xs)
  where
    go : (i ≡ x) ⊎ (i ≡ x → ⊥) → Among i xs ⊎ (Among i xs → ⊥) → Among i (x ∷ xs) ⊎ (Among i (x ∷ xs) → ⊥)
    go (inl e) a = inl (inl e)
    go (inr n) (inl k) = inl (inr k)
    go (inr n) (inr m) = inr (λ k. ⊎_elim n m k)

pub all_among : (n : ℕ) (xs : List ℕ) → Distinct xs → ((i : ℕ) → Among i xs → i < n) → n ≤ length xs → (i : ℕ) → i < n → Among i xs
all_among n xs d h l i b = go (among_or_not i xs)
  where
    below : (j : ℕ) → Among j (i ∷ xs) → j < n
    below j (inl e) = omega (arith, e, b)
    below j (inr k) = h j k

    go : Among i xs ⊎ (Among i xs → ⊥) → Among i xs
    go (inl k) = k
    go (inr m) = absurd (omega (arith, no_more n (i ∷ xs) (m, d) below, l))

-- the list less one that is in it
less : (x : ℕ) (xs : List ℕ) → Among x xs → (ys : List ℕ) × (length xs ≡ suc (length ys)) × ((i : ℕ) → Among i xs → (i ≡ x → ⊥) → Among i ys)
less x [] h = elim h [ ]
less x (y ∷ ys) (inl e) = (ys, refl, λ i h n. ⊎_elim (λ f. absurd (n (f ∙ sym e))) (λ k. k) h)
less x (y ∷ ys) (inr h) = let w = less x ys h in (y ∷ w.0, ap suc w.1, λ i k n. ⊎_elim (λ f. inl f) (λ g. inr (w.2 i g n)) k)

pub every_among : (c : ℕ) (xs : List ℕ) → ((i : ℕ) → i < c → Among i xs) → c ≤ length xs
every_among zero xs f = omega arith
every_among (suc n) xs f =
    let w = less n xs (f n (omega arith)) in
    omega (arith, w.1, every_among n w.0 (λ i l. w.2 i (f i (omega arith)) (omega arith)))
