-- A row of octets is parted at its first dot, and put together there.
use Prim.Native.Nat.{ℕ, suc, ◌+◌, ◌*◌, ◌≤◌, ◌<◌}
use mathlib.Core.Path.{◌≡◌, refl, sym, ap, subst, ◌∙◌}
use mathlib.Core.List.{List, [], ◌∷◌, ◌++◌, append-nil}
use mathlib.Core.Logic.{⊎_elim}
use native.Mathlib.Omega.{arith}
use lib.ListN.{length, take, drop, get_or, length-append, length-drop}
use lib.Seq.{take_all, take_at, drop-append-add, split_at, drop-drop}
use Rattle.bits.proofs.Cases.{eq_or_ne}
use Rattle.numeral.specs.Words.{index_of}
use Rattle.numeral.specs.Decimal.{Spells, done, digit}
use Rattle.numeral.specs.Octets.{Octet, Dotted, last, more, dot_from, up_to_dot}
use Rattle.numeral.proofs.Wording.{at_once, later, nowhere}

-- ---- the first dot

-- digits have none
past_digits : {v n : ℕ} {s : List ℕ} (rest : List ℕ) → Spells v s n → index_of 46 (s ++ rest) ≡ length s + index_of 46 rest
past_digits rest done = omega arith
past_digits rest (digit {b = b} {rest = s} low high h) =
    let deeper = past_digits rest h in
    omega (arith, later 46 b (s ++ rest) (λ e. omega (arith, low, high, e)), deeper)

-- where there is one, it is one
is_dot : (t : List ℕ) → index_of 46 t < length t → get_or t (index_of 46 t) 0 ≡ 46
is_dot [] h = absurd (omega (arith, h))
is_dot (x ∷ t) h = ⊎_elim here (λ n. behind n (is_dot t (omega (arith, h, later 46 x t n)))) (eq_or_ne x 46)
  where
    here : x ≡ 46 → get_or (x ∷ t) (index_of 46 (x ∷ t)) 0 ≡ 46
    here e = rw (at_once 46 x t e) e

    behind : (x ≡ 46 → ⊥) → get_or t (index_of 46 t) 0 ≡ 46 → get_or (x ∷ t) (index_of 46 (x ∷ t)) 0 ≡ 46
    behind n g = rw (later 46 x t n) g

-- ---- a row of octets, parted

-- at its first dot
record Parts (k before : ℕ) (t : List ℕ) (whole : ℕ) : Type 0 where
  inside : index_of 46 t < length t
  value : ℕ
  front : Octet (take (index_of 46 t) t) value
  behind : Dotted k (before * 256 + value) (drop (index_of 46 t + 1) t) whole

parts : {k before whole : ℕ} {t : List ℕ} → Dotted (suc k) before t whole → Parts k before t whole
parts {k} {before} {whole} (more {n = n} {s = s} {rest = rest} o d) = record {
  inside = omega (arith, first, length-append s (46 ∷ rest));
  value = n;
  front = rw (take_at s (46 ∷ rest) (index_of 46 (s ++ (46 ∷ rest))) (sym first)) o;
  behind = rw first (rw (drop-append-add s (46 ∷ rest) 1) d);
}
  where
    first : index_of 46 (s ++ (46 ∷ rest)) ≡ length s
    first = omega (arith, past_digits (46 ∷ rest) o.1, at_once 46 46 rest refl)

-- the last octet has no dot behind it
end_of : {before whole : ℕ} {t : List ℕ} → Dotted 0 before t whole → (index_of 46 t ≡ length t) × ((n : ℕ) × Octet (take (index_of 46 t) t) n)
end_of (last {n = n} {s = s} o) = (ends, (n, rw (take_all (index_of 46 s) s (omega (arith, ends))) o))
  where
    ends : index_of 46 s ≡ length s
    ends = ap (index_of 46) (sym (append-nil s)) ∙ omega (arith, past_digits [] o.1, nowhere 46)

-- ---- by places of the text

module _ (s : List ℕ) (from : ℕ) where
  -- behind the dot
  past_dot : drop (index_of 46 (drop from s) + 1) (drop from s) ≡ drop (dot_from s from + 1) s
  past_dot =
      let places : from + (index_of 46 (drop from s) + 1) ≡ dot_from s from + 1 = omega arith in
      drop-drop (index_of 46 (drop from s) + 1) from s ∙ ap (λ (n : ℕ). drop n s) places

  -- more octets: one stands up to the dot, and the others behind it
  pub record Next (k before dot whole : ℕ) : Type 0 where
    pub inside : dot < length s
    pub value : ℕ
    pub front : Octet (up_to_dot s from) value
    pub behind : Dotted k (before * 256 + value) (drop (dot + 1) s) whole

  pub next_there : {k before whole : ℕ} (dot : ℕ) → dot ≡ dot_from s from → Dotted (suc k) before (drop from s) whole → Next k before dot whole
  next_there dot e d =
      let p = parts d in
      record { inside = omega (arith, e, p.inside, length-drop from s); value = p.value; front = p.front; behind = rw (e, sym past_dot) p.behind }

  -- the last one reaches to the end
  pub last_there : {before whole : ℕ} (dot : ℕ) → dot ≡ dot_from s from → from ≤ length s → Dotted 0 before (drop from s) whole
      → (dot ≡ length s) × ((n : ℕ) × Octet (up_to_dot s from) n)
  last_there dot e h d = let p = end_of d in (omega (arith, e, h, p.0, length-drop from s), p.1)

  -- ---- put together

  pub with_next : {k before whole v : ℕ} (dot n : ℕ) → dot ≡ dot_from s from → dot < length s → Octet (up_to_dot s from) n → v ≡ before * 256 + n → Dotted k v (drop (dot + 1) s) whole
      → Dotted (suc k) before (drop from s) whole
  with_next {k} {before} {whole} dot n e h o f d = subst (λ (t : List ℕ). Dotted (suc k) before t whole) (sym apart) (more o (rw (f, e) at d))
    where
      inside : index_of 46 (drop from s) < length (drop from s)
      inside = omega (arith, e, h, length-drop from s)

      apart : drop from s ≡ up_to_dot s from ++ (46 ∷ drop (dot_from s from + 1) s)
      apart =
          let one : suc (index_of 46 (drop from s)) ≡ index_of 46 (drop from s) + 1 = omega arith in
          split_at (drop from s) (index_of 46 (drop from s)) 0 inside ∙ rw (is_dot (drop from s) inside, sym past_dot) (ap (λ (m : ℕ). up_to_dot s from ++ (46 ∷ drop m (drop from s))) one)

  pub with_last : {before v : ℕ} (dot n : ℕ) → dot ≡ dot_from s from → length s ≤ dot → Octet (up_to_dot s from) n → v ≡ before * 256 + n → Dotted 0 before (drop from s) v
  with_last {before} dot n e h o f =
      let whole : take (index_of 46 (drop from s)) (drop from s) ≡ drop from s = take_all (index_of 46 (drop from s)) (drop from s) (omega (arith, e, h, length-drop from s)) in
      rw f (last (rw whole at o))
