-- One octet read, the next, and four of them, over plain values.
use Prim.Native.Nat.{ℕ, ◌+◌, ◌-◌, ◌*◌, ◌≤◌, ◌<◌}
use mathlib.Core.Path.{◌≡◌, refl, ap}
use mathlib.Core.List.{List}
use native.Mathlib.Omega.{arith}
use lib.ListN.{length, take, drop}
use Rattle.std.specs.Prelude.{Option, Some, None}
use Rattle.numeral.specs.Decimal.{Spells, done, digit, ReadAs}
use Rattle.numeral.specs.Words.{index_of}
use Rattle.numeral.specs.Octets.{Octet, Dotted, dot_from, up_to_dot, OctetAt, NextAt}
use Rattle.numeral.proofs.Dots.{Next, next_there, last_there, with_next, with_last}

-- bytes spell one number
spells_one : {v a b : ℕ} {s : List ℕ} → Spells v s a → Spells v s b → a ≡ b
spells_one done done = refl
spells_one (digit low high p) (digit low' high' q) = spells_one p q

-- ---- one octet

module _ (s : List ℕ) (from end : ℕ) (to_dot : end ≡ dot_from s from) where
  piece : take (end - from) (drop from s) ≡ up_to_dot s from
  piece =
      let many : end - from ≡ index_of 46 (drop from s) = omega (arith, to_dot) in
      ap (λ (n : ℕ). take n (drop from s)) many

  pub no_octet : ReadAs (take (end - from) (drop from s)) None → (n : ℕ) → Octet (up_to_dot s from) n → ⊥
  no_octet h n o = let r : ReadAs (up_to_dot s from) None = rw piece at h in r n o.0 o.1 (omega (arith, o.2))

  pub high_octet : (m : ℕ) → ReadAs (take (end - from) (drop from s)) (Some m) → 255 < m → (n : ℕ) → Octet (up_to_dot s from) n → ⊥
  high_octet m h l n o = let r : ReadAs (up_to_dot s from) (Some m) = rw piece at h in omega (arith, spells_one o.1 r.1, o.2, l)

  pub octet_read : (m before : ℕ) → ReadAs (take (end - from) (drop from s)) (Some m) → m ≤ 255
      → OctetAt s from before (Some (before * 256 + m, end))
  octet_read m before h l = let r : ReadAs (up_to_dot s from) (Some m) = rw piece at h in ((m, (r.0, r.1, l), refl), to_dot)

-- ---- one behind a dot

pub next_read : (s : List ℕ) (dot before : ℕ) (r : Option (ℕ × ℕ)) → dot < length s → OctetAt s (dot + 1) before r → NextAt s dot before r
next_read s dot before (Some (v, end)) h o = (h, o)
next_read s dot before None h o = λ l. o

-- how large the number is with the first, and with one more
pub first_fits : (s : List ℕ) (v end : ℕ) → OctetAt s 0 0 (Some (v, end)) → v ≤ 255
first_fits s v end o = omega (arith, o.0.2, o.0.1.2)

pub next_fits : (s : List ℕ) (dot before v end most : ℕ) → NextAt s dot before (Some (v, end)) → before ≤ most → v ≤ most * 256 + 255
next_fits s dot before v end most o h = omega (arith, o.1.0.2, o.1.0.1.2, h)

-- ---- four of them

module _ (s : List ℕ) where
  pub none_first : OctetAt s 0 0 None → (n : ℕ) → Dotted 3 0 s n → ⊥
  none_first h n d = let x = next_there s 0 (dot_from s 0) refl d in h x.value x.front

  module _ (a i : ℕ) (one : OctetAt s 0 0 (Some (a, i))) where
    -- what a row of four octets has behind the first dot, and so on
    second : {n : ℕ} → Dotted 3 0 s n → Next s 0 2 0 i n
    second d = next_there s 0 i one.1 d

    pub none_second : NextAt s i a None → (n : ℕ) → Dotted 3 0 s n → ⊥
    none_second h n d =
        let x = second d in
        let y = next_there s (i + 1) (dot_from s (i + 1)) refl x.behind in
        h x.inside y.value y.front

    module _ (b j : ℕ) (two : NextAt s i a (Some (b, j))) where
      third : {n : ℕ} (d : Dotted 3 0 s n) → Next s (i + 1) 1 (0 * 256 + (second d).value) j n
      third d = next_there s (i + 1) j two.1.1 (second d).behind

      pub none_third : NextAt s j b None → (n : ℕ) → Dotted 3 0 s n → ⊥
      none_third h n d =
          let y = third d in
          let z = next_there s (j + 1) (dot_from s (j + 1)) refl y.behind in
          h y.inside z.value z.front

      module _ (c k : ℕ) (three : NextAt s j b (Some (c, k))) where
        -- the last one, wherever it is said to end
        fourth : (end : ℕ) → end ≡ dot_from s (k + 1) → {n : ℕ} → Dotted 3 0 s n → (k < length s) × (end ≡ length s) × ((m : ℕ) × Octet (up_to_dot s (k + 1)) m)
        fourth end e d =
            let z = next_there s (j + 1) k three.1.1 (third d).behind in
            let w = last_there s (k + 1) end e (omega (arith, z.inside)) z.behind in
            (z.inside, w.0, w.1)

        pub none_fourth : NextAt s k c None → (n : ℕ) → Dotted 3 0 s n → ⊥
        none_fourth h n d = let w = fourth (dot_from s (k + 1)) refl d in h w.0 w.2.0 w.2.1

        module _ (v end : ℕ) (four : NextAt s k c (Some (v, end))) where
          pub more_behind : end < length s → (n : ℕ) → Dotted 3 0 s n → ⊥
          more_behind h n d = omega (arith, (fourth end four.1.1 d).1, h)

          pub address_read : length s ≤ end → Dotted 3 0 s v
          address_read h =
              let w = with_last s (k + 1) end four.1.0.0 four.1.1 h four.1.0.1 four.1.0.2 in
              let z = with_next s (j + 1) k three.1.0.0 three.1.1 four.0 three.1.0.1 three.1.0.2 w in
              let y = with_next s (i + 1) j two.1.0.0 two.1.1 three.0 two.1.0.1 two.1.0.2 z in
              with_next s 0 i one.0.0 one.1 two.0 one.0.1 one.0.2 y
