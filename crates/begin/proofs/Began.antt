-- A fresh table: what the cleared words mean, and the promise of `fresh`.
use Prim.Native.Nat.{ℕ, ◌+◌, ◌-◌, ◌≤◌, ◌<◌}
use mathlib.Core.Path.{◌≡◌, refl, sym, ap, subst, ◌∙◌}
use mathlib.Core.Bool.{true, false}
use mathlib.Core.List.{List, ◌++◌}
use mathlib.Core.Option.{none}
use native.Mathlib.Omega.{arith}
use borrow.Author.Tests.{eq-eqb, ne_eqb, lt-ltb, le-ltb}
use lib.Dec.{eqb, ltb}
use lib.ListN.{length, get_or, set, drop, take, replicate, length-set, length-replicate, get_or-replicate, get_or-append}
use lib.Seq.{length-take-le, length_front, get_or-set_same, get_or-set_other, get_or-append-add, get_or-drop}
use Rattle.model.specs.State.{Meaning, empty}
use Rattle.model.specs.Call.{fresh, number}
use Rattle.model.specs.Lawful.{Lawful}
use Rattle.model.proofs.Lawful.{empty_lawful}
use Rattle.pool.specs.Layout.{word, Layout, size}
use Rattle.pool.specs.Means.{Means}
use Rattle.pool.proofs.Laid.{Laid, payload_fits, head_in, seat_in, joint_in}
use Rattle.promise.specs.Promise.{FreshPromise}
use Rattle.promise.specs.Trees.{tree}

-- ---- the words after a fresh table is made: the own words cleared, the capacity in front

abbrev pub begun : List ℕ → ℕ → ℕ → List ℕ
begun ws n c = set (replicate n 0 ++ drop n ws) 0 c

module _ (ws : List ℕ) (n c : ℕ) (fits : n ≤ length ws) where
  cleared_long : length (replicate n 0 ++ drop n ws) ≡ length ws
  cleared_long = length_front ws (replicate n 0) n (length-replicate {A = ℕ} n 0 ∙ sym (length-take-le n ws fits))

  pub begun_long : length (begun ws n c) ≡ length ws
  begun_long = length-set (replicate n 0 ++ drop n ws) 0 c ∙ cleared_long

  begun_first : 1 ≤ n → word (begun ws n c) 0 ≡ c
  begun_first h = get_or-set_same (replicate n 0 ++ drop n ws) 0 c 0 (omega (arith, cleared_long))

  -- every other own word is 0
  begun_zero : (i : ℕ) → 1 ≤ i → i < n → word (begun ws n c) i ≡ 0
  begun_zero i a b =
      get_or-set_other (replicate n 0 ++ drop n ws) 0 i c 0 (λ e. omega (arith, e))
      ∙ get_or-append (replicate n 0) (drop n ws) 0 i (omega (arith, length-replicate {A = ℕ} n 0))
      ∙ get_or-replicate n i 0 0 b

  -- and the words past them are as before
  begun_past : (i : ℕ) → 1 ≤ n → n ≤ i → word (begun ws n c) i ≡ word ws i
  begun_past i a b =
      let e : length (replicate {A = ℕ} n 0) + (i - n) ≡ i = omega (arith, length-replicate {A = ℕ} n 0) in
      let f : n + (i - n) ≡ i = omega arith in
      get_or-set_other (replicate n 0 ++ drop n ws) 0 i c 0 (λ z. omega (arith, z))
      ∙ ap (λ (k : ℕ). get_or (replicate n 0 ++ drop n ws) k 0) (sym e)
      ∙ get_or-append-add (replicate n 0) (drop n ws) (i - n) 0
      ∙ get_or-drop n ws (i - n) 0
      ∙ ap (λ (k : ℕ). get_or ws k 0) f

module _ {P : Type 0} (L : Layout P) where
  -- ---- the promise of a refusal

  -- a refusal
  refused_fresh : (ws : List ℕ) (c k : ℕ) → ((m : Meaning P) → k ≡ number L.rules (fresh c (length ws)) m) → (k ≡ 0 → ⊥) → FreshPromise (tree L) c ws ws k
  refused_fresh ws c k e z = record { number_is = e; empty_then = λ f. absurd (z f); refusal_keeps = λ q. refl; long = refl; past_keeps = λ i q. refl }

  pub no_capacity : (ws : List ℕ) (c : ℕ) → c ≡ 0 → FreshPromise (tree L) c ws ws 1
  no_capacity ws c h = refused_fresh ws c 1 (λ m. rw (eq-eqb c 0 h)) (λ z. omega arith)

  pub past_limit : (ws : List ℕ) (c : ℕ) → L.rules.limit < c → FreshPromise (tree L) c ws ws 1
  past_limit ws c h =
      let a : eqb c 0 ≡ false = ne_eqb c 0 (λ z. omega arith) in
      let b : ltb L.rules.limit c ≡ true = lt-ltb L.rules.limit c h in
      refused_fresh ws c 1 (λ m. rw (a, b)) (λ z. omega arith)

  pub short_buffer : (ws : List ℕ) (c : ℕ) → (c ≡ 0 → ⊥) → c ≤ L.rules.limit → length ws < size L c → FreshPromise (tree L) c ws ws 2
  short_buffer ws c h k s =
      let a : eqb c 0 ≡ false = ne_eqb c 0 h in
      let b : ltb L.rules.limit c ≡ false = le-ltb L.rules.limit c k in
      let d : ltb (length ws) (size L c) ≡ true = lt-ltb (length ws) (size L c) s in
      refused_fresh ws c 2 (λ m. rw (a, b, d)) (λ z. omega arith)

module _ {P : Type 0} (L : Layout P) (laid : Laid L) where
  -- ---- they mean the empty table

  module _ (ws : List ℕ) (c : ℕ) (fits : size L c ≤ length ws) where
    zeroed_word : (i : ℕ) → 1 ≤ i → i < size L c → word (begun ws (size L c) c) i ≡ 0
    zeroed_word i a b = begun_zero ws (size L c) c fits i a b

    pub begun_means : Lawful L.rules (empty c) → Means L (begun ws (size L c) c) (empty c)
    begun_means l = record {
      tree = none;
      long_enough = omega (arith, begun_long ws (size L c) c fits);
      lawful = l;
      capacity_there = begun_first ws (size L c) c fits (omega (arith, head_in laid c));
      count_there = zeroed_word 1 (omega arith) (omega (arith, head_in laid c));
      trial_there = (zeroed_word 3 (omega arith) (omega (arith, head_in laid c)), zeroed_word 4 (omega arith) (omega (arith, head_in laid c)));
      holds = zeroed_word 2 (omega arith) (omega (arith, head_in laid c));
      obeys = tt;
      routes_there = refl;
      route_places_used = λ i h k.
          omega (arith, zeroed_word (L.seat i) (omega (arith, laid.seat_past i)) (omega (arith, seat_in laid c i h, payload_fits laid)));
      inner_places_used = λ j h k. omega (arith, zeroed_word (L.joint c j) (omega (arith, laid.joint_first c j)) (omega (arith, joint_in laid c j h)));
    }

  -- ---- the promise of a fresh table

  pub begins : (ws : List ℕ) (c k : ℕ) → (c ≡ 0 → ⊥) → c ≤ L.rules.limit → k ≡ size L c → k ≤ length ws → FreshPromise (tree L) c ws (begun ws k c) 0
  begins ws c k h r f g = rw f (record {
    number_is = λ m. sym (zeroed m);
    empty_then = λ q. begun_means ws c fits (empty_lawful L.rules c (length ws) none (rw (zeroed none)));
    refusal_keeps = λ q. absurd (q refl);
    long = begun_long ws (size L c) c fits;
    past_keeps = λ i q. begun_past ws (size L c) c fits i (omega (arith, head_in laid c)) q;
  })
    where
      fits : size L c ≤ length ws
      fits = omega arith

      zeroed : (m : Meaning P) → number L.rules (fresh c (length ws)) m ≡ 0
      zeroed m =
          let a : eqb c 0 ≡ false = ne_eqb c 0 h in
          let b : ltb L.rules.limit c ≡ false = le-ltb L.rules.limit c r in
          let d : ltb (length ws) (size L c) ≡ false = le-ltb (length ws) (size L c) (omega arith) in
          rw (a, b, d)

  -- what `clear` left of the own words, with the others behind them
  pub begins_cleared : (ws zs : List ℕ) (c k : ℕ) → (c ≡ 0 → ⊥) → c ≤ L.rules.limit → k ≡ size L c → k ≤ length ws → zs ≡ replicate (length (take k ws)) 0
      → FreshPromise (tree L) c ws (set (zs ++ drop k ws) 0 c) 0
  begins_cleared ws zs c k h r f g e =
      subst (λ (l : List ℕ). FreshPromise (tree L) c ws (set (l ++ drop k ws) 0 c) 0) (sym (e ∙ ap (λ (n : ℕ). replicate n 0) (length-take-le k ws g)))
      (begins ws c k h r f g)
