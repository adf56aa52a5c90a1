-- How a promise is kept: from the one state that the words mean, or from that they mean none.
use Prim.Native.Nat.{ℕ, ◌≤◌}
use mathlib.Core.Path.{◌≡◌, refl, sym, ap, subst, ◌∙◌}
use mathlib.Core.Bool.{true, false}
use mathlib.Core.List.{List}
use mathlib.Core.Option.{none, some}
use native.Mathlib.Omega.{arith}
use borrow.Author.Tests.{ne_eqb}
use lib.ListN.{length}
use Rattle.model.specs.State.{State, Meaning}
use Rattle.model.specs.Call.{Call, Value, nothing, number, accepted, value, next}
use Rattle.model.proofs.Numbers.{asks, unsound_gives_9}
use Rattle.pool.specs.Layout.{word, capacity_in}
use Rattle.promise.specs.Table.{Table, Sound}
use Rattle.promise.specs.Promise.{Meant, Promise}

module _ {P : Type 0} (T : Table P) where
  -- ---- what words mean, they mean alone

  pub meant_one : (ws : List ℕ) (s : State P) → T.Means ws s → (m : Meaning P) → Meant T ws m → m ≡ some s
  meant_one ws s h none k = absurd (k (s, h))
  meant_one ws s h (some t) k = ap some (T.unique ws t s k h)

  pub meant_none : (ws : List ℕ) → (Sound T ws → ⊥) → (m : Meaning P) → Meant T ws m → m ≡ none
  meant_none ws h none k = refl
  meant_none ws h (some t) k = absurd (h (t, k))

  -- ---- a refusal has no value and leaves the meaning

  refused : (c : Call P) (m : Meaning P) (n : ℕ) → number T.rules c m ≡ n → (n ≡ 0 → ⊥) → accepted T.rules c m ≡ false
  refused c m n e z = ne_eqb (number T.rules c m) 0 (λ f. z (sym e ∙ f))

  pub refused_value : (c : Call P) (m : Meaning P) (n : ℕ) → number T.rules c m ≡ n → (n ≡ 0 → ⊥) → value T.rules c m ≡ nothing
  refused_value c m n e z = rw (refused c m n e z)

  pub refused_next : (c : Call P) (m : Meaning P) (n : ℕ) → number T.rules c m ≡ n → (n ≡ 0 → ⊥) → next T.rules c m ≡ m
  refused_next c m n e z = rw (refused c m n e z)

  -- ---- promises

  -- from the one meaning that the words have
  pub promise_of : (c : Call P) (ws zs : List ℕ) (n : ℕ) (v : Value P) (m : Meaning P) → ((x : Meaning P) → Meant T ws x → x ≡ m) → n ≡ number T.rules c m
      → v ≡ value T.rules c m
      → Meant T zs (next T.rules c m) → ((n ≡ 0 → ⊥) → zs ≡ ws) → length zs ≡ length ws → ((i : ℕ) → T.rules.words (capacity_in ws) ≤ i → word zs i ≡ word ws i)
      → Promise T c ws zs n v
  promise_of c ws zs n v m one a b d e f g = record {
    number_is = λ x h. a ∙ ap (number T.rules c) (sym (one x h));
    value_is = λ x h. b ∙ ap (value T.rules c) (sym (one x h));
    meaning_is = λ x h. subst (λ (y : Meaning P). Meant T zs (next T.rules c y)) (sym (one x h)) d;
    refusal_keeps = e;
    long = f;
    past_keeps = g;
  }

  -- a refusal, whatever the reason
  pub refuses : (c : Call P) (ws : List ℕ) (n : ℕ) (m : Meaning P) → Meant T ws m → ((x : Meaning P) → Meant T ws x → x ≡ m) → number T.rules c m ≡ n → (n ≡ 0 → ⊥)
      → Promise T c ws ws n nothing
  refuses c ws n m h one e z =
      promise_of c ws ws n nothing m one (sym e) (sym (refused_value c m n e z)) (subst (Meant T ws) (sym (refused_next c m n e z)) h) (λ k. refl) refl (λ i k. refl)

  -- 9, of a pool that is not sound
  pub refuses_unsound : (c : Call P) (ws : List ℕ) → asks T.rules c ≡ true → (Sound T ws → ⊥) → Promise T c ws ws 9 nothing
  refuses_unsound c ws a h = refuses c ws 9 none h (meant_none ws h) (unsound_gives_9 T.rules c a) (λ z. nine z)
    where
      nine : ◌≡◌ {A = ℕ} 9 0 → ⊥
      nine z = omega arith

  -- another number, of a sound pool
  pub refuses_sound : (c : Call P) (ws : List ℕ) (n : ℕ) (s : State P) → T.Means ws s → number T.rules c (some s) ≡ n → (n ≡ 0 → ⊥) → Promise T c ws ws n nothing
  refuses_sound c ws n s h e z = refuses c ws n (some s) h (meant_one ws s h) e z

  -- an answer of a sound pool that stays as it is
  pub answers : (c : Call P) (ws : List ℕ) (v : Value P) (s : State P) → T.Means ws s → number T.rules c (some s) ≡ 0 → value T.rules c (some s) ≡ v
      → next T.rules c (some s) ≡ some s → Promise T c ws ws 0 v
  answers c ws v s h e f g = promise_of c ws ws 0 v (some s) (meant_one ws s h) (sym e) (sym f) (subst (Meant T ws) (sym g) h) (λ k. refl) refl (λ i k. refl)
