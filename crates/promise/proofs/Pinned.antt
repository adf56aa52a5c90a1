-- "Every answer is to be pinned down": any two outcomes that a call's promise allows agree, whatever the words were.
use Prim.Native.Nat.{ℕ, zero, suc, ◌≤◌}
use mathlib.Core.Path.{◌≡◌, refl, sym, subst, ◌∙◌}
use mathlib.Core.List.{List}
use mathlib.Core.Option.{none, some}
use native.Mathlib.Omega.{arith}
use lib.ListN.{length}
use Rattle.model.specs.State.{State, Meaning, empty}
use Rattle.model.specs.Call.{Call, Value, next}
use Rattle.pool.specs.Layout.{word, capacity_in}
use Rattle.promise.specs.Table.{Table}
use Rattle.promise.specs.Promise.{Meant, Promise, FreshPromise, LookupPromise}
use Rattle.promise.proofs.Stable.{Alike, Stable, number_stable, value_stable, meaning_stable}
use Rattle.promise.proofs.Promises.{meant_one, meant_none}

module _ {P : Type 0} (T : Table P) where
  -- words have one meaning
  pub meant_unique : (ws : List ℕ) (x y : Meaning P) → Meant T ws x → Meant T ws y → x ≡ y
  meant_unique ws x none h k = meant_none T ws k x h
  meant_unique ws x (some s) h k = meant_one T ws s k x h

  -- what agrees whatever the words mean can't differ: they are a sound pool or they are not
  whichever : (ws : List ℕ) {A : Type 0} {x y : A} → ((m : Meaning P) → Meant T ws m → x ≡ y) → Alike x y
  whichever ws f n = n (f none (λ w. n (f (some w.0) w.1)))

  module _ (c : Call P) (ws : List ℕ) (zs : List ℕ) (n : ℕ) (v : Value P) (p : Promise T c ws zs n v) (zs' : List ℕ) (n' : ℕ) (v' : Value P) (p' : Promise T c ws zs' n' v') where
    -- the number
    pub number_pinned : n ≡ n'
    number_pinned = number_stable n n' (whichever ws (λ m h. p.number_is m h ∙ sym (p'.number_is m h)))

    -- the value
    pub value_pinned : Stable P → v ≡ v'
    value_pinned s = value_stable s v v' (whichever ws (λ m h. p.value_is m h ∙ sym (p'.value_is m h)))

    -- what the pool then means
    pub meaning_pinned : Stable P → (x y : Meaning P) → Meant T zs x → Meant T zs' y → x ≡ y
    meaning_pinned s x y a b =
        meaning_stable s x y (whichever ws (λ m h.
        meant_unique zs x (next T.rules c m) a (p.meaning_is m h) ∙ sym (meant_unique zs' y (next T.rules c m) b (p'.meaning_is m h))))

    -- after a refusal every word
    pub refusal_pinned : (n ≡ 0 → ⊥) → zs ≡ zs'
    refusal_pinned z = p.refusal_keeps z ∙ sym (p'.refusal_keeps (λ e. z (number_pinned ∙ e)))

    -- the words past the pool's size, and how many there are
    pub past_pinned : (i : ℕ) → T.rules.words (capacity_in ws) ≤ i → word zs i ≡ word zs' i
    past_pinned i k = p.past_keeps i k ∙ sym (p'.past_keeps i k)

    pub length_pinned : length zs ≡ length zs'
    length_pinned = p.long ∙ sym p'.long

  -- the same of a fresh table
  module _ (c : ℕ) (ws zs zs' : List ℕ) (n n' : ℕ) (p : FreshPromise T c ws zs n) (p' : FreshPromise T c ws zs' n') where
    pub fresh_number_pinned : n ≡ n'
    fresh_number_pinned = p.number_is none ∙ sym (p'.number_is none)

    pub fresh_refusal_pinned : (n ≡ 0 → ⊥) → zs ≡ zs'
    fresh_refusal_pinned z = p.refusal_keeps z ∙ sym (p'.refusal_keeps (λ e. z (fresh_number_pinned ∙ e)))

    pub fresh_meaning_pinned : (x y : Meaning P) → Meant T zs x → Meant T zs' y → x ≡ y
    fresh_meaning_pinned x y a b = go n refl
      where
        go : (k : ℕ) → n ≡ k → x ≡ y
        go zero e = meant_one T zs (empty c) (p.empty_then e) x a ∙ sym (meant_one T zs' (empty c) (p'.empty_then (sym fresh_number_pinned ∙ e)) y b)
        go (suc k) e = meant_unique zs x y a (subst (λ (l : List ℕ). Meant T l y) (sym (fresh_refusal_pinned (λ z. omega (arith, e, z)))) b)

    pub fresh_past_pinned : (i : ℕ) → T.rules.words c ≤ i → word zs i ≡ word zs' i
    fresh_past_pinned i k = p.past_keeps i k ∙ sym (p'.past_keeps i k)

    pub fresh_length_pinned : length zs ≡ length zs'
    fresh_length_pinned = p.long ∙ sym p'.long

  -- a lookup in a sound pool: the number and the value
  module _ (d : ℕ) (ws : List ℕ) (n n' : ℕ) (v v' : Value P) (p : LookupPromise T d ws n v) (p' : LookupPromise T d ws n' v') (s : State P) (h : T.Means ws s) where
    pub lookup_number_pinned : n ≡ n'
    lookup_number_pinned = p.number_is s h ∙ sym (p'.number_is s h)

    pub lookup_value_pinned : v ≡ v'
    lookup_value_pinned = p.value_is s h ∙ sym (p'.value_is s h)
