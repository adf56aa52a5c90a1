-- What a call owes, for any words: document 01's "What counts as pinned down".
use Rattle.std.specs.Prelude.{ℕ, ◌≤◌, ◌≡◌, List, ◌⊎◌, length}
use Rattle.std.proofs.Math.Option.{none, some}
use Rattle.model.specs.State.{State, Meaning, empty}
use Rattle.model.specs.Call.{Call, fresh, lookup, Value, number, value, next}
use Rattle.pool.specs.Layout.{word, capacity_in}
use Rattle.promise.specs.Table.{Table, Sound}

module _ {P : Type 0} (T : Table P) where
  -- What words mean: a state if they are a sound pool, else nothing.
  abbrev pub Meant : List ℕ → Meaning P → Type 0
  Meant ws none = Sound T ws → ⊥
  Meant ws (some s) = T.Means ws s

  -- A call on these words leaves those, with this number and this value.
  pub record Promise (c : Call P) (before after : List ℕ) (n : ℕ) (v : Value P) : Type 0 where
    -- the number is the model's: 9 first, if the pool is not sound and the call asks
    pub number_is : (m : Meaning P) → Meant before m → n ≡ number T.rules c m
    -- and so is the value
    pub value_is : (m : Meaning P) → Meant before m → v ≡ value T.rules c m
    -- and the pool then means what the model says
    pub meaning_is : (m : Meaning P) → Meant before m → Meant after (next T.rules c m)
    -- "A refusal changes no lent word."
    pub refusal_keeps : (n ≡ 0 → ⊥) → after ≡ before
    -- "Words past that size are never .. written."
    pub long : length after ≡ length before
    pub past_keeps : (i : ℕ) → T.rules.words (capacity_in before) ≤ i → word after i ≡ word before i

  -- A fresh table of capacity c asked for: nothing is asked of the words.
  pub record FreshPromise (c : ℕ) (before after : List ℕ) (n : ℕ) : Type 0 where
    pub number_is : (m : Meaning P) → n ≡ number T.rules (fresh c (length before)) m
    -- "The fresh table is empty with no trial open, whatever the buffer held."
    pub empty_then : n ≡ 0 → T.Means after (empty c)
    pub refusal_keeps : (n ≡ 0 → ⊥) → after ≡ before
    pub long : length after ≡ length before
    pub past_keeps : (i : ℕ) → T.rules.words c ≤ i → word after i ≡ word before i

  -- A lookup writes nothing; in a pool that is not sound it "ends, reads only the pool .. and answers 0, 9 or 13; in a sound one never 9".
  pub record LookupPromise (d : ℕ) (ws : List ℕ) (n : ℕ) (v : Value P) : Type 0 where
    pub number_is : (s : State P) → T.Means ws s → n ≡ number T.rules (lookup d) (some s)
    pub value_is : (s : State P) → T.Means ws s → v ≡ value T.rules (lookup d) (some s)
    pub loose : (n ≡ 0) ⊎ ((n ≡ 9) ⊎ (n ≡ 13))
