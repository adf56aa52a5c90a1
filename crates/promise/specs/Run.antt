-- Demand 3 speaks of runs of calls.
use Rattle.std.specs.Prelude.{ℕ, List, [], ◌∷◌, length}
use Rattle.model.specs.Call.{Call, fresh, lookup, Value}
use Rattle.promise.specs.Table.{Table}
use Rattle.promise.specs.Promise.{Promise, FreshPromise, LookupPromise}

module _ {P : Type 0} (T : Table P) where
  -- What a run of calls on one lent slice leaves in it, and its transcript: each call with its number, newest first. Each step is what the `ensures`
  -- of the public function says. (Asking whether the pool is sound changes no word and has no number.)
  pub data Ran : List (Call P × ℕ) → List ℕ → Type 0 where
    -- a fresh table was accepted, whatever the buffer held
    begun : (c : ℕ) (ws zs : List ℕ) → FreshPromise T c ws zs 0 → Ran ((fresh c (length ws), 0) ∷ []) zs
    -- then any call was made with any arguments, accepted or not
    called : {xs : List (Call P × ℕ)} {ws : List ℕ} → Ran xs ws → (c : Call P) (zs : List ℕ) (n : ℕ) (v : Value P) → Promise T c ws zs n v → Ran ((c, n) ∷ xs) zs
    looked : {xs : List (Call P × ℕ)} {ws : List ℕ} → Ran xs ws → (d n : ℕ) (v : Value P) → LookupPromise T d ws n v → Ran ((lookup d, n) ∷ xs) ws
    fresh_again : {xs : List (Call P × ℕ)} {ws : List ℕ} → Ran xs ws → (c : ℕ) (zs : List ℕ) (n : ℕ) → FreshPromise T c ws zs n → Ran ((fresh c (length ws), n) ∷ xs) zs
