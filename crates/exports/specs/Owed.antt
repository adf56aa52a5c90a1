-- What two functions of the C interface owe that is no call's promise on words.
use Rattle.std.specs.Prelude.{ℕ, ◌≡◌, List, ◌⊎◌}
use Rattle.model.specs.Call.{mask, Value}
use Rattle.promise.specs.Promise.{Promise}
use Rattle.promise.specs.Table.{Table}

-- A mask is asked of no pool: whatever words there are, it leaves them.
abbrev pub MaskPromise : {P : Type 0} → Table P → ℕ → ℕ → Value P → Type 0
MaskPromise T m n v = (ws : List ℕ) → Promise T (mask m) ws ws n v

-- 1 where it holds and 0 where it does not.
abbrev pub YesNo : ℕ → Type 0 → Type 0
YesNo n P = ((n ≡ 1) × P) ⊎ ((n ≡ 0) × (P → ⊥))
