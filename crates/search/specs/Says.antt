-- What an answer says, as its number and its value.
use Rattle.std.specs.Prelude.{ℕ, ◌≡◌, ◌⊎◌}
use Rattle.std.proofs.Math.Option.{Option, none, some}
use Rattle.model.specs.Routes.{Route}
use Rattle.model.specs.Call.{Value, nothing, route}

module _ {P : Type 0} where
  -- The answer is this route; where there is none, it has number x and no value.
  abbrev pub Says : ℕ → Value P → ℕ → Option (Route P) → Type 0
  Says n v x none = (n ≡ x) × (v ≡ nothing)
  Says n v x (some q) = (n ≡ 0) × (v ≡ route q)

-- Of any words: a route, number x, or that the pool is not sound.
abbrev pub Loose : ℕ → ℕ → Type 0
Loose n x = (n ≡ 0) ⊎ ((n ≡ 9) ⊎ (n ≡ x))
