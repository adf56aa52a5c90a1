-- A call that is accepted, and what it makes of the words.
use Rattle.std.specs.Prelude.{ℕ, ◌≡◌, List}
use Rattle.std.proofs.Math.Option.{some}
use Rattle.model.specs.State.{State}
use Rattle.model.specs.Call.{Call, number, next}
use Rattle.pool.specs.Layout.{Layout}
use Rattle.pool.specs.Means.{Means}

module _ {P : Type 0} (L : Layout P) where
  -- In the state that these words of capacity c mean, no line of the call's numbers holds.
  pub record Accepts (c : ℕ) (call : Call P) (ws : List ℕ) (s : State P) : Type 0 where
    pub means : Means L ws s
    pub capacity_is : s.capacity ≡ c
    pub number_is : number L.rules call (some s) ≡ 0

  -- The words mean a state in which the call is accepted.
  abbrev pub Accepted : ℕ → Call P → List ℕ → Type 0
  Accepted c call ws = (s : State P) × Accepts c call ws s

  -- The words then mean what the model makes of that state.
  abbrev pub Does : ℕ → Call P → List ℕ → List ℕ → Type 0
  Does c call ws zs = (s : State P) → Accepts c call ws s → (t : State P) × (next L.rules call (some s) ≡ some t) × Means L zs t
