-- Whether a call may go on: the tests of document 01's table of numbers, in its order.
use Rattle.std.specs.Prelude.{ℕ, ◌≡◌, Bool, List, Result, Ok, Err}
use Rattle.std.proofs.Math.Option.{some}
use Rattle.model.specs.Prefix.{Prefix}
use Rattle.model.specs.Routes.{find}
use Rattle.model.specs.State.{Hand, State, Meaning}
use Rattle.model.specs.Call.{Call, guarded, number}
use Rattle.pool.specs.Layout.{Layout}
use Rattle.pool.specs.Means.{Means}
use Rattle.route.specs.Answers.{refusal_number}
use Rattle.promise.specs.Promise.{Meant}
use Rattle.promise.specs.Table.{Table}
use Rattle.route.specs.declared.answer.Refusal.{Refusal}

module _ {P : Type 0} (T : Table P) where
  -- A test of a sound pool tells what it is said to tell of the state.
  abbrev pub Tells : List ℕ → (State P → Bool) → Bool → Type 0
  Tells ws f r = (s : State P) → T.Means ws s → r ≡ f s

  -- The call goes on where its number is 0, and is refused with its number where that is another.
  abbrev pub MayRight : Call P → List ℕ → Result ℕ Refusal → Type 0
  MayRight call ws (Ok c) = (s : State P) × T.Means ws s × (s.capacity ≡ c) × (number T.rules call (some s) ≡ 0)
  MayRight call ws (Err x) = ((m : Meaning P) → Meant T ws m → number T.rules call m ≡ refusal_number x) × (refusal_number x ≡ 0 → ⊥)

-- A test of the pool's own words tells whether the route of prefix p is guarded from that hand.
abbrev pub TellsGuarded : {P : Type 0} (L : Layout P) → ℕ → List ℕ → Hand → Prefix → Bool → Type 0
TellsGuarded {P} L c ws h p r = (s : State P) → Means L ws s → s.capacity ≡ c → r ≡ guarded L.rules h (find p s.routes)
