-- What the theorems about runs say: what a transcript makes of an empty table, what a walk shows, what a lookup answers, and what holds at each moment.
use Rattle.std.specs.Prelude.{ℕ, ◌≡◌, List, [], ◌∷◌, ◌⊎◌}
use Rattle.model.specs.Routes.{Route}
use Rattle.model.specs.Match.{LongestMatch, NoMatch}
use Rattle.model.specs.Call.{Call, after, Value, nothing, route}
use Rattle.model.specs.History.{survivors, replay}
use Rattle.promise.specs.Table.{Table}
use Rattle.promise.specs.Promise.{Promise}

module _ {P : Type 0} where
  -- What the survivors make of an empty table.
  abbrev pub made : List (Call P × ℕ) → List (Route P)
  made xs = replay (survivors xs)

  -- What a step of the walk answers, where these routes are still to come.
  abbrev pub Shows : List (Route P) → ℕ → Value P → Type 0
  Shows [] n v = (n ≡ 14) × (v ≡ nothing)
  Shows (x ∷ rest) n v = (n ≡ 0) × (v ≡ route x)

  -- What a lookup answers among these routes, with addresses of W bits.
  abbrev pub LooksUp : ℕ → ℕ → List (Route P) → ℕ → Value P → Type 0
  LooksUp W d l n v = ((n ≡ 0) × ((x : Route P) × (v ≡ route x) × LongestMatch W d l x)) ⊎ ((n ≡ 13) × (v ≡ nothing) × NoMatch W d l)

  -- At each moment of a transcript: of the call, its number and the transcript before it.
  abbrev pub Everywhere : (Call P → ℕ → List (Call P × ℕ) → Type 0) → List (Call P × ℕ) → Type 0
  Everywhere F [] = Unit {0}
  Everywhere F (x ∷ xs) = F x.0 x.1 xs × Everywhere F xs

-- The walk as a caller makes it: a question and, after each route that is shown, the question for the next, until 14. These routes were shown.
pub data Walked {P : Type 0} (T : Table P) (ws : List ℕ) : Call P → List (Route P) → Type 0 where
  ended : (c : Call P) (v : Value P) → Promise T c ws ws 14 v → Walked T ws c []
  shown : (c : Call P) (x : Route P) (l : List (Route P)) → Promise T c ws ws 0 (route x) → Walked T ws (after x.prefix) l → Walked T ws c (x ∷ l)
