-- A kind of table: its rules, and what lent words mean for it.
use Rattle.std.specs.Prelude.{ℕ, ◌≡◌, List}
use Rattle.model.specs.State.{Rules, State}
use Rattle.model.specs.Lawful.{Lawful}

-- Which words are a sound pool, and of which state. A sound pool's state obeys the rules, and no words mean two states.
pub record Table (P : Type 0) : Type 1 where
  pub rules : Rules P
  pub Means : List ℕ → State P → Type 0
  pub lawful : (ws : List ℕ) (s : State P) → Means ws s → Lawful rules s
  pub unique : (ws : List ℕ) (s t : State P) → Means ws s → Means ws t → s ≡ t

-- A sound pool means a state.
abbrev pub Sound : {P : Type 0} → Table P → List ℕ → Type 0
Sound {P} T ws = (s : State P) × T.Means ws s
