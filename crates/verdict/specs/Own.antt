-- What a pool's first word and length tell.
use Rattle.std.specs.Prelude.{ℕ, ◌≤◌, ◌≡◌, List, length, Result, Ok, Err}
use Rattle.pool.specs.Layout.{capacity_in}
use Rattle.model.specs.State.{State}
use Rattle.promise.specs.Table.{Table, Sound}
use Rattle.pool.specs.declared.damage.Damage.{Damage}

module _ {P : Type 0} (T : Table P) where
  -- The capacity is in range and the words are enough; or the pool is not sound.
  abbrev pub OwnRight : List ℕ → Result ℕ Damage → Type 0
  OwnRight ws (Ok c) = (1 ≤ c) × (c ≤ T.rules.limit) × (capacity_in ws ≡ c) × (T.rules.words c ≤ length ws)
  OwnRight ws (Err d) = Sound T ws → ⊥

  -- The pool is sound and means a state of this capacity; or it is not sound.
  abbrev pub TestedRight : List ℕ → Result ℕ Damage → Type 0
  TestedRight ws (Ok c) = (s : State P) × T.Means ws s × (s.capacity ≡ c)
  TestedRight ws (Err d) = Sound T ws → ⊥
