-- Document 01, "The pool": what a sound pool's state obeys, clause by clause. The rest of that sentence speaks of words and places, and stands with the pool.
use Rattle.std.specs.Prelude.{ℕ, ◌≤◌, ◌≡◌, true, false, List, [], ◌∷◌, length}
use Rattle.model.specs.Prefix.{Prefix, well_formed}
use Rattle.model.specs.Routes.{Route, InOrder, holds}
use Rattle.model.specs.State.{Rules, good_payload, Change, added, deleted, changed, State, changes, undo}

module _ {P : Type 0} (R : Rules P) where
  -- A route "obeys "What the table holds"": its prefix may be held, and its payload is good there.
  abbrev pub Obeys : Prefix → P → Type 0
  Obeys p h = (well_formed R.width p ≡ true) × (R.may_hold p ≡ true) × (good_payload R p h ≡ true)

  -- "Its routes .. obey".
  abbrev pub AllObey : List (Route P) → Type 0
  AllObey [] = Unit {0}
  AllObey (r ∷ rs) = Obeys r.prefix r.payload × AllObey rs

  -- "The prefixes and hops of its recorded changes obey".
  abbrev pub ChangeObeys : Change P → Type 0
  ChangeObeys (added r) = Obeys r.prefix r.payload
  ChangeObeys (deleted r) = Obeys r.prefix r.payload
  ChangeObeys (changed p old new) = Obeys p old × Obeys p new

  -- Every recorded change does.
  abbrev pub AllChangesObey : List (Change P) → Type 0
  AllChangesObey [] = Unit {0}
  AllChangesObey (c ∷ cs) = ChangeObeys c × AllChangesObey cs

module _ {P : Type 0} where
  -- "Taking back an add or a hop change needs its prefix there, taking back a delete needs its prefix absent".
  abbrev pub CanUndo : Change P → List (Route P) → Type 0
  CanUndo (added r) l = holds r.prefix l ≡ true
  CanUndo (deleted r) l = holds r.prefix l ≡ false
  CanUndo (changed p old new) l = holds p l ≡ true

  -- "An open trial's changes could be taken back one by one, newest first .. and no step passes the capacity."
  abbrev pub Undoable : ℕ → List (Change P) → List (Route P) → Type 0
  Undoable c [] l = Unit {0}
  Undoable c (x ∷ xs) l = CanUndo x l × (length (undo x l) ≤ c) × Undoable c xs (undo x l)

module _ {P : Type 0} (R : Rules P) where
  -- What a sound pool's state obeys. That no change stands without an open trial is in the type of a trial.
  pub record Lawful (s : State P) : Type 0 where
    -- "its numbers are in range": a capacity that a fresh table may have
    pub at_least_one : 1 ≤ s.capacity
    pub in_range : s.capacity ≤ R.limit
    -- "it holds no more routes than its capacity"
    pub no_more : length s.routes ≤ s.capacity
    -- "its routes .. obey "What the table holds"": each for itself, and no two with the same prefix
    pub obeyed : AllObey R s.routes
    pub ordered : InOrder s.routes
    -- "and the prefixes and hops of its recorded changes"
    pub recorded : AllChangesObey R (changes s.trial)
    -- "at most 64 changes stand"
    pub few : length (changes s.trial) ≤ R.standing
    -- "an open trial's changes could be taken back"
    pub undoable : Undoable s.capacity (changes s.trial) s.routes
