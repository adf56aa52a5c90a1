-- Document 01, "Calls and trials" and "When the table says no": what each call answers, and what it makes of the table.
use Rattle.std.specs.Prelude.{ℕ, Bool, true, false, not, cond, ◌&&◌, ◌||◌, List, [], ◌∷◌, ltb, eqb, length}
use Rattle.std.proofs.Math.Option.{Option, none, some}
use Rattle.bits.specs.Mask.{good_mask, mask_length}
use Rattle.model.specs.Prefix.{Prefix, well_formed}
use Rattle.model.specs.Routes.{Route, find, present, holds, insert, remove, replace, first_of, next_after}
use Rattle.model.specs.Match.{best}
use Rattle.model.specs.State.{Hand, guards, Rules, Change, added, deleted, changed, Trial, closed, opened, State, Meaning, empty, room_left, full, is_open, changes, record_in, undo, undo_all}

-- The calls that ask about a table. A fresh table is asked for with a capacity, in a buffer of so many words.
pub data Call (P : Type 0) : Type 0 where
  fresh : (capacity words : ℕ) → Call P
  add : Route P → Call P
  delete : Hand → Prefix → Call P
  change : Route P → Call P
  lookup : (destination : ℕ) → Call P
  first : Call P
  after : Prefix → Call P
  room : Call P
  mask : (word : ℕ) → Call P
  open_trial : Call P
  keep : Call P
  back_out : Call P
  step_back : Call P

-- What a call answers besides its number.
pub data Value (P : Type 0) : Type 0 where
  nothing : Value P
  route : Route P → Value P
  count : ℕ → Value P

-- A line of the table of numbers: the number, and whether its line holds.
abbrev pub Line : Type 0
Line = ℕ × Bool

-- "Each number is given exactly when its line holds and no earlier one does"; 0 where none holds.
abbrev pub first_due : List Line → ℕ
first_due [] = 0
first_due (l ∷ ls) = cond l.1 l.0 (first_due ls)

module _ {P : Type 0} where
  -- "Pool not sound, or too short for what it says".
  abbrev pub unsound : Meaning P → Bool
  unsound none = true
  unsound (some s) = false

  -- The state that a sound pool means. (An unsound one has none; whatever stands here, its 9 comes first.)
  abbrev pub state_of : Meaning P → State P
  state_of none = empty 0
  state_of (some s) = s

module _ {P : Type 0} (R : Rules P) where
  -- "A trial is open with 64 changes standing".
  abbrev pub trial_full : State P → Bool
  trial_full s = is_open s.trial && eqb (length (changes s.trial)) R.standing

  -- "A learned change or delete aimed at a fixed route": the route that has the prefix, if there is one, is guarded from that hand.
  abbrev pub guarded : Hand → Option (Route P) → Bool
  guarded by none = false
  guarded by (some r) = guards (R.hand r.payload) by

  -- The lines of what a call brings for a route: "16 .. judged after 4".
  abbrev pub of_payload : Route P → List Line → List Line
  of_payload r ls = (4, not (R.good_hop r.prefix r.payload)) ∷ (16, not (R.good_metric r.payload)) ∷ ls

  -- The lines of a call that needs the prefix there: "15 .. judged after 6".
  abbrev pub of_held : Hand → Prefix → State P → List Line
  of_held h p s = (6, not (holds p s.routes)) ∷ (15, guarded h (find p s.routes)) ∷ (8, trial_full s) ∷ []

  -- The lines of each call, in document 01's order: "1 before 2; otherwise 9, 3, 4, 5 or 6, 8, 7; for step back 9, 11, 12. Numbers 10, 13 and 14,
  -- and 11 in keep and back out, come last in their calls."
  abbrev pub due : Call P → Meaning P → List Line
  due (fresh c n) m = (1, eqb c 0 || ltb R.limit c) ∷ (2, ltb n (R.words c)) ∷ []
  due (add r) m =
      (9, unsound m)
      ∷ (3, not (well_formed R.width r.prefix && R.may_hold r.prefix))
      ∷ of_payload r ((5, holds r.prefix (state_of m).routes) ∷ (8, trial_full (state_of m)) ∷ (7, full (state_of m)) ∷ [])
  due (delete h p) m = (9, unsound m) ∷ (3, not (well_formed R.width p)) ∷ of_held h p (state_of m)
  due (change r) m =
      (9, unsound m)
      ∷ (3, not (well_formed R.width r.prefix))
      ∷ of_payload r (of_held (R.hand r.payload) r.prefix (state_of m))
  due (lookup d) m = (9, unsound m) ∷ (13, not (present (best R.width d (state_of m).routes))) ∷ []
  due first m = (9, unsound m) ∷ (14, not (present (first_of (state_of m).routes))) ∷ []
  due (after p) m = (9, unsound m) ∷ (3, not (well_formed R.width p)) ∷ (14, not (present (next_after p (state_of m).routes))) ∷ []
  due room m = (9, unsound m) ∷ []
  due (mask w) m = (3, not (good_mask R.width w)) ∷ []
  due open_trial m = (9, unsound m) ∷ (10, is_open (state_of m).trial) ∷ []
  due keep m = (9, unsound m) ∷ (11, not (is_open (state_of m).trial)) ∷ []
  due back_out m = (9, unsound m) ∷ (11, not (is_open (state_of m).trial)) ∷ []
  due step_back m = (9, unsound m) ∷ (11, not (is_open (state_of m).trial)) ∷ (12, eqb (length (changes (state_of m).trial)) 0) ∷ []

  -- The number that a call answers.
  abbrev pub number : Call P → Meaning P → ℕ
  number c m = first_due (due c m)

  -- A call is accepted where its number is 0.
  abbrev pub accepted : Call P → Meaning P → Bool
  accepted c m = eqb (number c m) 0

module _ {P : Type 0} where
  -- The route found, if there is one.
  abbrev pub found : Option (Route P) → Value P
  found none = nothing
  found (some r) = route r

  -- What an accepted call shows.
  abbrev pub shown : ℕ → Call P → State P → Value P
  shown W (fresh c n) s = nothing
  shown W (add r) s = nothing
  shown W (delete h p) s = nothing
  shown W (change r) s = nothing
  shown W (lookup d) s = found (best W d s.routes)
  shown W first s = found (first_of s.routes)
  shown W (after p) s = found (next_after p s.routes)
  shown W room s = count (room_left s)
  shown W (mask w) s = count (mask_length W w)
  shown W open_trial s = nothing
  shown W keep s = nothing
  shown W back_out s = nothing
  shown W step_back s = nothing

  -- The table with other routes, and the change that made them recorded if a trial is open.
  abbrev pub change_to : State P → List (Route P) → Change P → State P
  change_to s l c = record { capacity = s.capacity; routes = l; trial = record_in s.trial c }

  -- "Delete": the route that had the prefix goes, and the record keeps it whole.
  abbrev pub delete_from : Prefix → State P → Option (Route P) → State P
  delete_from p s none = s
  delete_from p s (some r) = change_to s (remove p s.routes) (deleted r)

  -- "Change hop needs the prefix there": the record keeps the payload before and after.
  abbrev pub change_at : Route P → State P → Option (Route P) → State P
  change_at r s none = s
  change_at r s (some old) = change_to s (replace r s.routes) (changed r.prefix old.payload r.payload)

  -- The table with other routes and another trial; the capacity stays.
  abbrev pub with_trial : State P → List (Route P) → Trial P → State P
  with_trial s l t = record { capacity = s.capacity; routes = l; trial = t }

  -- "Step back takes back the newest recorded change; the trial stays open."
  abbrev pub stepped_back : State P → Trial P → State P
  stepped_back s closed = s
  stepped_back s (opened []) = s
  stepped_back s (opened (c ∷ cs)) = with_trial s (undo c s.routes) (opened cs)

  -- Done to the state, where there is one.
  abbrev pub on_state : (State P → State P) → Meaning P → Meaning P
  on_state f none = none
  on_state f (some s) = some (f s)

  -- What a pool means after an accepted call.
  abbrev pub done : Call P → Meaning P → Meaning P
  done (fresh c n) m = some (empty c)
  done (add r) m = on_state (λ s. change_to s (insert r s.routes) (added r)) m
  done (delete h p) m = on_state (λ s. delete_from p s (find p s.routes)) m
  done (change r) m = on_state (λ s. change_at r s (find r.prefix s.routes)) m
  done (lookup d) m = m
  done first m = m
  done (after p) m = m
  done room m = m
  done (mask w) m = m
  done open_trial m = on_state (λ s. with_trial s s.routes (opened [])) m
  done keep m = on_state (λ s. with_trial s s.routes closed) m
  done back_out m = on_state (λ s. with_trial s (undo_all (changes s.trial) s.routes) closed) m
  done step_back m = on_state (λ s. stepped_back s s.trial) m

module _ {P : Type 0} (R : Rules P) where
  -- "A refusal has no value".
  abbrev pub value : Call P → Meaning P → Value P
  value c m = cond (accepted R c m) (shown R.width c (state_of m)) nothing

  -- What a pool means after a call: a refusal leaves it as it was.
  abbrev pub next : Call P → Meaning P → Meaning P
  next c m = cond (accepted R c m) (done c m) m
