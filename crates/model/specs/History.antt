-- Demand 3, from the transcript alone: "the pool means what the accepted changes, less those taken back, make of an empty table". Nothing here knows
-- of a state, of `next` or of how a change is taken back.
use Rattle.std.specs.Prelude.{ℕ, zero, suc, Bool, true, false, cond}
use mathlib.Core.List.{List, [], ◌∷◌, ◌++◌, tail}
use Rattle.model.specs.Prefix.{Prefix}
use Rattle.model.specs.Routes.{Route, insert, remove, replace}
use Rattle.model.specs.Call.{Call, fresh, add, delete, change, lookup, first, after, room, mask, open_trial, keep, back_out, step_back}

-- A change as it was asked for: put a route in, drop a prefix, or swap the payload of a prefix.
pub data Deed (P : Type 0) : Type 0 where
  put : Route P → Deed P
  drop : Prefix → Deed P
  swap : Route P → Deed P

-- What a transcript tells: the capacity of the last fresh table, the changes that can no longer be taken back, and those of the open trial that
-- stand, each newest first.
pub record Told (P : Type 0) : Type 0 where
  pub capacity : ℕ
  pub settled : List (Deed P)
  pub in_trial : Bool
  pub standing : List (Deed P)

module _ {P : Type 0} where
  -- A change stands in the open trial, or is settled at once.
  abbrev pub noted : Told P → Deed P → Told P
  noted t d =
      cond t.in_trial
      (record { capacity = t.capacity; settled = t.settled; in_trial = true; standing = d ∷ t.standing })
      (record { capacity = t.capacity; settled = d ∷ t.settled; in_trial = false; standing = [] })

  -- What an accepted call adds to it. Step back strikes the newest, back out all that stand; keep settles them; a fresh table begins anew.
  abbrev pub heard : Call P → Told P → Told P
  heard (fresh c n) t = record { capacity = c; settled = []; in_trial = false; standing = [] }
  heard (add r) t = noted t (put r)
  heard (delete h p) t = noted t (drop p)
  heard (change r) t = noted t (swap r)
  heard (lookup d) t = t
  heard first t = t
  heard (after p) t = t
  heard room t = t
  heard (mask w) t = t
  heard open_trial t = record { capacity = t.capacity; settled = t.settled; in_trial = true; standing = [] }
  heard keep t = record { capacity = t.capacity; settled = t.standing ++ t.settled; in_trial = false; standing = [] }
  heard back_out t = record { capacity = t.capacity; settled = t.settled; in_trial = false; standing = [] }
  heard step_back t = record { capacity = t.capacity; settled = t.settled; in_trial = t.in_trial; standing = tail t.standing }

  -- A call that was refused adds nothing.
  abbrev pub heard_if : ℕ → Call P → Told P → Told P
  heard_if zero c t = heard c t
  heard_if (suc n) c t = t

  -- A transcript is the calls and their numbers, newest first.
  abbrev pub told : List (Call P × ℕ) → Told P
  told [] = record { capacity = 0; settled = []; in_trial = false; standing = [] }
  told (x ∷ xs) = heard_if x.1 x.0 (told xs)

  -- "The accepted changes, less those taken back", newest first.
  abbrev pub survivors : List (Call P × ℕ) → List (Deed P)
  survivors xs = (told xs).standing ++ (told xs).settled

  -- What they make of an empty table, by plain insert, remove and replace.
  abbrev pub act : Deed P → List (Route P) → List (Route P)
  act (put r) l = insert r l
  act (drop p) l = remove p l
  act (swap r) l = replace r l

  -- All of them, the oldest first.
  abbrev pub replay : List (Deed P) → List (Route P)
  replay [] = []
  replay (d ∷ ds) = act d (replay ds)
