-- What a table is at a moment, and the numbers and tests that a table is made with.
use Rattle.std.specs.Prelude.{ℕ, ◌-◌, Bool, true, false, ◌&&◌, List, [], ◌∷◌, eqb, length}
use Rattle.std.proofs.Math.Option.{Option}
use Rattle.model.specs.Prefix.{Prefix}
use Rattle.model.specs.Routes.{Route, insert, remove, replace}

-- Whose hand makes a change: the keeper's own, by a plain call, or a learner's.
pub data Hand : Type 0 where
  plain : Hand
  learner : Hand

-- What a plain hand made is guarded from a learner's; everything else may be touched.
abbrev pub guards : (made by : Hand) → Bool
guards plain plain = false
guards plain learner = true
guards learner by = false

-- What is fixed for one kind of table: the width of an address, the largest capacity, the words that a capacity needs, the most changes that may
-- stand, which prefixes may be held (of those that are well formed), which payloads have a hop that is good at a prefix, and a metric that is good, and
-- whose hand makes such a route.
pub record Rules (P : Type 0) : Type 0 where
  pub width : ℕ
  pub limit : ℕ
  pub words : ℕ → ℕ
  pub standing : ℕ
  pub may_hold : Prefix → Bool
  pub good_hop : Prefix → P → Bool
  pub good_metric : P → Bool
  pub hand : P → Hand

-- A payload that a route of this prefix may hold.
abbrev pub good_payload : {P : Type 0} → Rules P → Prefix → P → Bool
good_payload R p h = R.good_hop p h && R.good_metric h

-- A recorded change, with what it takes to take it back: the route added, the route deleted, or a prefix with its payload before and after.
pub data Change (P : Type 0) : Type 0 where
  added : Route P → Change P
  deleted : Route P → Change P
  changed : Prefix → P → P → Change P

-- "In a trial each accepted add, delete and hop change is recorded": the standing changes, newest first. Without a trial there are none.
pub data Trial (P : Type 0) : Type 0 where
  closed : Trial P
  opened : List (Change P) → Trial P

-- A table: "capacity, routes, whether a trial is open, standing changes".
pub record State (P : Type 0) : Type 0 where
  pub capacity : ℕ
  pub routes : List (Route P)
  pub trial : Trial P

-- What a pool means: a state, or nothing where the pool is not sound.
abbrev pub Meaning : Type 0 → Type 0
Meaning P = Option (State P)

module _ {P : Type 0} where
  -- "The fresh table is empty with no trial open".
  abbrev pub empty : ℕ → State P
  empty c = record { capacity = c; routes = []; trial = closed }

  -- "Room left is the capacity less the routes held."
  abbrev pub room_left : State P → ℕ
  room_left s = s.capacity - length s.routes

  -- "Routes held equal the capacity".
  abbrev pub full : State P → Bool
  full s = eqb (length s.routes) s.capacity

  -- "Whether a trial is open".
  abbrev pub is_open : Trial P → Bool
  is_open closed = false
  is_open (opened cs) = true

  -- The "standing changes".
  abbrev pub changes : Trial P → List (Change P)
  changes closed = []
  changes (opened cs) = cs

  -- A change is recorded only in an open trial.
  abbrev pub record_in : Trial P → Change P → Trial P
  record_in closed c = closed
  record_in (opened cs) c = opened (c ∷ cs)

  -- One change taken back.
  abbrev pub undo : Change P → List (Route P) → List (Route P)
  undo (added r) l = remove r.prefix l
  undo (deleted r) l = insert r l
  undo (changed p old new) l = replace (record { prefix = p; payload = old }) l

  -- All taken back, newest first.
  abbrev pub undo_all : List (Change P) → List (Route P) → List (Route P)
  undo_all [] l = l
  undo_all (c ∷ cs) l = undo_all cs (undo c l)
