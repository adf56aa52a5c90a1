-- Cells: the words that hold a link, and what of a tree stands before and behind one.
use Rattle.std.specs.Prelude.{ℕ, zero, suc, ◌+◌, ◌-◌, ◌<◌, List, [], ◌∷◌, get_or}
use Rattle.bits.specs.Address.{bit}
use Rattle.patricia.specs.Tree.{Entry}
use Rattle.patricia.specs.Way.{Step, went_left, went_right}
use Rattle.pool.specs.Layout.{Layout, mark_at, left_at, right_at}
use Rattle.pool.specs.Holds.{Seat, Seated}

module _ {P : Type 0} where
  -- Every one of these routes is longer than n.
  abbrev pub Longer : ℕ → List (Entry (Seat P)) → Type 0
  Longer n [] = Unit {0}
  Longer n (e ∷ es) = (n < e.length) × Longer n es

  -- The inner place of a step.
  abbrev pub place_of : Step ℕ (Seat P) → ℕ
  place_of (went_left j b r) = j
  place_of (went_right j b l) = j

  -- The part beside a step.
  abbrev pub sibling : Step ℕ (Seat P) → Seated P
  sibling (went_left j b r) = r
  sibling (went_right j b l) = l

module _ {P : Type 0} (L : Layout P) where
  -- The word that links to the part at the end of a way: the root's, or a side of the last inner place.
  abbrev pub cell_of : ℕ → List (Step ℕ (Seat P)) → ℕ
  cell_of c [] = 2
  cell_of c (went_left j b r ∷ w) = L.joint c j + 1
  cell_of c (went_right j b l ∷ w) = L.joint c j + 2

  -- The word that links to what comes after these routes of one address, when the first is linked to by `from`.
  abbrev pub end_cell : ℕ → List (Entry (Seat P)) → ℕ
  end_cell from [] = from
  end_cell from (x ∷ xs) = end_cell (L.seat x.payload.place + L.next_offset) xs

  -- The same cell, as the code works it out from the places passed: below the first n of them, on the side that the address takes.
  abbrev pub cell_at : ℕ → List ℕ → List ℕ → ℕ → ℕ → ℕ
  cell_at c ws inner zero a = 2
  cell_at c ws inner (suc m) a = L.joint c (get_or inner m 0) + 1 + bit L.rules.width (mark_at L c ws (get_or inner m 0) - 1) a

  -- Its link, in the other side of the inner place.
  abbrev pub sibling_link : ℕ → List ℕ → Step ℕ (Seat P) → ℕ
  sibling_link c ws (went_left j b r) = right_at L c ws j
  sibling_link c ws (went_right j b l) = left_at L c ws j
