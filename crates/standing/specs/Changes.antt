-- What is tested of the changes that stand.
use Rattle.std.specs.Prelude.{ℕ, zero, suc, ◌-◌, ◌≤◌, ◌<◌, ◌≡◌, Bool, true, List, [], ◌∷◌, ◌↔◌, length, Option, Some, None}
use Rattle.model.specs.Prefix.{Prefix}
use Rattle.model.specs.Routes.{Route, holds}
use Rattle.model.specs.State.{good_payload, Change, added, deleted, changed, undo}
use Rattle.model.specs.Lawful.{ChangeObeys, CanUndo, Undoable}
use Rattle.patricia.specs.Tree.{Root, root_routes}
use Rattle.patricia.specs.Obeys.{RootObeys}
use Rattle.pool.specs.Layout.{Layout, root_in, action_at, changed_at, old_at, new_at}
use Rattle.pool.specs.Holds.{Seat, bare_root, HoldsRoot}
use Rattle.pool.specs.Means.{PayloadThere, Records}

-- What a slot records, by its action: 1 add, 2 delete, and any other is read as a change.
abbrev pub change_from : {P : Type 0} → ℕ → Prefix → P → P → Change P
change_from zero p old new = changed p old new
change_from (suc zero) p old new = added (record { prefix = p; payload = new })
change_from (suc (suc zero)) p old new = deleted (record { prefix = p; payload = old })
change_from (suc (suc (suc n))) p old new = changed p old new

module _ {P : Type 0} (L : Layout P) where
  -- The change that slot k records.
  abbrev pub change_at : ℕ → List ℕ → ℕ → Change P
  change_at c ws k = change_from (action_at L c ws k) (changed_at L c ws k) (old_at L c ws k) (new_at L c ws k)

  -- The changes of the first n slots, newest first.
  abbrev pub decoded : ℕ → List ℕ → ℕ → List (Change P)
  decoded c ws zero = []
  decoded c ws (suc n) = change_at c ws n ∷ decoded c ws n

  -- A payload of a change of prefix p.
  pub record PayloadFine (ws : List ℕ) (p : Prefix) (at : ℕ) : Type 0 where
    pub kind : PayloadThere L ws at
    pub good : good_payload L.rules p (L.payload_at ws at) ≡ true

  -- Slot k records a change that obeys "What the table holds".
  pub record ChangeFine (c : ℕ) (ws : List ℕ) (k : ℕ) : Type 0 where
    pub recorded : Records L c ws k (change_at c ws k)
    pub obeys : ChangeObeys L.rules (change_at c ws k)

  -- The first n slots do.
  abbrev pub ChangesFine : ℕ → List ℕ → ℕ → Type 0
  ChangesFine c ws n = (k : ℕ) → k < n → ChangeFine c ws k

  -- The pool's tree has these routes.
  pub record Tabled (c : ℕ) (ws : List ℕ) (l : List (Route P)) : Type 0 where
    pub tree : Root ℕ (Seat P)
    pub holds : HoldsRoot L c ws (root_in ws) tree
    pub form : RootObeys L.rules.width (bare_root tree)
    pub there : root_routes (bare_root tree) ≡ l

  -- The routes when changes m + d - 1 down to m are taken back.
  abbrev pub back : ℕ → List ℕ → ℕ → ℕ → List (Route P) → List (Route P)
  back c ws zero m l = l
  back c ws (suc d) m l = undo (change_at c ws m) (back c ws d (suc m) l)

  -- And that each of them could be, at its turn.
  abbrev pub Took : ℕ → List ℕ → ℕ → ℕ → List (Route P) → Type 0
  Took c ws zero m l = Unit {0}
  Took c ws (suc d) m l = CanUndo (change_at c ws m) (back c ws d (suc m) l) × Took c ws d (suc m) l

  -- The routes at the turn of change k, of n: when all newer changes are taken back.
  abbrev pub at_turn : ℕ → List ℕ → ℕ → ℕ → List (Route P) → List (Route P)
  at_turn c ws n k l = back c ws (n - suc k) (suc k) l

  -- Whether the prefix of change k is there at its turn.
  abbrev pub ThereSays : ℕ → List ℕ → ℕ → ℕ → Bool → Type 0
  ThereSays c ws n k r = (l : List (Route P)) → Tabled c ws l → Took c ws (n - suc k) (suc k) l → r ≡ holds (changed_at L c ws k) (at_turn c ws n k l)

  -- Change k taken back, from so many routes.
  abbrev pub TakenSays : ℕ → List ℕ → ℕ → ℕ → ℕ → Option ℕ → Type 0
  TakenSays c ws n k held None =
      (l : List (Route P)) → Tabled c ws l → Took c ws (n - suc k) (suc k) l → held ≡ length (at_turn c ws n k l)
      → CanUndo (change_at c ws k) (at_turn c ws n k l) → length (undo (change_at c ws k) (at_turn c ws n k l)) ≤ c → ⊥
  TakenSays c ws n k held (Some m) = (m ≤ c)
      × ((l : List (Route P)) → Tabled c ws l → Took c ws (n - suc k) (suc k) l → held ≡ length (at_turn c ws n k l)
      → CanUndo (change_at c ws k) (at_turn c ws n k l) × (m ≡ length (undo (change_at c ws k) (at_turn c ws n k l))))

  -- "An open trial's changes could be taken back one by one, newest first."
  abbrev pub BackSays : ℕ → List ℕ → ℕ → ℕ → Bool → Type 0
  BackSays c ws n routes r = (l : List (Route P)) → Tabled c ws l → routes ≡ length l → (r ≡ true) ↔ Undoable c (decoded c ws n) l
