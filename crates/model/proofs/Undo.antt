-- Taking one change back: what each accepted change records, undone, leaves the routes that were there.
use mathlib.Core.Path.{◌≡◌, refl, ap}
use mathlib.Core.List.{List}
use mathlib.Core.Option.{Option, none, some}
use Rattle.model.specs.Prefix.{Prefix}
use Rattle.model.specs.Routes.{Route, InOrder, find, insert, remove, replace}
use Rattle.model.specs.State.{Hand, added, deleted, changed, State, undo}
use Rattle.model.specs.Call.{add, delete, change, change_to, delete_from, change_at, done}
use Rattle.model.proofs.Edits.{remove_insert, insert_remove, replace_back}

module _ {P : Type 0} where
  -- ---- what is recorded: the route added, the route that was there, or its payload before and after

  pub add_records : (r : Route P) (s : State P) → done (add r) (some s) ≡ some (change_to s (insert r s.routes) (added r))
  add_records r s = refl

  pub delete_records : (h : Hand) (p : Prefix) (r : Route P) (s : State P) → find p s.routes ≡ some r
      → done (delete h p) (some s) ≡ some (change_to s (remove p s.routes) (deleted r))
  delete_records h p r s e = ap (λ (o : Option (Route P)). some (delete_from p s o)) e

  pub change_records : (r old : Route P) (s : State P) → find r.prefix s.routes ≡ some old
      → done (change r) (some s) ≡ some (change_to s (replace r s.routes) (changed r.prefix old.payload r.payload))
  change_records r old s e = ap (λ (o : Option (Route P)). some (change_at r s o)) e

  -- ---- and undone

  pub undo_add : (r : Route P) (l : List (Route P)) → find r.prefix l ≡ none → undo (added r) (insert r l) ≡ l
  undo_add r l e = remove_insert r l e

  pub undo_delete : (p : Prefix) (r : Route P) (l : List (Route P)) → InOrder l → find p l ≡ some r → undo (deleted r) (remove p l) ≡ l
  undo_delete p r l o e = insert_remove p r l o e

  pub undo_change : (r old : Route P) (l : List (Route P)) → find r.prefix l ≡ some old
      → undo (changed r.prefix old.payload r.payload) (replace r l) ≡ l
  undo_change r old l e = replace_back r old l e
