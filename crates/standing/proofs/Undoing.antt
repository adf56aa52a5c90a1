-- Whether a prefix is there when changes are taken back: the last one of its prefix decides, or else the table.
use Prim.Native.Nat.{suc}
use mathlib.Core.Path.{◌≡◌, refl, ap, subst, ◌∙◌}
use mathlib.Core.Bool.{Bool, true, false, cond}
use mathlib.Core.List.{List, [], ◌∷◌}
use mathlib.Core.Option.{Option, some}
use lib.ListN.{length}
use Rattle.model.specs.Prefix.{Prefix, before, same}
use Rattle.model.specs.Routes.{Route, InOrder, find, present, holds, insert, remove, replace}
use Rattle.model.specs.State.{Change, added, deleted, changed, undo}
use Rattle.model.specs.Lawful.{CanUndo}
use Rattle.model.proofs.Order.{same_true}
use Rattle.model.proofs.Edits.{insert_found, length_insert, remove_absent, length_remove, replace_found, length_replace}
use Rattle.model.proofs.Routes.{there, absent}

-- another prefix than the one that is the same as q
other_head : (p q x : Prefix) → same p q ≡ false → same q x ≡ true → same p x ≡ false
other_head p q x f t = subst (λ (z : Prefix). same p z ≡ false) (same_true q x t) f

module _ {P : Type 0} where
  -- ---- a route of another prefix comes, goes or changes

  find_remove : (p q : Prefix) (l : List (Route P)) → same p q ≡ false → find p (remove q l) ≡ find p l
  find_remove p q [] f = refl
  find_remove p q (x ∷ xs) f = go (same q x.prefix) refl (find_remove p q xs f)
    where
      go : (b : Bool) → same q x.prefix ≡ b → find p (remove q xs) ≡ find p xs → find p (remove q (x ∷ xs)) ≡ find p (x ∷ xs)
      go true t ih = rw t (rw (other_head p q x.prefix f t))
      go false t ih = rw t (ap (λ (o : Option (Route P)). cond (same p x.prefix) (some x) o) ih)

  find_insert : (p : Prefix) (r : Route P) (l : List (Route P)) → same p r.prefix ≡ false → find p (insert r l) ≡ find p l
  find_insert p r [] f = rw f
  find_insert p r (x ∷ xs) f = go (before r.prefix x.prefix) refl (find_insert p r xs f)
    where
      go : (b : Bool) → before r.prefix x.prefix ≡ b → find p (insert r xs) ≡ find p xs → find p (insert r (x ∷ xs)) ≡ find p (x ∷ xs)
      go true t ih = rw t (rw f)
      go false t ih = rw t (ap (λ (o : Option (Route P)). cond (same p x.prefix) (some x) o) ih)

  find_replace : (p : Prefix) (r : Route P) (l : List (Route P)) → same p r.prefix ≡ false → find p (replace r l) ≡ find p l
  find_replace p r [] f = refl
  find_replace p r (x ∷ xs) f = go (same r.prefix x.prefix) refl (find_replace p r xs f)
    where
      go : (b : Bool) → same r.prefix x.prefix ≡ b → find p (replace r xs) ≡ find p xs → find p (replace r (x ∷ xs)) ≡ find p (x ∷ xs)
      go true t ih = rw t (rw (f, other_head p r.prefix x.prefix f t))
      go false t ih = rw t (ap (λ (o : Option (Route P)). cond (same p x.prefix) (some x) o) ih)

  -- ---- a change, taken back

  abbrev pub prefix_of : Change P → Prefix
  prefix_of (added r) = r.prefix
  prefix_of (deleted r) = r.prefix
  prefix_of (changed p old new) = p

  -- whether its prefix is there afterwards
  abbrev pub leaves : Change P → Bool
  leaves (added r) = false
  leaves (deleted r) = true
  leaves (changed p old new) = true

  pub undo_other : (p : Prefix) (x : Change P) (l : List (Route P)) → same p (prefix_of x) ≡ false → holds p (undo x l) ≡ holds p l
  undo_other p (added r) l f = ap present (find_remove p r.prefix l f)
  undo_other p (deleted r) l f = ap present (find_insert p r l f)
  undo_other p (changed q old new) l f = ap present (find_replace p (record { prefix = q; payload = old }) l f)

  undo_own : (x : Change P) (l : List (Route P)) → InOrder l → CanUndo x l → holds (prefix_of x) (undo x l) ≡ leaves x
  undo_own (added r) l o u = ap present (remove_absent r.prefix l o)
  undo_own (deleted r) l o u = ap present (insert_found r l o (absent r.prefix l u))
  undo_own (changed p old new) l o u = let w = there p l u in ap present (replace_found (record { prefix = p; payload = old }) w.0 l o w.1)

  pub undo_same : (p : Prefix) (x : Change P) (l : List (Route P)) → InOrder l → CanUndo x l → same p (prefix_of x) ≡ true → holds p (undo x l) ≡ leaves x
  undo_same p x l o u t = ap (λ (z : Prefix). holds z (undo x l)) (same_true p (prefix_of x) t) ∙ undo_own x l o u

  -- ---- how many routes are left

  pub undo_add_length : (r : Route P) (l : List (Route P)) → holds r.prefix l ≡ true → suc (length (undo (added r) l)) ≡ length l
  undo_add_length r l u = let w = there r.prefix l u in length_remove r.prefix w.0 l w.1

  pub undo_delete_length : (r : Route P) (l : List (Route P)) → length (undo (deleted r) l) ≡ suc (length l)
  undo_delete_length r l = length_insert r l

  pub undo_change_length : (p : Prefix) (old new : P) (l : List (Route P)) → InOrder l → holds p l ≡ true → length (undo (changed p old new) l) ≡ length l
  undo_change_length p old new l o u = let w = there p l u in length_replace (record { prefix = p; payload = old }) w.0 l o w.1
