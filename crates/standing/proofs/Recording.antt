-- What a slot records.
use Prim.Native.Nat.{ℕ, zero, suc, ◌+◌}
use mathlib.Core.Path.{◌≡◌, refl, sym, ap, subst, ◌∙◌}
use mathlib.Core.Bool.{true}
use mathlib.Core.List.{List, [], ◌∷◌}
use mathlib.Core.Logic.{⊎_elim}
use native.Mathlib.Omega.{arith}
use Rattle.bits.proofs.Cases.{eq_or_ne}
use lib.ListN.{length}
use Rattle.model.specs.Prefix.{well_formed}
use Rattle.model.specs.State.{Change, added, deleted, changed}
use Rattle.model.specs.Lawful.{ChangeObeys, AllChangesObey}
use Rattle.pool.specs.Layout.{Layout, action_at, changed_at, old_at, new_at}
use Rattle.pool.specs.Means.{Records, Recorded}
use Rattle.standing.specs.Changes.{change_from, change_at, decoded, PayloadFine, ChangeFine, ChangesFine}

module _ {P : Type 0} (L : Layout P) where
  module _ (c : ℕ) (ws : List ℕ) (k : ℕ) where
    abbrev pub Obeyed : Type 0
    Obeyed = (well_formed L.rules.width (changed_at L c ws k) ≡ true) × (L.rules.may_hold (changed_at L c ws k) ≡ true)

    pub change_is : (a : ℕ) → action_at L c ws k ≡ a → change_at L c ws k ≡ change_from a (changed_at L c ws k) (old_at L c ws k) (new_at L c ws k)
    change_is a e = ap (λ (x : ℕ). change_from x (changed_at L c ws k) (old_at L c ws k) (new_at L c ws k)) e

    -- the prefix obeys, whatever the action
    pub prefix_obeys : ChangeFine L c ws k → Obeyed
    prefix_obeys f = go (action_at L c ws k) f.obeys
      where
        go : (a : ℕ) → ChangeObeys L.rules (change_from a (changed_at L c ws k) (old_at L c ws k) (new_at L c ws k)) → Obeyed
        go zero o = (o.0.0, o.0.1)
        go (suc zero) o = (o.0, o.1)
        go (suc (suc zero)) o = (o.0, o.1)
        go (suc (suc (suc n))) o = (o.0.0, o.0.1)

    -- the change with its action known
    fine_as : (x : Change P) → change_at L c ws k ≡ x → Records L c ws k x → ChangeObeys L.rules x → ChangeFine L c ws k
    fine_as x e r o = record { recorded = subst (Records L c ws k) (sym e) r; obeys = subst (ChangeObeys L.rules) (sym e) o }

    pub add_fine : action_at L c ws k ≡ 1 → Obeyed → PayloadFine L ws (changed_at L c ws k) (L.slot c k + L.new_offset) → ChangeFine L c ws k
    add_fine e p h = fine_as _ (change_is 1 e) (e, refl, h.kind, refl) (p.0, p.1, h.good)

    pub fine_add : action_at L c ws k ≡ 1 → ChangeFine L c ws k → PayloadFine L ws (changed_at L c ws k) (L.slot c k + L.new_offset)
    fine_add e f =
        let r = subst (Records L c ws k) (change_is 1 e) f.recorded in
        let o = subst (ChangeObeys L.rules) (change_is 1 e) f.obeys in
        record { kind = r.2; good = o.2 }

    pub delete_fine : action_at L c ws k ≡ 2 → Obeyed → PayloadFine L ws (changed_at L c ws k) (L.slot c k + L.old_offset) → ChangeFine L c ws k
    delete_fine e p h = fine_as _ (change_is 2 e) (e, refl, h.kind, refl) (p.0, p.1, h.good)

    pub fine_delete : action_at L c ws k ≡ 2 → ChangeFine L c ws k → PayloadFine L ws (changed_at L c ws k) (L.slot c k + L.old_offset)
    fine_delete e f =
        let r = subst (Records L c ws k) (change_is 2 e) f.recorded in
        let o = subst (ChangeObeys L.rules) (change_is 2 e) f.obeys in
        record { kind = r.2; good = o.2 }

    pub change_fine : action_at L c ws k ≡ 3 → Obeyed → PayloadFine L ws (changed_at L c ws k) (L.slot c k + L.old_offset)
        → PayloadFine L ws (changed_at L c ws k) (L.slot c k + L.new_offset) → ChangeFine L c ws k
    change_fine e p h g = fine_as _ (change_is 3 e) (e, refl, h.kind, refl, g.kind, refl) ((p.0, p.1, h.good), (p.0, p.1, g.good))

    pub fine_change : action_at L c ws k ≡ 3 → ChangeFine L c ws k
        → PayloadFine L ws (changed_at L c ws k) (L.slot c k + L.old_offset) × PayloadFine L ws (changed_at L c ws k) (L.slot c k + L.new_offset)
    fine_change e f =
        let r = subst (Records L c ws k) (change_is 3 e) f.recorded in
        let o = subst (ChangeObeys L.rules) (change_is 3 e) f.obeys in
        (record { kind = r.2; good = o.0.2 }, record { kind = r.4; good = o.1.2 })

    -- no other action is known
    pub action_known : (action_at L c ws k ≡ 1 → ⊥) → (action_at L c ws k ≡ 2 → ⊥) → (action_at L c ws k ≡ 3 → ⊥) → ChangeFine L c ws k → ⊥
    action_known x y z f = go (action_at L c ws k) f.recorded x y
      where
        go : (a : ℕ) → Records L c ws k (change_from a (changed_at L c ws k) (old_at L c ws k) (new_at L c ws k)) → (a ≡ 1 → ⊥) → (a ≡ 2 → ⊥) → ⊥
        go zero r p q = z r.0
        go (suc zero) r p q = p refl
        go (suc (suc zero)) r p q = q refl
        go (suc (suc (suc n))) r p q = z r.0

    -- a slot records one change
    pub records_is : (x : Change P) → Records L c ws k x → change_at L c ws k ≡ x
    records_is (added r) h = change_is 1 h.0 ∙ (λ i. added (record { prefix = h.1 i; payload = h.3 i }))
    records_is (deleted r) h = change_is 2 h.0 ∙ (λ i. deleted (record { prefix = h.1 i; payload = h.3 i }))
    records_is (changed p old new) h = change_is 3 h.0 ∙ (λ i. changed (h.1 i) (h.3 i) (h.5 i))

  -- ---- the changes that stand

  module _ (c : ℕ) (ws : List ℕ) where
    pub decoded_length : (n : ℕ) → length (decoded L c ws n) ≡ n
    decoded_length zero = refl
    decoded_length (suc n) = ap suc (decoded_length n)

    pub recorded_is : (n : ℕ) (cs : List (Change P)) → Recorded L c ws n cs → decoded L c ws n ≡ cs
    recorded_is zero [] h = refl
    recorded_is (suc n) [] h = absurd (omega (arith, h))
    recorded_is zero (x ∷ xs) h = absurd h
    recorded_is (suc n) (x ∷ xs) h = λ i. records_is c ws n x h.0 i ∷ recorded_is n xs h.1 i

    pub fine_recorded : (n : ℕ) → ChangesFine L c ws n → Recorded L c ws n (decoded L c ws n) × AllChangesObey L.rules (decoded L c ws n)
    fine_recorded zero f = (refl, tt)
    fine_recorded (suc n) f =
        let w = fine_recorded n (λ k h. f k (omega arith)) in
        let here = f n (omega arith) in
        ((here.recorded, w.0), (here.obeys, w.1))

    pub recorded_fine : (n : ℕ) → Recorded L c ws n (decoded L c ws n) → AllChangesObey L.rules (decoded L c ws n) → ChangesFine L c ws n
    recorded_fine zero r o k h = absurd (omega (arith, h))
    recorded_fine (suc n) r o k h =
        ⊎_elim (λ e. subst (ChangeFine L c ws) (sym e) (record { recorded = r.0; obeys = o.0 })) (λ e. recorded_fine n r.1 o.1 k (omega (arith, h, e))) (eq_or_ne k n)

    -- one more slot
    pub changes_more : (n : ℕ) → ChangesFine L c ws n → ChangeFine L c ws n → ChangesFine L c ws (n + 1)
    changes_more n f g k h = ⊎_elim (λ e. subst (ChangeFine L c ws) (sym e) g) (λ e. f k (omega (arith, h, e))) (eq_or_ne k n)
