-- The standing changes, taken back one by one, as the code goes along the slots.
use Prim.Native.Nat.{ℕ, zero, suc, ◌+◌, ◌-◌, ◌≤◌, ◌<◌}
use mathlib.Core.Path.{◌≡◌, refl, sym, ap, subst, ◌∙◌}
use mathlib.Core.Bool.{Bool, true, false, not, true≢false}
use mathlib.Core.List.{List}
use mathlib.Core.Option.{none, some}
use mathlib.Core.Logic.{⊎_elim}
use native.Mathlib.Nat.{le_trans, le_of_eq}
use native.Mathlib.Numerals.{add-one}
use native.Mathlib.Omega.{arith}
use borrow.Author.Tests.{ne_eqb}
use lib.Dec.{eqb}
use lib.ListN.{length}
use Rattle.std.specs.Prelude.{Some, None}
use Rattle.bits.proofs.Cases.{eq_or_ne}
use Rattle.model.specs.Prefix.{Prefix, same}
use Rattle.model.specs.Routes.{Route, InOrder, find, holds}
use Rattle.model.specs.State.{Change, changed, undo}
use Rattle.model.specs.Lawful.{CanUndo, Undoable}
use Rattle.patricia.specs.Tree.{Root, root_routes}
use Rattle.patricia.specs.Obeys.{RootObeys}
use Rattle.patricia.proofs.Form.{routes_in_order, obeys_good, root_obeys_good}
use Rattle.pool.specs.Layout.{Layout, action_at, changed_at, old_at, new_at}
use Rattle.pool.specs.Holds.{Seat, bare, bare_root}
use Rattle.pool.specs.Means.{routes_used}
use Rattle.search.specs.Find.{Spot, is_at, Finds}
use Rattle.search.proofs.Spots.{root_spotted, spotted_present}
use Rattle.standing.specs.Changes.{change_from, change_at, decoded, Tabled, back, Took, at_turn, ThereSays, TakenSays}
use Rattle.standing.proofs.Recording.{change_is}
use Rattle.model.proofs.Lawful.{undo_order}
use Rattle.standing.proofs.Undoing.{prefix_of, leaves, undo_other, undo_same, undo_add_length, undo_delete_length, undo_change_length}

module _ {P : Type 0} (L : Layout P) (c : ℕ) (ws : List ℕ) where
  -- ---- a slot's change

  prefix_is : (k : ℕ) → prefix_of (change_at L c ws k) ≡ changed_at L c ws k
  prefix_is k = go (action_at L c ws k)
    where
      go : (a : ℕ) → prefix_of (change_from a (changed_at L c ws k) (old_at L c ws k) (new_at L c ws k)) ≡ changed_at L c ws k
      go zero = refl
      go (suc zero) = refl
      go (suc (suc zero)) = refl
      go (suc (suc (suc n))) = refl

  leaves_is : (k : ℕ) → leaves (change_at L c ws k) ≡ not (eqb (action_at L c ws k) 1)
  leaves_is k = go (action_at L c ws k)
    where
      go : (a : ℕ) → leaves (change_from a (changed_at L c ws k) (old_at L c ws k) (new_at L c ws k)) ≡ not (eqb a 1)
      go zero = refl
      go (suc zero) = refl
      go (suc (suc zero)) = refl
      go (suc (suc (suc n))) = rw (ne_eqb (suc (suc (suc n))) 1 (λ e. omega (arith, e)))

  changed_is : (k : ℕ) → (action_at L c ws k ≡ 1 → ⊥) → (action_at L c ws k ≡ 2 → ⊥) → change_at L c ws k ≡ changed (changed_at L c ws k) (old_at L c ws k) (new_at L c ws k)
  changed_is k x y = go (action_at L c ws k) x y
    where
      go : (a : ℕ) → (a ≡ 1 → ⊥) → (a ≡ 2 → ⊥)
          → change_from a (changed_at L c ws k) (old_at L c ws k) (new_at L c ws k) ≡ changed (changed_at L c ws k) (old_at L c ws k) (new_at L c ws k)
      go zero p q = refl
      go (suc zero) p q = absurd (p refl)
      go (suc (suc zero)) p q = absurd (q refl)
      go (suc (suc (suc n))) p q = refl

  -- ---- the table

  pub tabled_order : (l : List (Route P)) → Tabled L c ws l → InOrder l
  tabled_order l t = subst InOrder t.there (go t.tree t.form)
    where
      go : (r : Root ℕ (Seat P)) → RootObeys L.rules.width (bare_root r) → InOrder (root_routes (bare_root r))
      go none o = tt
      go (some s) o = routes_in_order L.rules.width (bare s) (obeys_good L.rules.width (bare s) o)

  -- what the search says of the table
  pub table_holds : (p : Prefix) (r : Spot) → Finds L c ws p r → (l : List (Route P)) → Tabled L c ws l → is_at r ≡ holds p l
  table_holds p r f l t =
      spotted_present L ws (routes_used t.tree) r (find p (root_routes (bare_root t.tree)))
      (root_spotted L c ws p r f t.tree t.holds (root_obeys_good L.rules.width (bare_root t.tree) t.form))
      ∙ ap (holds p) t.there

  -- ---- along the newer changes

  back_order : (d m : ℕ) (l : List (Route P)) → InOrder l → Took L c ws d m l → InOrder (back L c ws d m l)
  back_order zero m l o t = o
  back_order (suc d) m l o t = undo_order (change_at L c ws m) (back L c ws d (suc m) l) (back_order d (suc m) l o t.1) t.0

  module _ (n k : ℕ) where
    -- no change between k and j has the prefix of k
    pub Turned : ℕ → Type 0
    Turned j = (l : List (Route P)) → Tabled L c ws l → Took L c ws (n - suc k) (suc k) l
        → (holds (changed_at L c ws k) (at_turn L c ws n k l) ≡ holds (changed_at L c ws k) (back L c ws (n - j) j l)) × Took L c ws (n - j) j l

    pub turned_start : Turned (k + 1)
    unfolding Turned
    turned_start = rw (add-one k) (λ l t w. (refl, w))

    split : (j : ℕ) → j < n → n - j ≡ suc (n - suc j)
    split j h = omega arith

    pub turned_other : (j : ℕ) → j < n → same (changed_at L c ws k) (changed_at L c ws j) ≡ false → Turned j → Turned (j + 1)
    unfolding Turned
    turned_other j h f w = rw (add-one j) onward
      where
        onward : (l : List (Route P)) → Tabled L c ws l → Took L c ws (n - suc k) (suc k) l
            → (holds (changed_at L c ws k) (at_turn L c ws n k l) ≡ holds (changed_at L c ws k) (back L c ws (n - suc j) (suc j) l)) × Took L c ws (n - suc j) (suc j) l
        onward l t u =
            let (e, took) = w l t u in
            let e' = subst (λ (d : ℕ). holds (changed_at L c ws k) (at_turn L c ws n k l) ≡ holds (changed_at L c ws k) (back L c ws d j l)) (split j h) e in
            let took' = subst (λ (d : ℕ). Took L c ws d j l) (split j h) took in
            let f' = subst (λ (q : Prefix). same (changed_at L c ws k) q ≡ false) (sym (prefix_is j)) f in
            (e' ∙ undo_other (changed_at L c ws k) (change_at L c ws j) (back L c ws (n - suc j) (suc j) l) f', took'.1)

    pub turned_same : (j : ℕ) → j < n → same (changed_at L c ws k) (changed_at L c ws j) ≡ true → Turned j → ThereSays L c ws n k (not (eqb (action_at L c ws j) 1))
    unfolding Turned
    turned_same j h f w l t u =
        let (e, took) = w l t u in
        let e' = subst (λ (d : ℕ). holds (changed_at L c ws k) (at_turn L c ws n k l) ≡ holds (changed_at L c ws k) (back L c ws d j l)) (split j h) e in
        let took' = subst (λ (d : ℕ). Took L c ws d j l) (split j h) took in
        let o = back_order (n - suc j) (suc j) l (tabled_order l t) took'.1 in
        let q =
        undo_same (changed_at L c ws k) (change_at L c ws j) (back L c ws (n - suc j) (suc j) l) o took'.0
        (subst (λ (q : Prefix). same (changed_at L c ws k) q ≡ true) (sym (prefix_is j)) f) in
        sym (e' ∙ q ∙ leaves_is j)

    pub turned_table : (j : ℕ) → n ≤ j → Turned j → (p : Prefix) → p ≡ changed_at L c ws k → (r : Spot) → Finds L c ws p r → (b : Bool) → b ≡ is_at r → ThereSays L c ws n k b
    unfolding Turned
    turned_table j h w p same-prefix r f b found l t u =
        let e = subst (λ (d : ℕ). holds (changed_at L c ws k) (at_turn L c ws n k l) ≡ holds (changed_at L c ws k) (back L c ws d j l)) none_left (w l t u).0 in
        found ∙ table_holds p r f l t ∙ ap (λ (q : Prefix). holds q l) same-prefix ∙ sym e
      where
        none_left : n - j ≡ 0
        none_left = omega arith

  -- ---- one change taken back

  module _ (n k held : ℕ) (there : Bool) (says : ThereSays L c ws n k there) where
    -- whether its prefix must be there
    needs : (b : Bool) (x : Change P) → change_at L c ws k ≡ x → ((m : List (Route P)) → CanUndo x m → holds (changed_at L c ws k) m ≡ b)
        → there ≡ not b → TakenSays L c ws n k held None
    needs true x e f g l t w m u h = true≢false (sym (says l t w ∙ f (at_turn L c ws n k l) (subst (λ (y : Change P). CanUndo y (at_turn L c ws n k l)) e u)) ∙ g)
    needs false x e f g l t w m u h = true≢false (sym g ∙ says l t w ∙ f (at_turn L c ws n k l) (subst (λ (y : Change P). CanUndo y (at_turn L c ws n k l)) e u))

    -- how many are left
    left : (m : ℕ) (x : Change P) → change_at L c ws k ≡ x → m ≤ c
        → ((l : List (Route P)) → InOrder l → there ≡ holds (changed_at L c ws k) l → held ≡ length l → CanUndo x l × (m ≡ length (undo x l)))
        → TakenSays L c ws n k held (Some m)
    left m x e h f = (
      h,
      λ l t w q. subst (λ (y : Change P). CanUndo y (at_turn L c ws n k l) × (m ≡ length (undo y (at_turn L c ws n k l)))) (sym e)
          (f (at_turn L c ws n k l) (back_order (n - suc k) (suc k) l (tabled_order l t) w) (says l t w) q),
    )

    pub delete_there : action_at L c ws k ≡ 2 → there ≡ true → TakenSays L c ws n k held None
    delete_there a g = needs false _ (change_is L c ws k 2 a) (λ m u. u) g

    pub delete_full : action_at L c ws k ≡ 2 → c ≤ held → TakenSays L c ws n k held None
    delete_full a h l t w m u q =
        let e = ap (λ (y : Change P). length (undo y (at_turn L c ws n k l))) (change_is L c ws k 2 a) in
        omega (arith, q, e, undo_delete_length (record { prefix = changed_at L c ws k; payload = old_at L c ws k }) (at_turn L c ws n k l), m, h)

    pub delete_held : action_at L c ws k ≡ 2 → there ≡ false → held < c → TakenSays L c ws n k held (Some (held + 1))
    delete_held a g h =
        left (held + 1) _ (change_is L c ws k 2 a) (omega arith)
        (λ l o e q. (sym e ∙ g, omega (arith, q, undo_delete_length (record { prefix = changed_at L c ws k; payload = old_at L c ws k }) l)))

    pub gone : (action_at L c ws k ≡ 2 → ⊥) → there ≡ false → TakenSays L c ws n k held None
    gone a g = ⊎_elim (λ e. needs true _ (change_is L c ws k 1 e) (λ m u. u) g) (λ e. needs true _ (changed_is k e a) (λ m u. u) g) (eq_or_ne (action_at L c ws k) 1)

    pub change_held : (action_at L c ws k ≡ 2 → ⊥) → (action_at L c ws k ≡ 1 → ⊥) → there ≡ true → held ≤ c → TakenSays L c ws n k held (Some held)
    change_held a b g h =
        left held _ (changed_is k b a) h (λ l o e q. (sym e ∙ g, q ∙ sym (undo_change_length (changed_at L c ws k) _ (new_at L c ws k) l o (sym e ∙ g))))

    pub add_none : action_at L c ws k ≡ 1 → held ≡ 0 → TakenSays L c ws n k held None
    add_none a z l t w m u q =
        let v = subst (λ (y : Change P). CanUndo y (at_turn L c ws n k l)) (change_is L c ws k 1 a) u in
        omega (arith, undo_add_length (record { prefix = changed_at L c ws k; payload = new_at L c ws k }) (at_turn L c ws n k l) v, m, z)

    pub add_held : action_at L c ws k ≡ 1 → there ≡ true → (held ≡ 0 → ⊥) → held ≤ c → TakenSays L c ws n k held (Some (held - 1))
    add_held a g z h =
        left (held - 1) _ (change_is L c ws k 1 a) (omega arith)
        (λ l o e q. (sym e ∙ g, omega (arith, q, undo_add_length (record { prefix = changed_at L c ws k; payload = new_at L c ws k }) l (sym e ∙ g))))

  -- ---- all of them

  -- m changes are left to take back
  pub record Standing (n m held : ℕ) (l : List (Route P)) : Type 0 where
    pub took : Took L c ws (n - m) m l
    pub count : held ≡ length (back L c ws (n - m) m l)
    pub forth : Undoable c (decoded L c ws m) (back L c ws (n - m) m l) → Undoable c (decoded L c ws n) l
    pub onward : Undoable c (decoded L c ws n) l → Undoable c (decoded L c ws m) (back L c ws (n - m) m l)

  -- the same, with the number of those taken back by itself
  record StandingAt (n d m held : ℕ) (l : List (Route P)) : Type 0 where
    pub took : Took L c ws d m l
    pub count : held ≡ length (back L c ws d m l)
    pub forth : Undoable c (decoded L c ws m) (back L c ws d m l) → Undoable c (decoded L c ws n) l
    pub onward : Undoable c (decoded L c ws n) l → Undoable c (decoded L c ws m) (back L c ws d m l)

  standing_at : (n d m held : ℕ) (l : List (Route P)) → n - m ≡ d → Standing n m held l → StandingAt n d m held l
  standing_at n d m held l e s = subst (λ (x : ℕ). StandingAt n x m held l) e (record { took = s.took; count = s.count; forth = s.forth; onward = s.onward })

  at_standing : (n d m held : ℕ) (l : List (Route P)) → n - m ≡ d → StandingAt n d m held l → Standing n m held l
  at_standing n d m held l e s =
      let w = subst (λ (x : ℕ). StandingAt n x m held l) (sym e) s in
      record { took = w.took; count = w.count; forth = w.forth; onward = w.onward }

  pub standing_start : (n held : ℕ) (l : List (Route P)) → held ≡ length l → Standing n n held l
  standing_start n held l e = at_standing n 0 n held l (omega arith) (record { took = tt; count = e; forth = λ u. u; onward = λ u. u })

  -- one more taken back
  pub standing_step : (n k held m : ℕ) (l : List (Route P)) → suc k ≤ n → Tabled L c ws l → TakenSays L c ws n k held (Some m) → Standing n (suc k) held l → Standing n k m l
  standing_step n k held m l h t (fits, f) s =
      let w = f l t s.took s.count in
      at_standing n (suc (n - suc k)) k m l (omega arith) (record {
        took = (w.0, s.took);
        count = w.1;
        forth = λ u. s.forth (w.0, le_trans (le_of_eq (sym w.1)) fits, u);
        onward = λ u. (s.onward u).2;
      })

  -- a change that can't be taken back
  pub standing_stop : (n k held : ℕ) (l : List (Route P)) → Tabled L c ws l → TakenSays L c ws n k held None → Standing n (suc k) held l → Undoable c (decoded L c ws n) l → ⊥
  standing_stop n k held l t f s u = let w = s.onward u in f l t s.took s.count w.0 w.1

  -- none left
  pub standing_end : (n held : ℕ) (l : List (Route P)) → Standing n 0 held l → Undoable c (decoded L c ws n) l
  standing_end n held l s = s.forth tt
