-- "A fresh pool is sound and every accepted call keeps it sound", for the state that it means.
use Prim.Native.Nat.{ℕ, suc, ◌≤◌, zero-le}
use mathlib.Core.Path.{◌≡◌, refl, sym, ap, subst, ◌∙◌}
use mathlib.Core.Bool.{Bool, true, false, true≢false}
use mathlib.Core.List.{List, [], ◌∷◌}
use mathlib.Core.Logic.{inl, inr, ⊎_elim}
use mathlib.Core.Option.{none, some}
use native.Mathlib.Nat.{le_trans, le_of_eq, le-suc}
use native.Mathlib.Omega.{arith}
use borrow.Author.Tests.{eqb-false, ltb-false}
use lib.Dec.{eqb}
use lib.ListN.{length}
use Rattle.model.specs.Prefix.{Prefix}
use Rattle.model.specs.Routes.{Route, Held, InOrder, find, present, insert, remove, replace}
use Rattle.model.specs.State.{Rules, good_payload, Change, added, deleted, changed, Trial, closed, opened, State, Meaning, empty, changes, undo, undo_all}
use Rattle.model.specs.Call.{Call, fresh, add, delete, change, lookup, first, after, room, mask, open_trial, keep, back_out, step_back, accepted, trial_full, change_to, with_trial, stepped_back, done, next}
use Rattle.model.specs.Lawful.{Obeys, AllObey, ChangeObeys, AllChangesObey, CanUndo, Undoable, Lawful}
use Rattle.model.proofs.Tests.{fails, or_left, or_right}
use Rattle.model.proofs.Routes.{find_held, there, absent}
use Rattle.model.proofs.Edits.{insert_order, insert_held, insert_found, length_insert, remove_order, remove_absent, remove_held, length_remove, replace_order, replace_held, replace_found, length_replace}
use Rattle.model.proofs.Undo.{delete_records, change_records, undo_add, undo_delete, undo_change}
use Rattle.model.proofs.Numbers.{accepted_quiet}
use Rattle.model.proofs.Taken.{AddTaken, add_taken, DeleteTaken, delete_taken, ChangeTaken, change_taken}

module _ {P : Type 0} where
  -- taking one change back keeps the order
  pub undo_order : (c : Change P) (l : List (Route P)) → InOrder l → CanUndo c l → InOrder (undo c l)
  undo_order (added r) l o u = remove_order r.prefix l o
  undo_order (deleted r) l o u = insert_order r l o (absent r.prefix l u)
  undo_order (changed p old new) l o u = let w = there p l u in replace_order (record { prefix = p; payload = old }) w.0 l o w.1

module _ {P : Type 0} (R : Rules P) where
  -- ---- every route obeys, said of each that is held

  pub obeys_held : (l : List (Route P)) → AllObey R l → (q : Route P) → Held q l → Obeys R q.prefix q.payload
  obeys_held [] a q h = elim h [ ]
  obeys_held (x ∷ xs) a q (inl e) = subst (λ (z : Route P). Obeys R z.prefix z.payload) (sym e) a.0
  obeys_held (x ∷ xs) a q (inr h) = obeys_held xs a.1 q h

  pub held_obeys : (l : List (Route P)) → ((q : Route P) → Held q l → Obeys R q.prefix q.payload) → AllObey R l
  held_obeys [] f = tt
  held_obeys (x ∷ xs) f = (f x (inl refl), held_obeys xs (λ q h. f q (inr h)))

  insert_obeys : (r : Route P) (l : List (Route P)) → Obeys R r.prefix r.payload → AllObey R l → AllObey R (insert r l)
  insert_obeys r l o a =
      held_obeys (insert r l) (λ q h. ⊎_elim (λ e. subst (λ (z : Route P). Obeys R z.prefix z.payload) (sym e) o) (λ k. obeys_held l a q k) ((insert_held q r l).0 h))

  remove_obeys : (p : Prefix) (l : List (Route P)) → InOrder l → AllObey R l → AllObey R (remove p l)
  remove_obeys p l o a = held_obeys (remove p l) (λ q h. obeys_held l a q ((remove_held q p l o).0 h).0)

  replace_obeys : (r old : Route P) (l : List (Route P)) → InOrder l → find r.prefix l ≡ some old → Obeys R r.prefix r.payload → AllObey R l → AllObey R (replace r l)
  replace_obeys r old l o e b a =
      held_obeys (replace r l) (λ q h.
      ⊎_elim (λ f. subst (λ (z : Route P). Obeys R z.prefix z.payload) (sym f) b) (λ w. obeys_held l a q w.0) ((replace_held r old l o e q).0 h))

  -- ---- taking one change back

  undo_obeys : (c : Change P) (l : List (Route P)) → InOrder l → CanUndo c l → ChangeObeys R c → AllObey R l → AllObey R (undo c l)
  undo_obeys (added r) l o u b a = remove_obeys r.prefix l o a
  undo_obeys (deleted r) l o u b a = insert_obeys r l b a
  undo_obeys (changed p old new) l o u b a = let w = there p l u in replace_obeys (record { prefix = p; payload = old }) w.0 l o w.1 b.0 a

  -- and all of them
  undo_all_order : (k : ℕ) (cs : List (Change P)) (l : List (Route P)) → InOrder l → Undoable k cs l → InOrder (undo_all cs l)
  undo_all_order k [] l o u = o
  undo_all_order k (c ∷ cs) l o u = undo_all_order k cs (undo c l) (undo_order c l o u.0) u.2

  undo_all_obeys : (k : ℕ) (cs : List (Change P)) (l : List (Route P)) → InOrder l → Undoable k cs l → AllChangesObey R cs → AllObey R l → AllObey R (undo_all cs l)
  undo_all_obeys k [] l o u b a = a
  undo_all_obeys k (c ∷ cs) l o u b a = undo_all_obeys k cs (undo c l) (undo_order c l o u.0) u.2 b.1 (undo_obeys c l o u.0 b.0 a)

  undo_all_fits : (k : ℕ) (cs : List (Change P)) (l : List (Route P)) → Undoable k cs l → length l ≤ k → length (undo_all cs l) ≤ k
  undo_all_fits k [] l u h = h
  undo_all_fits k (c ∷ cs) l u h = undo_all_fits k cs (undo c l) u.2 u.1

  -- ---- a recorded change

  -- a change that leads from l to m, and can be taken back from there
  pub record Recorded (l m : List (Route P)) (c : Change P) : Type 0 where
    pub obeys : ChangeObeys R c
    pub can : CanUndo c m
    pub back : undo c m ≡ l

  -- a lawful state with other routes, and the change recorded if a trial is open
  record_lawful : (s : State P) (m : List (Route P)) (c : Change P) → Lawful R s → trial_full R s ≡ false → Recorded s.routes m c
      → length m ≤ s.capacity → AllObey R m → InOrder m → Lawful R (change_to s m c)
  record_lawful s m c w f d h a o = go s.trial refl
    where
      base : (t : Trial P) → AllChangesObey R (changes t) → length (changes t) ≤ R.standing → Undoable s.capacity (changes t) m
          → Lawful R (record { capacity = s.capacity; routes = m; trial = t })
      base t b k u = record { at_least_one = w.at_least_one; in_range = w.in_range; no_more = h; obeyed = a; ordered = o; recorded = b; few = k; undoable = u }

      go : (t : Trial P) → s.trial ≡ t → Lawful R (change_to s m c)
      go closed e = rw e (base closed tt zero-le tt)
      go (opened cs) e =
          let room : length cs ≤ R.standing = rw e at w.few in
          let not_full : eqb (length cs) R.standing ≡ false = rw e at f in
          let more : suc (length cs) ≤ R.standing = omega (arith, eqb-false (length cs) R.standing not_full) in
          rw e (base (opened (c ∷ cs)) (d.obeys, rw e at w.recorded) more
          (d.can, subst (λ (l : List (Route P)). length l ≤ s.capacity) (sym d.back) w.no_more, subst (Undoable s.capacity cs) (sym d.back) (rw e at w.undoable)))

  -- ---- the three changes, each recorded so that taking it back restores what was there

  module _ (l : List (Route P)) (o : InOrder l) (a : AllObey R l) where
    pub recorded_add : (r : Route P) → find r.prefix l ≡ none → Obeys R r.prefix r.payload → Recorded l (insert r l) (added r)
    recorded_add r e b = record { obeys = b; can = ap present (insert_found r l o e); back = undo_add r l e }

    pub recorded_delete : (p : Prefix) (r : Route P) → find p l ≡ some r → Recorded l (remove p l) (deleted r)
    recorded_delete p r e =
        let w = find_held p r l e in record {
          obeys = obeys_held l a r w.0;
          can = ap present (subst (λ (q : Prefix). find q (remove p l) ≡ none) (sym w.1) (remove_absent p l o));
          back = undo_delete p r l o e;
        }

    pub recorded_change : (r old : Route P) → find r.prefix l ≡ some old → good_payload R r.prefix r.payload ≡ true
        → Recorded l (replace r l) (changed r.prefix old.payload r.payload)
    recorded_change r old e g =
        let w = find_held r.prefix old l e in
        let b = subst (λ (q : Prefix). Obeys R q old.payload) w.1 (obeys_held l a old w.0) in record {
          obeys = (b, (b.0, b.1, g));
          can = ap present (replace_found r old l o e);
          back = undo_change r old l e;
        }

  -- ---- every call

  add_lawful : (r : Route P) (s : State P) → Lawful R s → AddTaken R s r → Lawful R (change_to s (insert r s.routes) (added r))
  add_lawful r s w q =
      let room : suc (length s.routes) ≤ s.capacity = omega (arith, w.no_more, eqb-false (length s.routes) s.capacity q.room) in
      record_lawful s (insert r s.routes) (added r) w q.few (recorded_add s.routes w.ordered w.obeyed r q.absent q.obeys)
      (le_trans (le_of_eq (length_insert r s.routes)) room) (insert_obeys r s.routes q.obeys w.obeyed) (insert_order r s.routes w.ordered q.absent)

  delete_lawful : (p : Prefix) (s : State P) → Lawful R s → (q : DeleteTaken R s p) → Lawful R (change_to s (remove p s.routes) (deleted q.route))
  delete_lawful p s w q =
      let less : suc (length (remove p s.routes)) ≡ length s.routes = length_remove p q.route s.routes q.there in
      let fits : length (remove p s.routes) ≤ s.capacity = omega (arith, w.no_more, less) in
      record_lawful s (remove p s.routes) (deleted q.route) w q.few (recorded_delete s.routes w.ordered w.obeyed p q.route q.there)
      fits (remove_obeys p s.routes w.ordered w.obeyed) (remove_order p s.routes w.ordered)

  change_lawful : (r : Route P) (s : State P) → Lawful R s → (q : ChangeTaken R s r)
      → Lawful R (change_to s (replace r s.routes) (changed r.prefix q.route.payload r.payload))
  change_lawful r s w q =
      let d = recorded_change s.routes w.ordered w.obeyed r q.route q.there q.good in
      record_lawful s (replace r s.routes) (changed r.prefix q.route.payload r.payload) w q.few d
      (le_trans (le_of_eq (length_replace r q.route s.routes w.ordered q.there)) w.no_more)
      (replace_obeys r q.route s.routes w.ordered q.there d.obeys.1 w.obeyed) (replace_order r q.route s.routes w.ordered q.there)

  -- a lawful state with no change standing
  bare_lawful : (s : State P) (l : List (Route P)) (t : Trial P) → changes t ≡ [] → Lawful R s → length l ≤ s.capacity → AllObey R l → InOrder l → Lawful R (with_trial s l t)
  bare_lawful s l t e w h a o = record {
    at_least_one = w.at_least_one;
    in_range = w.in_range;
    no_more = h;
    obeyed = a;
    ordered = o;
    recorded = rw e tt;
    few = rw e zero-le;
    undoable = rw e tt;
  }

  step_lawful : (s : State P) (t : Trial P) → s.trial ≡ t → Lawful R s → Lawful R (stepped_back s t)
  step_lawful s closed e w = w
  step_lawful s (opened []) e w = w
  step_lawful s (opened (c ∷ cs)) e w =
      let u : Undoable s.capacity (c ∷ cs) s.routes = rw e at w.undoable in
      let b : AllChangesObey R (c ∷ cs) = rw e at w.recorded in
      let k : suc (length cs) ≤ R.standing = rw e at w.few in record {
        at_least_one = w.at_least_one;
        in_range = w.in_range;
        no_more = u.1;
        obeyed = undo_obeys c s.routes w.ordered u.0 b.0 w.obeyed;
        ordered = undo_order c s.routes w.ordered u.0;
        recorded = b.1;
        few = le_trans (le-suc (length cs)) k;
        undoable = u.2;
      }

  pub empty_lawful : (c n : ℕ) (m : Meaning P) → accepted R (fresh c n) m ≡ true → Lawful R (empty c)
  empty_lawful c n m t =
      let q = accepted_quiet R (fresh c n) m t in
      let some-room = eqb-false c 0 (fails (λ z. true≢false (sym (or_left _ z) ∙ q.0))) in
      record {
        at_least_one = omega (arith, some-room);
        in_range = ltb-false R.limit c (fails (λ z. true≢false (sym (or_right (eqb c 0) z) ∙ q.0)));
        no_more = zero-le;
        obeyed = tt;
        ordered = tt;
        recorded = tt;
        few = zero-le;
        undoable = tt;
      }

  -- what a pool means is lawful: nothing, or a lawful state
  abbrev pub LawfulMeaning : Meaning P → Type 0
  LawfulMeaning none = Unit {0}
  LawfulMeaning (some s) = Lawful R s

  done_lawful : (c : Call P) (m : Meaning P) → accepted R c m ≡ true → LawfulMeaning m → LawfulMeaning (done c m)
  done_lawful (fresh c n) m t w = empty_lawful c n m t
  done_lawful (add r) none t w = tt
  done_lawful (add r) (some s) t w = add_lawful r s w (add_taken R s r t)
  done_lawful (delete h p) none t w = tt
  done_lawful (delete h p) (some s) t w =
      let q = delete_taken R s h p t in subst (LawfulMeaning) (sym (delete_records h p q.route s q.there)) (delete_lawful p s w q)
  done_lawful (change r) none t w = tt
  done_lawful (change r) (some s) t w =
      let q = change_taken R s r t in subst (LawfulMeaning) (sym (change_records r q.route s q.there)) (change_lawful r s w q)
  done_lawful (lookup d) m t w = w
  done_lawful first m t w = w
  done_lawful (after p) m t w = w
  done_lawful room m t w = w
  done_lawful (mask x) m t w = w
  done_lawful open_trial none t w = tt
  done_lawful open_trial (some s) t w = bare_lawful s s.routes (opened []) refl w w.no_more w.obeyed w.ordered
  done_lawful keep none t w = tt
  done_lawful keep (some s) t w = bare_lawful s s.routes closed refl w w.no_more w.obeyed w.ordered
  done_lawful back_out none t w = tt
  done_lawful back_out (some s) t w =
      let cs = changes s.trial in
      bare_lawful s (undo_all cs s.routes) closed refl w (undo_all_fits s.capacity cs s.routes w.undoable w.no_more)
      (undo_all_obeys s.capacity cs s.routes w.ordered w.undoable w.recorded w.obeyed)
      (undo_all_order s.capacity cs s.routes w.ordered w.undoable)
  done_lawful step_back none t w = tt
  done_lawful step_back (some s) t w = step_lawful s s.trial refl w

  pub next_lawful : (c : Call P) (m : Meaning P) → LawfulMeaning m → LawfulMeaning (next R c m)
  next_lawful c m w = go (accepted R c m) refl
    where
      go : (b : Bool) → accepted R c m ≡ b → LawfulMeaning (next R c m)
      go true t = rw t (done_lawful c m t w)
      go false t = rw t w
