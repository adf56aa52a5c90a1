-- Demand 3 for the model: a change taken back leaves the state before it, and after any run from a fresh table the state is what the transcript's
-- survivors make of an empty table.
use Prim.Native.Nat.{ℕ, zero, suc}
use mathlib.Core.Path.{◌≡◌, refl, sym, ap, subst, ◌∙◌}
use mathlib.Core.Bool.{Bool, true, false, not, cond, true≢false}
use mathlib.Core.List.{List, [], ◌∷◌, ◌++◌, tail}
use mathlib.Core.Option.{some}
use borrow.Author.Tests.{eq-eqb}
use lib.Dec.{eqb, eqb-suc-zero}
use lib.ListN.{length}
use Rattle.model.specs.Prefix.{Prefix}
use Rattle.model.specs.Routes.{Route}
use Rattle.model.specs.State.{Hand, Rules, Change, added, deleted, changed, Trial, closed, opened, State, Meaning, empty, is_open, changes, undo, undo_all}
use Rattle.model.specs.Call.{Call, fresh, add, delete, change, lookup, first, after, room, mask, open_trial, keep, back_out, step_back, due, number, accepted, change_to, with_trial, stepped_back, done, next}
use Rattle.model.specs.Lawful.{Lawful}
use Rattle.model.specs.History.{Deed, put, drop, swap, Told, noted, heard, heard_if, told, act, replay}
use Rattle.model.proofs.Undo.{add_records, delete_records, change_records}
use Rattle.model.proofs.Numbers.{Quiet, accepted_quiet}
use Rattle.model.proofs.Taken.{add_taken, delete_taken, change_taken}
use Rattle.model.proofs.Lawful.{Recorded, recorded_add, recorded_delete, recorded_change, LawfulMeaning, next_lawful, empty_lawful}

module _ {P : Type 0} (R : Rules P) where
  -- ---- step back restores the state before the change

  restored : (s : State P) (m : List (Route P)) (c : Change P) (cs : List (Change P)) → s.trial ≡ opened cs → Recorded R s.routes m c
      → next R step_back (some (change_to s m c)) ≡ some s
  restored s m c cs e d = rw (e, eqb-suc-zero (length cs)) (λ i. some (record { capacity = s.capacity; routes = d.back i; trial = opened cs }))

  -- what each of the three changes does to a lawful state that accepts it: the routes, the deed, and the record of it
  pub record Changed (s : State P) (c : Call P) (d : Deed P) : Type 0 where
    pub change : Change P
    pub result : next R c (some s) ≡ some (change_to s (act d s.routes) change)
    pub recorded : Recorded R s.routes (act d s.routes) change

  pub changed_add : (r : Route P) (s : State P) → Lawful R s → accepted R (add r) (some s) ≡ true → Changed s (add r) (put r)
  changed_add r s w t =
      let q = add_taken R s r t in
      record { change = added r; result = rw t (add_records r s); recorded = recorded_add R s.routes w.ordered w.obeyed r q.absent q.obeys }

  pub changed_delete : (h : Hand) (p : Prefix) (s : State P) → Lawful R s → accepted R (delete h p) (some s) ≡ true → Changed s (delete h p) (drop p)
  changed_delete h p s w t =
      let q = delete_taken R s h p t in record {
        change = deleted q.route;
        result = rw t (delete_records h p q.route s q.there);
        recorded = recorded_delete R s.routes w.ordered w.obeyed p q.route q.there;
      }

  pub changed_change : (r : Route P) (s : State P) → Lawful R s → accepted R (change r) (some s) ≡ true → Changed s (change r) (swap r)
  changed_change r s w t =
      let q = change_taken R s r t in record {
        change = changed r.prefix q.route.payload r.payload;
        result = rw t (change_records r q.route s q.there);
        recorded = recorded_change R s.routes w.ordered w.obeyed r q.route q.there q.good;
      }

  -- "step back takes back the newest recorded change": in an open trial the state before it is there again
  pub taken_back : (s : State P) (c : Call P) (d : Deed P) (cs : List (Change P)) → Changed s c d → s.trial ≡ opened cs → next R step_back (next R c (some s)) ≡ some s
  taken_back s c d cs h e = ap (next R step_back) h.result ∙ restored s (act d s.routes) h.change cs e h.recorded

  pub add_taken_back : (s : State P) (r : Route P) (cs : List (Change P)) → Lawful R s → s.trial ≡ opened cs → accepted R (add r) (some s) ≡ true
      → next R step_back (next R (add r) (some s)) ≡ some s
  add_taken_back s r cs w e t = taken_back s (add r) (put r) cs (changed_add r s w t) e

  pub delete_taken_back : (s : State P) (h : Hand) (p : Prefix) (cs : List (Change P)) → Lawful R s → s.trial ≡ opened cs → accepted R (delete h p) (some s) ≡ true
      → next R step_back (next R (delete h p) (some s)) ≡ some s
  delete_taken_back s h p cs w e t = taken_back s (delete h p) (drop p) cs (changed_delete h p s w t) e

  pub change_taken_back : (s : State P) (r : Route P) (cs : List (Change P)) → Lawful R s → s.trial ≡ opened cs → accepted R (change r) (some s) ≡ true
      → next R step_back (next R (change r) (some s)) ≡ some s
  change_taken_back s r cs w e t = taken_back s (change r) (swap r) cs (changed_change r s w t) e

  -- ---- a run, and what its transcript tells

  -- the changes of an open trial, against the deeds that stand: taking each back leaves what the deeds before it make
  abbrev Unwinds : List (Change P) → List (Deed P) → List (Deed P) → List (Route P) → Type 0
  Unwinds [] [] es l = Unit {0}
  Unwinds [] (d ∷ ds) es l = ⊥
  Unwinds (c ∷ cs) [] es l = ⊥
  Unwinds (c ∷ cs) (d ∷ ds) es l = (undo c l ≡ replay (ds ++ es)) × Unwinds cs ds es (undo c l)

  abbrev TrialAgrees : Trial P → Told P → List (Route P) → Type 0
  TrialAgrees closed t l = (t.in_trial ≡ false) × (t.standing ≡ [])
  TrialAgrees (opened cs) t l = (t.in_trial ≡ true) × Unwinds cs t.standing t.settled l

  -- the state is what the transcript tells
  pub record Agrees (s : State P) (t : Told P) : Type 0 where
    pub capacity : s.capacity ≡ t.capacity
    pub made : s.routes ≡ replay (t.standing ++ t.settled)
    pub trial : TrialAgrees s.trial t s.routes

  change_agrees : (s : State P) (t : Told P) (d : Deed P) (c : Change P) → Agrees s t → Recorded R s.routes (act d s.routes) c
      → Agrees (change_to s (act d s.routes) c) (noted t d)
  change_agrees s t d c a h = go s.trial refl
    where
      l : List (Route P)
      l = act d s.routes

      go : (u : Trial P) → s.trial ≡ u → Agrees (change_to s (act d s.routes) c) (noted t d)
      go closed e =
          let w : TrialAgrees closed t s.routes = subst (λ (u : Trial P). TrialAgrees u t s.routes) e a.trial in
          rw (e, w.0) (record { capacity = a.capacity; made = ap (act d) (a.made ∙ ap (λ (ds : List (Deed P)). replay (ds ++ t.settled)) w.1); trial = (refl, refl) })
      go (opened cs) e =
          let w : TrialAgrees (opened cs) t s.routes = subst (λ (u : Trial P). TrialAgrees u t s.routes) e a.trial in
          rw (e, w.0) (record {
            capacity = a.capacity;
            made = ap (act d) a.made;
            trial = (refl, (h.back ∙ a.made, subst (Unwinds cs t.standing t.settled) (sym h.back) w.1));
          })

  -- all taken back, what is settled is left
  unwound : (cs : List (Change P)) (ds es : List (Deed P)) (l : List (Route P)) → l ≡ replay (ds ++ es) → Unwinds cs ds es l → undo_all cs l ≡ replay es
  unwound [] [] es l e u = e
  unwound [] (d ∷ ds) es l e u = absurd u
  unwound (c ∷ cs) [] es l e u = absurd u
  unwound (c ∷ cs) (d ∷ ds) es l e u = unwound cs ds es (undo c l) u.0 u.1

  back_out_agrees : (s : State P) (t : Told P) → Agrees s t → undo_all (changes s.trial) s.routes ≡ replay t.settled
  back_out_agrees s t a = go s.trial refl
    where
      go : (u : Trial P) → s.trial ≡ u → undo_all (changes s.trial) s.routes ≡ replay t.settled
      go closed e =
          let w : TrialAgrees closed t s.routes = subst (λ (u : Trial P). TrialAgrees u t s.routes) e a.trial in
          rw e (a.made ∙ ap (λ (ds : List (Deed P)). replay (ds ++ t.settled)) w.1)
      go (opened cs) e =
          let w : TrialAgrees (opened cs) t s.routes = subst (λ (u : Trial P). TrialAgrees u t s.routes) e a.trial in
          rw e (unwound cs t.standing t.settled s.routes a.made w.1)

  step_at : (s : State P) (u : Trial P) (k : ℕ) (es : List (Deed P)) (b : Bool) (ds : List (Deed P)) → s.capacity ≡ k
      → TrialAgrees u (record { capacity = k; settled = es; in_trial = b; standing = ds }) s.routes → not (is_open u) ≡ false → eqb (length (changes u)) 0 ≡ false
      → Agrees (stepped_back s u) (record { capacity = k; settled = es; in_trial = b; standing = tail ds })
  step_at s closed k es b ds c w o n = absurd (true≢false o)
  step_at s (opened []) k es b ds c w o n = absurd (true≢false n)
  step_at s (opened (x ∷ xs)) k es b [] c w o n = absurd w.1
  step_at s (opened (x ∷ xs)) k es b (d ∷ ds) c w o n = record { capacity = c; made = w.1.0; trial = (w.0, w.1.1) }

  step_agrees : (s : State P) (t : Told P) → Agrees s t → Quiet (due R step_back (some s)) → Agrees (stepped_back s s.trial) (heard step_back t)
  step_agrees s t a q = step_at s s.trial t.capacity t.settled t.in_trial t.standing a.capacity a.trial q.1.0 q.1.1.0

  -- a trial that is not open has nothing standing
  closed_agrees : (s : State P) (t : Told P) → Agrees s t → is_open s.trial ≡ false → (t.in_trial ≡ false) × (t.standing ≡ [])
  closed_agrees s t a o = go s.trial o a.trial
    where
      go : (u : Trial P) → is_open u ≡ false → TrialAgrees u t s.routes → (t.in_trial ≡ false) × (t.standing ≡ [])
      go closed e w = w
      go (opened cs) e w = absurd (true≢false e)

  -- a trial is open just where the transcript says so
  pub open_agrees : (s : State P) (t : Told P) → Agrees s t → is_open s.trial ≡ t.in_trial
  open_agrees s t a = go s.trial a.trial
    where
      go : (u : Trial P) → TrialAgrees u t s.routes → is_open u ≡ t.in_trial
      go closed w = sym w.0
      go (opened cs) w = sym w.0

  -- where a change was made, what is told of it is what was made
  told_change : (s : State P) (t : Told P) (c : Call P) (d : Deed P) → Agrees s t → Changed s c d → (z : State P) → next R c (some s) ≡ some z → Agrees z (noted t d)
  told_change s t c d a h z e =
      let same : z ≡ change_to s (act d s.routes) h.change = cc h.result in
      subst (λ (x : State P). Agrees x (noted t d)) (sym same) (change_agrees s t d h.change a h.recorded)

  -- an accepted call, call by call
  heard_agrees : (c : Call P) (s z : State P) (t : Told P) → Lawful R s → Agrees s t → accepted R c (some s) ≡ true → next R c (some s) ≡ some z → done c (some s) ≡ some z
      → Agrees z (heard c t)
  heard_agrees (fresh c n) s z t w a k e f =
      let g : z ≡ empty c = cc in subst (λ (x : State P). Agrees x (heard (fresh c n) t)) (sym g) (record { capacity = refl; made = refl; trial = (refl, refl) })
  heard_agrees (add r) s z t w a k e f = told_change s t (add r) (put r) a (changed_add r s w k) z e
  heard_agrees (delete h p) s z t w a k e f = told_change s t (delete h p) (drop p) a (changed_delete h p s w k) z e
  heard_agrees (change r) s z t w a k e f = told_change s t (change r) (swap r) a (changed_change r s w k) z e
  heard_agrees (lookup d) s z t w a k e f = let g : z ≡ s = cc in subst (λ (x : State P). Agrees x t) (sym g) a
  heard_agrees first s z t w a k e f = let g : z ≡ s = cc in subst (λ (x : State P). Agrees x t) (sym g) a
  heard_agrees (after p) s z t w a k e f = let g : z ≡ s = cc in subst (λ (x : State P). Agrees x t) (sym g) a
  heard_agrees room s z t w a k e f = let g : z ≡ s = cc in subst (λ (x : State P). Agrees x t) (sym g) a
  heard_agrees (mask m) s z t w a k e f = let g : z ≡ s = cc in subst (λ (x : State P). Agrees x t) (sym g) a
  heard_agrees open_trial s z t w a k e f =
      let g : z ≡ with_trial s s.routes (opened []) = cc in
      let b = closed_agrees s t a (accepted_quiet R open_trial (some s) k).1.0 in
      subst (λ (x : State P). Agrees x (heard open_trial t)) (sym g)
      (record { capacity = a.capacity; made = a.made ∙ ap (λ (ds : List (Deed P)). replay (ds ++ t.settled)) b.1; trial = (refl, tt) })
  heard_agrees keep s z t w a k e f =
      let g : z ≡ with_trial s s.routes closed = cc in
      subst (λ (x : State P). Agrees x (heard keep t)) (sym g) (record { capacity = a.capacity; made = a.made; trial = (refl, refl) })
  heard_agrees back_out s z t w a k e f =
      let g : z ≡ with_trial s (undo_all (changes s.trial) s.routes) closed = cc in
      subst (λ (x : State P). Agrees x (heard back_out t)) (sym g) (record { capacity = a.capacity; made = back_out_agrees s t a; trial = (refl, refl) })
  heard_agrees step_back s z t w a k e f =
      let g : z ≡ stepped_back s s.trial = cc in
      subst (λ (x : State P). Agrees x (heard step_back t)) (sym g) (step_agrees s t a (accepted_quiet R step_back (some s) k))

  -- a run: a fresh table was accepted, and then calls were made; the transcript has each with its number
  pub data Ran : List (Call P × ℕ) → Meaning P → Type 0 where
    begun : (m : Meaning P) (c n : ℕ) → accepted R (fresh c n) m ≡ true → Ran ((fresh c n, 0) ∷ []) (some (empty c))
    called : {xs : List (Call P × ℕ)} {m : Meaning P} → Ran xs m → (c : Call P) → Ran ((c, number R c m) ∷ xs) (next R c m)

  -- what a run leaves: a lawful state that the transcript tells
  pub record Kept (xs : List (Call P × ℕ)) (m : Meaning P) : Type 0 where
    pub state : State P
    pub meant : m ≡ some state
    pub lawful : Lawful R state
    pub agrees : Agrees state (told xs)

  -- an accepted call on a state leaves a state
  done_some : (c : Call P) (s : State P) → (z : State P) × (done c (some s) ≡ some z)
  done_some (fresh c n) s = (_, refl)
  done_some (add r) s = (_, refl)
  done_some (delete h p) s = (_, refl)
  done_some (change r) s = (_, refl)
  done_some (lookup d) s = (_, refl)
  done_some first s = (_, refl)
  done_some (after p) s = (_, refl)
  done_some room s = (_, refl)
  done_some (mask w) s = (_, refl)
  done_some open_trial s = (_, refl)
  done_some keep s = (_, refl)
  done_some back_out s = (_, refl)
  done_some step_back s = (_, refl)

  kept_some : (xs : List (Call P × ℕ)) (s : State P) (c : Call P) → Lawful R s → Agrees s (told xs) → Kept ((c, number R c (some s)) ∷ xs) (next R c (some s))
  kept_some xs s c w a = go (number R c (some s)) refl
    where
      lawful : (z : State P) → next R c (some s) ≡ some z → Lawful R z
      lawful z e = subst (LawfulMeaning R) e (next_lawful R c (some s) w)

      go : (n : ℕ) → number R c (some s) ≡ n → Kept ((c, number R c (some s)) ∷ xs) (next R c (some s))
      go zero e =
          let t : accepted R c (some s) ≡ true = eq-eqb (number R c (some s)) 0 e in
          let d = done_some c s in
          let f : next R c (some s) ≡ some d.0 = ap (λ (b : Bool). cond b (done c (some s)) (some s)) t ∙ d.1 in record {
            state = d.0;
            meant = f;
            lawful = lawful d.0 f;
            agrees = subst (λ (n : ℕ). Agrees d.0 (heard_if n c (told xs))) (sym e) (heard_agrees c s d.0 (told xs) w a t f d.1);
          }
      go (suc n) e =
          let t : accepted R c (some s) ≡ false = ap (λ (x : ℕ). eqb x 0) e ∙ eqb-suc-zero n in
          let f : next R c (some s) ≡ some s = ap (λ (b : Bool). cond b (done c (some s)) (some s)) t in record {
            state = s;
            meant = f;
            lawful = w;
            agrees = subst (λ (x : ℕ). Agrees s (heard_if x c (told xs))) (sym e) a;
          }

  kept_on : (xs : List (Call P × ℕ)) (m : Meaning P) (c : Call P) → Kept xs m → Kept ((c, number R c m) ∷ xs) (next R c m)
  kept_on xs m c k = subst (λ (x : Meaning P). Kept ((c, number R c x) ∷ xs) (next R c x)) (sym k.meant) (kept_some xs k.state c k.lawful k.agrees)

  pub kept : {xs : List (Call P × ℕ)} {m : Meaning P} → Ran xs m → Kept xs m
  kept (begun m c n t) = record { state = empty c; meant = refl; lawful = empty_lawful R c n m t; agrees = record { capacity = refl; made = refl; trial = (refl, refl) } }
  kept (called {xs = xs} {m = m} r c) = kept_on xs m c (kept r)
