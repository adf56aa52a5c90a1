-- Demand 2 in any sound pool, however its words came about: what the calls answer there, and what an accepted one leaves.
use Prim.Native.Nat.{ℕ, ◌-◌}
use mathlib.Core.Path.{◌≡◌, refl, sym, ap, subst, ◌∙◌}
use mathlib.Core.Bool.{Bool, true, false, cond}
use mathlib.Core.List.{List, [], ◌∷◌, ◌++◌, append_assoc}
use mathlib.Core.Logic.{inl, inr}
use mathlib.Core.Option.{Option, none, some}
use native.Mathlib.Omega.{arith}
use borrow.Author.Tests.{eq-eqb}
use lib.ListN.{length}
use Rattle.model.specs.Prefix.{Prefix, well_formed}
use Rattle.model.specs.Routes.{Route, InOrder, insert, remove, replace, first_of, next_after}
use Rattle.model.specs.Match.{best}
use Rattle.model.specs.State.{Hand, Change, Trial, closed, opened, State, undo, undo_all, changes}
use Rattle.model.specs.Call.{Call, fresh, add, delete, change, lookup, first, after, room, mask, open_trial, keep, back_out, step_back, Value, route, count, number, accepted, value, with_trial, stepped_back, done, next}
use Rattle.model.specs.Lawful.{AllObey}
use Rattle.model.specs.History.{Deed, put, drop, swap, act}
use Rattle.model.proofs.Match.{best_some, best_none}
use Rattle.model.proofs.Lawful.{obeys_held}
use Rattle.model.proofs.Walk.{next_behind}
use Rattle.model.proofs.Append.{held_append}
use Rattle.model.proofs.History.{Changed, changed_add, changed_delete, changed_change}
use Rattle.promise.specs.Table.{Table, Sound}
use Rattle.promise.specs.Promise.{Meant, Promise, LookupPromise}
use Rattle.promise.specs.Demand.{Shows, LooksUp, Walked, ended, shown}

module _ {P : Type 0} (T : Table P) (ws : List ℕ) (s : State P) (h : T.Means ws s) where
  -- ---- lookups

  looks_up : (d : ℕ) (o : Option (Route P)) → best T.rules.width d s.routes ≡ o
      → LooksUp T.rules.width d s.routes (number T.rules (lookup d) (some s)) (value T.rules (lookup d) (some s))
  looks_up d none b = rw b (inr (refl, refl, best_none T.rules.width d s.routes b))
  looks_up d (some x) b = rw b (inl (refl, (x, refl, best_some T.rules.width d s.routes x b)))

  -- "A lookup gives the matching route with the longest prefix, or says there is none exactly when there is none."
  pub sound_lookup : (d n : ℕ) (v : Value P) → LookupPromise T d ws n v → LooksUp T.rules.width d s.routes n v
  sound_lookup d n v p = rw (p.number_is s h, p.value_is s h) (looks_up d (best T.rules.width d s.routes) refl)

  -- ---- the walk

  -- "No two routes have the same prefix", and the walk's order is theirs.
  pub sound_ordered : InOrder s.routes
  sound_ordered = (T.lawful ws s h).ordered

  shows_first : (l : List (Route P)) → s.routes ≡ l → Shows l (number T.rules first (some s)) (value T.rules first (some s))
  shows_first [] e = rw e (refl, refl)
  shows_first (x ∷ l) e = rw e (refl, refl)

  -- Asked for the first route, it shows the first of them.
  pub sound_first : (zs : List ℕ) (n : ℕ) (v : Value P) → Promise T first ws zs n v → Shows s.routes n v
  sound_first zs n v p = rw (p.number_is (some s) h, p.value_is (some s) h) (shows_first s.routes refl)

  shows_next : (p : Prefix) (l : List (Route P)) → well_formed T.rules.width p ≡ true → next_after p s.routes ≡ first_of l
      → Shows l (number T.rules (after p) (some s)) (value T.rules (after p) (some s))
  shows_next p [] w e = rw (w, e) (refl, refl)
  shows_next p (x ∷ l) w e = rw (w, e) (refl, refl)

  -- Asked for the next after one of them, it shows the one behind it; after the last, 14.
  pub sound_next : (before : List (Route P)) (x : Route P) (rest : List (Route P)) → s.routes ≡ before ++ x ∷ rest
      → (zs : List ℕ) (n : ℕ) (v : Value P) → Promise T (after x.prefix) ws zs n v → Shows rest n v
  sound_next before x rest e zs n v p =
      let o : InOrder (before ++ x ∷ rest) = subst InOrder e sound_ordered in
      let all : AllObey T.rules (before ++ x ∷ rest) = subst (AllObey T.rules) e (T.lawful ws s h).obeyed in
      let w = (obeys_held T.rules (before ++ x ∷ rest) all x ((held_append x before (x ∷ rest)).1 (inr (inl refl)))).0 in
      rw (p.number_is (some s) h, p.value_is (some s) h) (shows_next x.prefix rest w (ap (next_after x.prefix) e ∙ next_behind before rest x o))

  walked_rest : {c : Call P} {l : List (Route P)} → Walked T ws c l → (before rest : List (Route P)) → s.routes ≡ before ++ rest
      → ((zs : List ℕ) (n : ℕ) (v : Value P) → Promise T c ws zs n v → Shows rest n v) → l ≡ rest
  walked_rest (ended c v p) before [] e q = refl
  walked_rest (ended c v p) before (y ∷ rest) e q = let z = (q ws 14 v p).0 in absurd (omega (arith, z))
  walked_rest (shown c x l p w) before [] e q = let z = (q ws 0 (route x) p).0 in absurd (omega (arith, z))
  walked_rest (shown c x l p w) before (y ∷ rest) e q =
      let f : x ≡ y = cc (q ws 0 (route x) p).1 in
      let g : s.routes ≡ (before ++ (y ∷ [])) ++ rest = e ∙ sym (append_assoc before (y ∷ []) rest) in
      let b = walked_rest w (before ++ (y ∷ [])) rest g (λ zs n v k. sound_next before y rest e zs n v (subst (λ (z : Route P). Promise T (after z.prefix) ws zs n v) f k)) in
      λ i. f i ∷ b i

  -- "The walk shows every route once, in order": from first to end it lists them all; in order is `sound_ordered`.
  pub sound_walk : (l : List (Route P)) → Walked T ws first l → l ≡ s.routes
  sound_walk l w = walked_rest w [] s.routes refl sound_first

  -- ---- room

  -- "Room left is the capacity less the routes held."
  pub sound_room : (zs : List ℕ) (n : ℕ) (v : Value P) → Promise T room ws zs n v → (n ≡ 0) × (v ≡ count (s.capacity - length s.routes))
  sound_room zs n v p = (p.number_is (some s) h, p.value_is (some s) h)

  -- ---- what a call leaves

  -- where a pool means a state, it means one after any call
  done_some : (c : Call P) → (t : State P) × (done c (some s) ≡ some t)
  done_some (fresh c n) = (_, refl)
  done_some (add r) = (_, refl)
  done_some (delete b p) = (_, refl)
  done_some (change r) = (_, refl)
  done_some (lookup d) = (_, refl)
  done_some first = (_, refl)
  done_some (after p) = (_, refl)
  done_some room = (_, refl)
  done_some (mask w) = (_, refl)
  done_some open_trial = (_, refl)
  done_some keep = (_, refl)
  done_some back_out = (_, refl)
  done_some step_back = (_, refl)

  next_some : (c : Call P) → (t : State P) × (next T.rules c (some s) ≡ some t)
  next_some c = go (accepted T.rules c (some s))
    where
      go : (b : Bool) → (t : State P) × (cond b (done c (some s)) (some s) ≡ some t)
      go true = done_some c
      go false = (s, refl)

  -- "Every accepted call keeps it sound", and so does every refused one.
  pub sound_kept : (c : Call P) (zs : List ℕ) (n : ℕ) (v : Value P) → Promise T c ws zs n v → Sound T zs
  sound_kept c zs n v p = let w = next_some c in (w.0, subst (Meant T zs) w.1 (p.meaning_is (some s) h))

  module _ (zs : List ℕ) (v : Value P) (t : State P) (k : T.Means zs t) where
    -- an accepted call leaves what the model makes of the state
    accepted_by : (c : Call P) → Promise T c ws zs 0 v → accepted T.rules c (some s) ≡ true
    accepted_by c p = eq-eqb _ 0 (sym (p.number_is (some s) h))

    leaves : (c : Call P) (u : State P) → done c (some s) ≡ some u → Promise T c ws zs 0 v → t ≡ u
    leaves c u e p =
        let f = ap (λ (b : Bool). cond b (done c (some s)) (some s)) (accepted_by c p) ∙ e in
        T.unique zs t u k (subst (Meant T zs) f (p.meaning_is (some s) h))

    one_change : (c : Call P) (d : Deed P) → Changed T.rules s c d → Promise T c ws zs 0 v → (t.routes ≡ act d s.routes) × (t.capacity ≡ s.capacity)
    one_change c d w p =
        let e = T.unique zs t _ k (subst (Meant T zs) w.result (p.meaning_is (some s) h)) in
        (ap (λ (x : State P). x.routes) e, ap (λ (x : State P). x.capacity) e)

    -- "Add and delete change one route": an accepted add leaves one route more (`insert_held`),
    pub sound_add : (r : Route P) → Promise T (add r) ws zs 0 v → (t.routes ≡ insert r s.routes) × (t.capacity ≡ s.capacity)
    sound_add r p = one_change (add r) (put r) (changed_add T.rules r s (T.lawful ws s h) (accepted_by (add r) p)) p

    -- a delete one route less (`remove_held`),
    pub sound_delete : (b : Hand) (q : Prefix) → Promise T (delete b q) ws zs 0 v → (t.routes ≡ remove q s.routes) × (t.capacity ≡ s.capacity)
    sound_delete b q p = one_change (delete b q) (drop q) (changed_delete T.rules b q s (T.lawful ws s h) (accepted_by (delete b q) p)) p

    -- and a change of the hop one route for another (`replace_held`).
    pub sound_change : (r : Route P) → Promise T (change r) ws zs 0 v → (t.routes ≡ replace r s.routes) × (t.capacity ≡ s.capacity)
    sound_change r p = one_change (change r) (swap r) (changed_change T.rules r s (T.lawful ws s h) (accepted_by (change r) p)) p

    -- "Step back takes back the newest recorded change; the trial stays open."
    pub sound_step : (x : Change P) (xs : List (Change P)) → s.trial ≡ opened (x ∷ xs) → Promise T step_back ws zs 0 v → (t.routes ≡ undo x s.routes) × (t.trial ≡ opened xs)
    sound_step x xs e p =
        let f = leaves step_back (with_trial s (undo x s.routes) (opened xs)) (ap (λ (u : Trial P). some (stepped_back s u)) e) p in
        (ap (λ (y : State P). y.routes) f, ap (λ (y : State P). y.trial) f)

    -- "Back out takes back all and closes it."
    pub sound_back_out : Promise T back_out ws zs 0 v → (t.routes ≡ undo_all (changes s.trial) s.routes) × (t.trial ≡ closed)
    sound_back_out p =
        let f = leaves back_out (with_trial s (undo_all (changes s.trial) s.routes) closed) refl p in
        (ap (λ (y : State P). y.routes) f, ap (λ (y : State P). y.trial) f)
