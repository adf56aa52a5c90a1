-- Whether a call may go on: each line of document 01's numbers, from the tests before it, and what the tests of a sound pool tell of the
-- state that it means.
use Prim.Native.Nat.{ℕ, ◌≤◌}
use Rattle.std.specs.Prelude.{Some, None, Ok, Err}
use mathlib.Core.Path.{◌≡◌, refl, sym, ap, subst, ◌∙◌}
use mathlib.Core.Bool.{Bool, true, false, ◌&&◌, true≢false}
use mathlib.Core.List.{List}
use mathlib.Core.Option.{Option, none, some}
use native.Mathlib.Omega.{arith}
use borrow.Author.Tests.{ne_eqb}
use lib.Dec.{eqb}
use lib.ListN.{length, take}
use Rattle.model.specs.Prefix.{Prefix, well_formed}
use Rattle.model.specs.Routes.{Route, holds, find}
use Rattle.model.specs.State.{Hand, guards, State, Trial, closed, opened, is_open, changes, full}
use Rattle.model.specs.Call.{Call, add, delete, change, open_trial, keep, step_back, guarded, number, trial_full}
use Rattle.model.proofs.Numbers.{asks, unsound_gives_9}
use Rattle.pool.specs.Layout.{word, Layout, size, standing_in, held_payload}
use Rattle.pool.specs.Means.{Means, TrialThere, routes_used}
use Rattle.pool.specs.declared.link.Place.{Place}
use Rattle.pool.specs.declared.damage.Damage.{Damage}
use Rattle.pool.proofs.Local.{recorded_length}
use Rattle.route.specs.Answers.{refusal_number}
use Rattle.route.proofs.Laws.{never_zero}
use Rattle.route.specs.declared.answer.Refusal.{Refusal}
use Rattle.route.specs.declared.answer.Refusal.TheVariants as why
use Rattle.pool.proofs.Laid.{Laid}
use Rattle.promise.specs.Trees.{tree}
use Rattle.promise.specs.Table.{Table}
use Rattle.verdict.specs.Own.{TestedRight}
use Rattle.may.specs.May.{Tells, MayRight, TellsGuarded}
use Rattle.promise.proofs.Promises.{meant_one, meant_none}
use Rattle.verdict.proofs.Lent.{own_sound, sound_own}
use Rattle.search.specs.Find.{Spot, is_at, Spotted, Finds}
use Rattle.search.proofs.Spots.{means_spotted, spotted_present}

module _ {P : Type 0} (T : Table P) where
  -- ---- a refusal, and a call that goes on

  pub no_unsound : (call : Call P) (ws : List ℕ) (d : Damage) → asks T.rules call ≡ true → TestedRight T ws (Err d)
      → MayRight T call ws (Err why.NotSound)
  no_unsound call ws d a h = (λ m k. ap (number T.rules call) (meant_none T ws h m k) ∙ unsound_gives_9 T.rules call a, never_zero why.NotSound)

  no_sound : (call : Call P) (ws : List ℕ) (s : State P) (x : Refusal) → T.Means ws s → number T.rules call (some s) ≡ refusal_number x
      → MayRight T call ws (Err x)
  no_sound call ws s x m e = (λ y k. ap (number T.rules call) (meant_one T ws s m y k) ∙ e, never_zero x)

  -- ---- the lines of each call

  module _ (ws : List ℕ) (s : State P) (m : T.Means ws s) where
    pub add_no_1 : (r : Route P) → well_formed T.rules.width r.prefix ≡ false → MayRight T (add r) ws (Err why.BadPrefix)
    add_no_1 r a = no_sound (add r) ws s why.BadPrefix m (rw (a))

    pub add_no_2 : (r : Route P) → well_formed T.rules.width r.prefix ≡ true → T.rules.may_hold r.prefix ≡ false → MayRight T (add r) ws (Err why.BadPrefix)
    add_no_2 r a b = no_sound (add r) ws s why.BadPrefix m (rw (a, b))

    module _ (r : Route P) (formed : well_formed T.rules.width r.prefix ≡ true) (holdable : T.rules.may_hold r.prefix ≡ true) where
      pub add_no_3 : T.rules.good_hop r.prefix r.payload ≡ false → MayRight T (add r) ws (Err why.BadHop)
      add_no_3 a = no_sound (add r) ws s why.BadHop m (rw (formed, holdable, a))

      pub add_no_4 : T.rules.good_hop r.prefix r.payload ≡ true → T.rules.good_metric r.payload ≡ false → MayRight T (add r) ws (Err why.BadMetric)
      add_no_4 a b = no_sound (add r) ws s why.BadMetric m (rw (formed, holdable, a, b))

      module _ (good : T.rules.good_hop r.prefix r.payload ≡ true) (measured : T.rules.good_metric r.payload ≡ true) where
        pub add_no_5 : Tells T ws (λ s. holds r.prefix s.routes) true → MayRight T (add r) ws (Err why.AlreadyThere)
        add_no_5 a = no_sound (add r) ws s why.AlreadyThere m (rw (formed, holdable, good, measured, sym (a s m)))

        pub add_no_6 : Tells T ws (λ s. holds r.prefix s.routes) false → Tells T ws (trial_full T.rules) true → MayRight T (add r) ws (Err why.TrialFull)
        add_no_6 a b = no_sound (add r) ws s why.TrialFull m (rw (formed, holdable, good, measured, sym (a s m), sym (b s m)))

        pub add_no_7 : Tells T ws (λ s. holds r.prefix s.routes) false → Tells T ws (trial_full T.rules) false → Tells T ws full true
            → MayRight T (add r) ws (Err why.TableFull)
        add_no_7 a b d = no_sound (add r) ws s why.TableFull m (rw (formed, holdable, good, measured, sym (a s m), sym (b s m), sym (d s m)))

        pub add_goes : (c : ℕ) → s.capacity ≡ c → Tells T ws (λ s. holds r.prefix s.routes) false → Tells T ws (trial_full T.rules) false
            → Tells T ws full false → MayRight T (add r) ws (Ok c)
        add_goes c k a b d = (s, m, k, rw (formed, holdable, good, measured, sym (a s m), sym (b s m), sym (d s m)))

    pub delete_no_1 : (h : Hand) (p : Prefix) → well_formed T.rules.width p ≡ false → MayRight T (delete h p) ws (Err why.BadPrefix)
    delete_no_1 h p a = no_sound (delete h p) ws s why.BadPrefix m (rw (a))

    module _ (h : Hand) (p : Prefix) (formed : well_formed T.rules.width p ≡ true) where
      pub delete_no_2 : Tells T ws (λ s. holds p s.routes) false → MayRight T (delete h p) ws (Err why.NotThere)
      delete_no_2 a = no_sound (delete h p) ws s why.NotThere m (rw (formed, sym (a s m)))

      module _ (held : Tells T ws (λ s. holds p s.routes) true) where
        pub delete_no_3 : Tells T ws (λ s. guarded T.rules h (find p s.routes)) true → MayRight T (delete h p) ws (Err why.RouteIsFixed)
        delete_no_3 a = no_sound (delete h p) ws s why.RouteIsFixed m (rw (formed, sym (held s m), sym (a s m)))

        pub delete_no_4 : Tells T ws (λ s. guarded T.rules h (find p s.routes)) false → Tells T ws (trial_full T.rules) true
            → MayRight T (delete h p) ws (Err why.TrialFull)
        delete_no_4 a b = no_sound (delete h p) ws s why.TrialFull m (rw (formed, sym (held s m), sym (a s m), sym (b s m)))

        pub delete_goes : (c : ℕ) → s.capacity ≡ c → Tells T ws (λ s. guarded T.rules h (find p s.routes)) false → Tells T ws (trial_full T.rules) false
            → MayRight T (delete h p) ws (Ok c)
        delete_goes c k a b = (s, m, k, rw (formed, sym (held s m), sym (a s m), sym (b s m)))

    pub change_no_1 : (r : Route P) → well_formed T.rules.width r.prefix ≡ false → MayRight T (change r) ws (Err why.BadPrefix)
    change_no_1 r a = no_sound (change r) ws s why.BadPrefix m (rw (a))

    module _ (r : Route P) (formed : well_formed T.rules.width r.prefix ≡ true) where
      pub change_no_2 : T.rules.good_hop r.prefix r.payload ≡ false → MayRight T (change r) ws (Err why.BadHop)
      change_no_2 a = no_sound (change r) ws s why.BadHop m (rw (formed, a))

      pub change_no_3 : T.rules.good_hop r.prefix r.payload ≡ true → T.rules.good_metric r.payload ≡ false → MayRight T (change r) ws (Err why.BadMetric)
      change_no_3 a b = no_sound (change r) ws s why.BadMetric m (rw (formed, a, b))

      module _ (good : T.rules.good_hop r.prefix r.payload ≡ true) (measured : T.rules.good_metric r.payload ≡ true) where
        pub change_no_4 : Tells T ws (λ s. holds r.prefix s.routes) false → MayRight T (change r) ws (Err why.NotThere)
        change_no_4 a = no_sound (change r) ws s why.NotThere m (rw (formed, good, measured, sym (a s m)))

        module _ (held : Tells T ws (λ s. holds r.prefix s.routes) true) where
          pub change_no_5 : Tells T ws (λ s. guarded T.rules (T.rules.hand r.payload) (find r.prefix s.routes)) true
              → MayRight T (change r) ws (Err why.RouteIsFixed)
          change_no_5 a = no_sound (change r) ws s why.RouteIsFixed m (rw (formed, good, measured, sym (held s m), sym (a s m)))

          pub change_no_6 : Tells T ws (λ s. guarded T.rules (T.rules.hand r.payload) (find r.prefix s.routes)) false → Tells T ws (trial_full T.rules) true
              → MayRight T (change r) ws (Err why.TrialFull)
          change_no_6 a b = no_sound (change r) ws s why.TrialFull m (rw (formed, good, measured, sym (held s m), sym (a s m), sym (b s m)))

          pub change_goes : (c : ℕ) → s.capacity ≡ c → Tells T ws (λ s. guarded T.rules (T.rules.hand r.payload) (find r.prefix s.routes)) false
              → Tells T ws (trial_full T.rules) false → MayRight T (change r) ws (Ok c)
          change_goes c k a b = (s, m, k, rw (formed, good, measured, sym (held s m), sym (a s m), sym (b s m)))

    pub open_no_1 : Tells T ws (λ s. is_open s.trial) true → MayRight T open_trial ws (Err why.TrialIsOpen)
    open_no_1 a = no_sound open_trial ws s why.TrialIsOpen m (rw (sym (a s m)))

    pub open_goes : (c : ℕ) → s.capacity ≡ c → Tells T ws (λ s. is_open s.trial) false → MayRight T open_trial ws (Ok c)
    open_goes c k a = (s, m, k, rw (sym (a s m)))

    -- back out has the same lines as keep, so these two say it of both
    pub keep_no_1 : Tells T ws (λ s. is_open s.trial) false → MayRight T keep ws (Err why.NoTrial)
    keep_no_1 a = no_sound keep ws s why.NoTrial m (rw (sym (a s m)))

    pub keep_goes : (c : ℕ) → s.capacity ≡ c → Tells T ws (λ s. is_open s.trial) true → MayRight T keep ws (Ok c)
    keep_goes c k a = (s, m, k, rw (sym (a s m)))

    pub step_no_1 : Tells T ws (λ s. is_open s.trial) false → MayRight T step_back ws (Err why.NoTrial)
    step_no_1 a = no_sound step_back ws s why.NoTrial m (rw (sym (a s m)))

    pub step_no_2 : Tells T ws (λ s. is_open s.trial) true → Tells T ws (λ s. eqb (length (changes s.trial)) 0) true
        → MayRight T step_back ws (Err why.NothingStanding)
    step_no_2 a b = no_sound step_back ws s why.NothingStanding m (rw (sym (a s m), sym (b s m)))

    pub step_goes : (c : ℕ) → s.capacity ≡ c → Tells T ws (λ s. is_open s.trial) true → Tells T ws (λ s. eqb (length (changes s.trial)) 0) false
        → MayRight T step_back ws (Ok c)
    step_goes c k a b = (s, m, k, rw (sym (a s m), sym (b s m)))

module _ {P : Type 0} (L : Layout P) where
  -- ---- the head of a sound pool

  trial_word : (ws : List ℕ) (s : State P) → Means L ws s → (t : Trial P) → s.trial ≡ t → TrialThere L s.capacity ws t
  trial_word ws s m t is = subst (TrialThere L s.capacity ws) is m.trial_there

  stands_word : (ws : List ℕ) (s : State P) → Means L ws s → (t : Trial P) → s.trial ≡ t → standing_in ws ≡ length (changes t)
  stands_word ws s m closed is = (trial_word ws s m closed is).1
  stands_word ws s m (opened cs) is = sym (recorded_length L s.capacity ws ws (standing_in ws) cs (trial_word ws s m (opened cs) is).1)

  pub tells_open : (ws : List ℕ) → Tells (tree L) ws (λ s. is_open s.trial) (eqb (word ws 3) 1)
  tells_open ws s m = go s.trial refl
    where
      go : (t : Trial P) → s.trial ≡ t → eqb (word ws 3) 1 ≡ is_open s.trial
      go closed is = ap (λ (n : ℕ). eqb n 1) (trial_word ws s m closed is).0 ∙ sym (ap is_open is)
      go (opened cs) is = ap (λ (n : ℕ). eqb n 1) (trial_word ws s m (opened cs) is).0 ∙ sym (ap is_open is)

  pub tells_standing : (ws : List ℕ) (k : ℕ) → Tells (tree L) ws (λ s. eqb (length (changes s.trial)) k) (eqb (word ws 4) k)
  tells_standing ws k s m = ap (λ (n : ℕ). eqb n k) (stands_word ws s m s.trial refl)

  -- no change stands without a trial, so the most that may stand only in one
  pub tells_trial_full : 1 ≤ L.rules.standing → (ws : List ℕ) → Tells (tree L) ws (trial_full L.rules) (eqb (word ws 4) L.rules.standing)
  tells_trial_full some-may ws s m = tells_standing ws L.rules.standing s m ∙ go s.trial
    where
      go : (t : Trial P) → eqb (length (changes t)) L.rules.standing ≡ (is_open t && eqb (length (changes t)) L.rules.standing)
      go closed = ne_eqb 0 L.rules.standing (λ e. omega (arith, some-may, e))
      go (opened cs) = refl

  pub tells_full : (ws : List ℕ) → Tells (tree L) ws full (eqb (word ws 1) (word ws 0))
  tells_full ws s m = λ i. eqb (m.count_there i) (m.capacity_there i)

module _ {P : Type 0} (L : Layout P) (laid : Laid L) where
  -- whether a prefix is held, from what the search finds in the pool's own words
  pub tells_holds : (ws : List ℕ) (c n : ℕ) → (s : State P) × Means L ws s × (s.capacity ≡ c) → n ≡ size L c → (p : Prefix) (x : Spot) (b : Bool) → Finds L c (take n ws) p x
      → b ≡ is_at x → Tells (tree L) ws (λ s. holds p s.routes) b
  tells_holds ws c n v e p x b f is s m =
      let o = sound_own L ws c v in
      let ci : s.capacity ≡ c = sym m.capacity_there ∙ o.2 in
      is ∙ spotted_present L (take n ws) _ x (find p s.routes) (means_spotted L c (take n ws) p x f s ((own_sound L laid ws c n o e s ci).1 m) ci)

  -- whether its route is guarded, in the pool and in its own words
  pub tells_guarded : (ws : List ℕ) (c n : ℕ) → (s : State P) × Means L ws s × (s.capacity ≡ c) → n ≡ size L c → (h : Hand) (p : Prefix) (b : Bool) → TellsGuarded L c (take n ws) h p b
      → Tells (tree L) ws (λ s. guarded L.rules h (find p s.routes)) b
  tells_guarded ws c n v e h p b f s m =
      let o = sound_own L ws c v in
      let ci : s.capacity ≡ c = sym m.capacity_there ∙ o.2 in
      f s ((own_sound L laid ws c n o e s ci).1 m) ci

-- by what the search found: the payload in that place, or none
module _ {P : Type 0} (L : Layout P) (c : ℕ) (ws : List ℕ) (h : Hand) (p : Prefix) where
  spotted_at : (i : Place) (places : List ℕ) (o : Option (Route P)) → Spotted L ws places (Ok (Some i)) o → guards (L.rules.hand (held_payload L ws i.0)) h ≡ guarded L.rules h o
  spotted_at i places none f = absurd f
  spotted_at i places (some r) f = ap (λ (x : Route P). guards (L.rules.hand x.payload) h) f.1

  spotted_not : (x : Spot) (places : List ℕ) (o : Option (Route P)) → is_at x ≡ false → Spotted L ws places x o → false ≡ guarded L.rules h o
  spotted_not (Ok (Some i)) places o e f = absurd (true≢false e)
  spotted_not (Ok None) places none e f = refl
  spotted_not (Ok None) places (some r) e f = absurd f
  spotted_not (Err d) places o e f = absurd f

  pub guarded_at : (i : Place) (b : Bool) → Finds L c ws p (Ok (Some i)) → b ≡ guards (L.rules.hand (held_payload L ws i.0)) h → TellsGuarded L c ws h p b
  guarded_at i b f e s m ci = e ∙ spotted_at i _ (find p s.routes) (means_spotted L c ws p (Ok (Some i)) f s m ci)

  pub guarded_not : (x : Spot) → Finds L c ws p x → is_at x ≡ false → TellsGuarded L c ws h p false
  guarded_not x f e s m ci = spotted_not x (routes_used m.tree) (find p s.routes) e (means_spotted L c ws p x f s m ci)

  pub guarded_absent : Finds L c ws p (Ok None) → TellsGuarded L c ws h p false
  guarded_absent f = guarded_not (Ok None) f refl

  pub guarded_damaged : {d : Damage} → Finds L c ws p (Err d) → TellsGuarded L c ws h p false
  guarded_damaged {d = d} f = guarded_not (Err d) f refl
