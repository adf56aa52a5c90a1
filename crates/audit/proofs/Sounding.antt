-- All that is tested, together, is that the pool is sound: both ways.
use Prim.Native.Nat.{ℕ, ◌≤◌}
use mathlib.Core.Path.{◌≡◌, refl, sym, ap, subst, ◌∙◌}
use mathlib.Core.Bool.{Bool, true}
use mathlib.Core.List.{List}
use mathlib.Core.Logic.{◌⊎◌, inl, inr, ◌↔◌}
use native.Mathlib.Nat.{le_of_eq}
use native.Mathlib.Omega.{arith}
use lib.ListN.{length}
use Rattle.bits.proofs.Cases.{eq_or_ne}
use Rattle.model.specs.Routes.{Route}
use Rattle.model.specs.State.{Change, Trial, closed, opened, State, changes}
use Rattle.model.specs.Lawful.{AllObey, AllChangesObey, Undoable}
use Rattle.patricia.specs.Tree.{Root, root_routes}
use Rattle.pool.specs.Layout.{Layout, count_in, root_in, trial_in, standing_in, kind_at, mark_at}
use Rattle.pool.specs.Holds.{Seat, bare_root}
use Rattle.pool.specs.Means.{Recorded, TrialThere, routes_used, inners_used, Means}
use Rattle.pool.proofs.Unique.{root_unique}
use Rattle.pool.specs.Fit.{Fit}
use Rattle.audit.specs.Head.{HeadFine}
use Rattle.shape.specs.Tree.{RootFine}
use Rattle.places.specs.Marks.{tally, is_used}
use Rattle.places.specs.declared.Sort.{Sort}
use Rattle.standing.specs.Changes.{decoded, ChangesFine, Tabled, BackSays}
use Rattle.places.proofs.Tally.{tally_le, passes, passed, has_all, all_there}
use Rattle.pool.proofs.Places.{route_count}
use Rattle.audit.proofs.Places.{routes_picked, inners_picked}
use Rattle.standing.proofs.Recording.{decoded_length, recorded_is, fine_recorded, recorded_fine}
use Rattle.standing.proofs.Turning.{tabled_order}

module _ {P : Type 0} (L : Layout P) where
  -- the words are a sound pool of this capacity
  abbrev pub SoundAt : ℕ → List ℕ → Type 0
  SoundAt c ws = (s : State P) × Means L ws s × (s.capacity ≡ c)

  pub record AuditFine (c : ℕ) (ws : List ℕ) : Type 0 where
    pub head : HeadFine L c ws
    pub tree : Root ℕ (Seat P)
    pub root : RootFine L c ws tree
    pub count : count_in ws ≡ length (routes_used tree)
    pub route_marks : length (routes_used tree) ≡ tally (is_used L c ws Sort.Route) c
    pub inner_marks : length (inners_used tree) ≡ tally (is_used L c ws Sort.Inner) c
    pub changes_fine : ChangesFine L c ws (standing_in ws)
    pub undoable : Undoable c (decoded L c ws (standing_in ws)) (root_routes (bare_root tree))

  module _ (c : ℕ) (ws : List ℕ) where
    tabled : (t : Root ℕ (Seat P)) → RootFine L c ws t → Tabled L c ws (root_routes (bare_root t))
    tabled t f = record { tree = t; holds = f.holds; form = f.form; there = refl }

    -- ---- what is tested is enough

    -- the trial that the words say
    record TrialFine (l : List (Route P)) : Type 0 where
      pub trial : Trial P
      pub there : TrialThere L c ws trial
      pub obey : AllChangesObey L.rules (changes trial)
      pub few : length (changes trial) ≤ L.rules.standing
      pub undoable : Undoable c (changes trial) l

    trial_fine : (f : AuditFine c ws) → TrialFine (root_routes (bare_root f.tree))
    trial_fine f = go (eq_or_ne (trial_in ws) 0)
      where
        h : HeadFine L c ws
        h = f.head

        go : (trial_in ws ≡ 0) ⊎ (trial_in ws ≡ 0 → ⊥) → TrialFine (root_routes (bare_root f.tree))
        go (inl e) = record { trial = closed; there = (e, h.none_standing e); obey = tt; few = omega arith; undoable = tt }
        go (inr e) =
            let w = fine_recorded L c ws (standing_in ws) f.changes_fine in record {
              trial = opened (decoded L c ws (standing_in ws));
              there = (omega (arith, e, h.trial_known), w.0);
              obey = w.1;
              few = omega (arith, decoded_length L c ws (standing_in ws), h.few);
              undoable = f.undoable;
            }

    pub fine_sound : Fit L c ws → AuditFine c ws → SoundAt c ws
    fine_sound fit f =
        let l = root_routes (bare_root f.tree) in
        let t = trial_fine f in
        let rooted = f.root in
        let places = route_count f.tree in (
          record { capacity = c; routes = l; trial = t.trial },
          record {
            tree = f.tree;
            long_enough = le_of_eq (sym fit.1);
            lawful = record {
              at_least_one = f.head.at_least_one;
              in_range = f.head.in_range;
              no_more = omega (arith, places, f.route_marks, tally_le (is_used L c ws Sort.Route) c);
              obeyed = rooted.obey;
              ordered = tabled_order L c ws l (tabled f.tree rooted);
              recorded = t.obey;
              few = t.few;
              undoable = t.undoable;
            };
            capacity_there = f.head.capacity_there;
            count_there = f.count ∙ places;
            trial_there = t.there;
            holds = rooted.holds;
            obeys = rooted.form;
            routes_there = refl;
            route_places_used = λ i h u. has_all (is_used L c ws Sort.Route) c _ (routes_picked L c ws f.tree rooted) f.route_marks i h (passes (kind_at L ws i) (λ e. omega (arith, u, e)));
            inner_places_used = λ j h u. has_all (is_used L c ws Sort.Inner) c _ (inners_picked L c ws f.tree rooted) f.inner_marks j h (passes (mark_at L c ws j) (λ e. omega (arith, u, e)));
          },
          refl,
        )

  -- ---- and a sound pool passes each test

  module _ (ws : List ℕ) (s : State P) (m : Means L ws s) where
    -- what the trial says of the words
    record TrialSays : Type 0 where
      pub known : trial_in ws ≤ 1
      pub few : standing_in ws ≤ L.rules.standing
      pub none_standing : trial_in ws ≡ 0 → standing_in ws ≡ 0
      pub changes_fine : ChangesFine L s.capacity ws (standing_in ws)
      pub undoable : Undoable s.capacity (decoded L s.capacity ws (standing_in ws)) s.routes

    trial_says : (t : Trial P) → TrialThere L s.capacity ws t → AllChangesObey L.rules (changes t) → length (changes t) ≤ L.rules.standing
        → Undoable s.capacity (changes t) s.routes → TrialSays
    trial_says closed h o k u =
        let z : standing_in ws ≡ 0 = h.1 in record {
          known = omega (arith, h.0);
          few = omega arith;
          none_standing = λ e. z;
          changes_fine = λ i q. absurd (omega (arith, q));
          undoable = subst (λ (n : ℕ). Undoable s.capacity (decoded L s.capacity ws n) s.routes) (sym z) tt;
        }
    trial_says (opened cs) h o k u =
        let e = recorded_is L s.capacity ws (standing_in ws) cs h.1 in
        let back = sym e in record {
          known = omega (arith, h.0);
          few = omega (arith, decoded_length L s.capacity ws (standing_in ws), ap length e, k);
          none_standing = λ z. absurd (omega (arith, z, h.0));
          changes_fine = recorded_fine L s.capacity ws (standing_in ws) (subst (Recorded L s.capacity ws (standing_in ws)) back h.1) (subst (AllChangesObey L.rules) back o);
          undoable = subst (λ (x : List (Change P)). Undoable s.capacity x s.routes) back u;
        }

    means_fine : AuditFine s.capacity ws
    means_fine =
        let w = m.lawful in
        let t = trial_says s.trial m.trial_there w.recorded w.few w.undoable in
        let rooted : RootFine L s.capacity ws m.tree = record { holds = m.holds; form = m.obeys; obey = subst (AllObey L.rules) (sym m.routes_there) w.obeyed } in record {
          head = record { at_least_one = w.at_least_one; in_range = w.in_range; capacity_there = m.capacity_there; trial_known = t.known; few = t.few; none_standing = t.none_standing };
          tree = m.tree;
          root = rooted;
          count = m.count_there ∙ ap length (sym m.routes_there) ∙ sym (route_count m.tree);
          route_marks =
              all_there (is_used L s.capacity ws Sort.Route) s.capacity _ (routes_picked L s.capacity ws m.tree rooted)
              (λ i h p. m.route_places_used i h (passed (kind_at L ws i) p));
          inner_marks =
              all_there (is_used L s.capacity ws Sort.Inner) s.capacity _ (inners_picked L s.capacity ws m.tree rooted)
              (λ j h p. m.inner_places_used j h (passed (mark_at L s.capacity ws j) p));
          changes_fine = t.changes_fine;
          undoable = subst (Undoable s.capacity (decoded L s.capacity ws (standing_in ws))) (sym m.routes_there) t.undoable;
        }

  pub sound_fine : (c : ℕ) (ws : List ℕ) → SoundAt c ws → AuditFine c ws
  sound_fine c ws (s, m, e) = subst (λ (x : ℕ). AuditFine x ws) e (means_fine ws s m)

  -- ---- the tests, one after the other

  module _ (c : ℕ) (ws : List ℕ) (n m : ℕ) (x : (t : Root ℕ (Seat P)) × RootFine L c ws t × (n ≡ length (routes_used t)) × (m ≡ length (inners_used t))) where
    -- a sound pool's tree is the one that was found
    pub counts : SoundAt c ws → (count_in ws ≡ n) × (tally (is_used L c ws Sort.Route) c ≡ n) × (tally (is_used L c ws Sort.Inner) c ≡ m)
    counts q =
        let f = sound_fine c ws q in
        let same = root_unique L c ws (root_in ws) f.tree x.0 f.root.holds x.1.holds in
        let routes = ap (λ (t : Root ℕ (Seat P)). length (routes_used t)) same ∙ sym x.2 in
        let inners = ap (λ (t : Root ℕ (Seat P)). length (inners_used t)) same ∙ sym x.3 in
        (f.count ∙ routes, sym f.route_marks ∙ routes, sym f.inner_marks ∙ inners)

    pub decides : Fit L c ws → HeadFine L c ws → count_in ws ≡ n → tally (is_used L c ws Sort.Route) c ≡ n → tally (is_used L c ws Sort.Inner) c ≡ m → ChangesFine L c ws (standing_in ws)
        → (r : Bool) → BackSays L c ws (standing_in ws) n r → (r ≡ true) ↔ SoundAt c ws
    decides fit h p q i k r b =
        let l = root_routes (bare_root x.0) in
        let w = b l (tabled c ws x.0 x.1) (x.2 ∙ route_count x.0) in (
          λ t. fine_sound c ws fit (record {
            head = h;
            tree = x.0;
            root = x.1;
            count = p ∙ x.2;
            route_marks = sym x.2 ∙ sym q;
            inner_marks = sym x.3 ∙ sym i;
            changes_fine = k;
            undoable = w.0 t;
          }),
          λ s. w.1 (same_tree (sound_fine c ws s)),
        )
      where
        same_tree : (f : AuditFine c ws) → Undoable c (decoded L c ws (standing_in ws)) (root_routes (bare_root x.0))
        same_tree f =
            subst (λ (t : Root ℕ (Seat P)). Undoable c (decoded L c ws (standing_in ws)) (root_routes (bare_root t)))
            (root_unique L c ws (root_in ws) f.tree x.0 f.root.holds x.1.holds) f.undoable
