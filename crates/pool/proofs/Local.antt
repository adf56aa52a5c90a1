-- "Words past that size are never read": a pool's meaning depends on its own words alone.
use Prim.Native.Nat.{ℕ, zero, suc, ◌+◌, ◌≤◌, ◌<◌}
use mathlib.Core.Path.{◌≡◌, sym, ap, subst, ◌∙◌}
use mathlib.Core.List.{List, [], ◌∷◌}
use mathlib.Core.Logic.{◌↔◌}
use mathlib.Core.Option.{none, some}
use native.Mathlib.Nat.{le_trans, le_of_eq, le_refl}
use native.Mathlib.Omega.{arith}
use lib.ListN.{length, take}
use lib.Seq.{get_or-take, length-take-le}
use Rattle.model.specs.State.{Change, added, deleted, changed, Trial, closed, opened, State, changes}
use Rattle.patricia.specs.Tree.{Root}
use Rattle.pool.specs.Layout.{word, Layout, size, action_at, changed_at, old_at, new_at, standing_in}
use Rattle.pool.specs.Holds.{Seat, HoldsRoot}
use Rattle.pool.specs.Means.{PayloadThere, Records, Recorded, TrialThere, Means}
use Rattle.pool.proofs.Laid.{Agree, Laid, payload_fits, prefix_fits, changed_fits, old_fits, head_in, seat_in, joint_in}
use Rattle.pool.proofs.Frame.{RouteSame, InnerSame, holds_frame, routes_in_pool, inners_in_pool}

-- the first n words agree
abbrev pub SameTo : ℕ → List ℕ → List ℕ → Type 0
SameTo n ws zs = (i : ℕ) → i < n → word ws i ≡ word zs i

module _ {P : Type 0} (L : Layout P) where
  -- what is read in slot k agrees
  pub record SlotSame (c : ℕ) (ws zs : List ℕ) (k : ℕ) : Type 0 where
    pub action : action_at L c ws k ≡ action_at L c zs k
    pub prefix : changed_at L c ws k ≡ changed_at L c zs k
    pub old_known : PayloadThere L ws (L.slot c k + L.old_offset) → PayloadThere L zs (L.slot c k + L.old_offset)
    pub old : old_at L c ws k ≡ old_at L c zs k
    pub new_known : PayloadThere L ws (L.slot c k + L.new_offset) → PayloadThere L zs (L.slot c k + L.new_offset)
    pub new : new_at L c ws k ≡ new_at L c zs k

  module _ (c : ℕ) (ws zs : List ℕ) where
    pub records_frame : (k : ℕ) (x : Change P) → SlotSame c ws zs k → Records L c ws k x → Records L c zs k x
    records_frame k (added r) s h = (sym s.action ∙ h.0, sym s.prefix ∙ h.1, s.new_known h.2, sym s.new ∙ h.3)
    records_frame k (deleted r) s h = (sym s.action ∙ h.0, sym s.prefix ∙ h.1, s.old_known h.2, sym s.old ∙ h.3)
    records_frame k (changed p o n) s h =
        (sym s.action ∙ h.0, sym s.prefix ∙ h.1, s.old_known h.2, sym s.old ∙ h.3, s.new_known h.4, sym s.new ∙ h.5)

    pub recorded_frame : (n : ℕ) (xs : List (Change P)) → ((k : ℕ) → k < n → SlotSame c ws zs k) → Recorded L c ws n xs → Recorded L c zs n xs
    recorded_frame n [] f h = h
    recorded_frame zero (x ∷ xs) f h = absurd h
    recorded_frame (suc n) (x ∷ xs) f h = (records_frame n x (f n (le_refl (suc n))) h.0, recorded_frame n xs (λ k l. f k (le_trans l (omega arith))) h.1)

    -- as many changes as slots
    pub recorded_length : (n : ℕ) (xs : List (Change P)) → Recorded L c ws n xs → length xs ≡ n
    recorded_length n [] h = sym h
    recorded_length zero (x ∷ xs) h = absurd h
    recorded_length (suc n) (x ∷ xs) h = ap suc (recorded_length n xs h.1)

    -- where all places agree, the tree stands on
    pub root_frame : ((i : ℕ) → i < c → RouteSame L ws zs i) → ((j : ℕ) → j < c → InnerSame L c ws zs j) → (link : ℕ) (t : Root ℕ (Seat P)) → HoldsRoot L c ws link t
        → HoldsRoot L c zs link t
    root_frame f g link none h = h
    root_frame f g link (some t) h = holds_frame L c ws zs link t (λ i k. f i (routes_in_pool L c ws zs link t h i k)) (λ j k. g j (inners_in_pool L c ws zs link t h j k)) h

module _ {P : Type 0} (L : Layout P) (laid : Laid L) where
  module _ (ws zs : List ℕ) (at : ℕ) (f : Agree laid.payload_words ws zs at) where
    first : word ws at ≡ word zs at
    first = f at (omega arith) (omega (arith, payload_fits laid))

    kind_agree : PayloadThere L ws at → PayloadThere L zs at
    kind_agree k = (subst (λ (n : ℕ). 1 ≤ n) first k.0, laid.known_read ws zs at f k.1)

  module _ (c : ℕ) (ws zs : List ℕ) where
    -- the words of a change agree
    pub slot_agree : (k : ℕ) → Agree laid.slot_words ws zs (L.slot c k) → SlotSame L c ws zs k
    slot_agree k f =
        let a = laid.address_read ws zs (L.slot c k + 1) (λ x l h. f x (omega arith) (omega (arith, changed_fits laid))) in
        let b = f (L.slot c k + 1 + L.address_words) (omega arith) (omega (arith, changed_fits laid)) in
        let old : Agree laid.payload_words ws zs (L.slot c k + L.old_offset) = λ x l h. f x (omega arith) (omega (arith, old_fits laid)) in
        let new : Agree laid.payload_words ws zs (L.slot c k + L.new_offset) = λ x l h. f x (omega arith) (omega (arith, laid.new_fits)) in record {
          action = f (L.slot c k) (omega arith) (omega (arith, changed_fits laid));
          prefix = λ i. record { address = a i; length = b i };
          old_known = kind_agree ws zs (L.slot c k + L.old_offset) old;
          old = laid.payload_read ws zs (L.slot c k + L.old_offset) old;
          new_known = kind_agree ws zs (L.slot c k + L.new_offset) new;
          new = laid.payload_read ws zs (L.slot c k + L.new_offset) new;
        }

    -- the words of a route place agree
    pub route_agree : (i : ℕ) → Agree laid.seat_words ws zs (L.seat i) → RouteSame L ws zs i
    route_agree i f =
        let p : Agree laid.payload_words ws zs (L.seat i) = λ x l h. f x l (omega (arith, payload_fits laid)) in record {
          kind = first ws zs (L.seat i) p;
          known = laid.known_read ws zs (L.seat i) p;
          payload = laid.payload_read ws zs (L.seat i) p;
          address = laid.address_read ws zs (L.seat i + L.prefix_offset) (λ x l h. f x (omega arith) (omega (arith, prefix_fits laid)));
          length = f (L.seat i + L.prefix_offset + L.address_words) (omega arith) (omega (arith, prefix_fits laid));
          next = f (L.seat i + L.next_offset) (omega arith) (omega (arith, laid.next_fits));
        }

    -- and of an inner place
    pub inner_agree : (j : ℕ) → Agree 3 ws zs (L.joint c j) → InnerSame L c ws zs j
    inner_agree j f = record {
      mark = f (L.joint c j) (omega arith) (omega arith);
      left = f (L.joint c j + 1) (omega arith) (omega arith);
      right = f (L.joint c j + 2) (omega arith) (omega arith);
    }

    module _ (f : SameTo (size L c) ws zs) where
      pub route_same : (i : ℕ) → i < c → RouteSame L ws zs i
      route_same i h = route_agree i (λ x a b. f x (omega (arith, seat_in laid c i h)))

      pub inner_same : (j : ℕ) → j < c → InnerSame L c ws zs j
      inner_same j h = inner_agree j (λ x a b. f x (omega (arith, joint_in laid c j h)))

      pub slot_same : (k : ℕ) → k < L.rules.standing → SlotSame L c ws zs k
      slot_same k h = slot_agree k (λ x a b. f x (omega (arith, laid.slot_in c k h)))

      pub head_same : (i : ℕ) → i < 8 → word ws i ≡ word zs i
      head_same i h = f i (omega (arith, head_in laid c))

      trial_frame : (t : Trial P) → length (changes t) ≤ L.rules.standing → TrialThere L c ws t → TrialThere L c zs t
      trial_frame closed l h = (sym (head_same 3 (omega arith)) ∙ h.0, sym (head_same 4 (omega arith)) ∙ h.1)
      trial_frame (opened cs) l h =
          let n = recorded_length L c ws zs (standing_in ws) cs h.1 in
          let m : standing_in ws ≤ L.rules.standing = omega (arith, n) in (
            sym (head_same 3 (omega arith)) ∙ h.0,
            subst (λ (x : ℕ). Recorded L c zs x cs) (head_same 4 (omega arith)) (recorded_frame L c ws zs (standing_in ws) cs (λ k g. slot_same k (le_trans g m)) h.1),
          )

  pub means_frame : (ws zs : List ℕ) (s : State P) → Means L ws s → size L s.capacity ≤ length zs → SameTo (size L s.capacity) ws zs → Means L zs s
  means_frame ws zs s m l f =
      let c = s.capacity in
      let head = head_same c ws zs f in record {
        tree = m.tree;
        long_enough = l;
        lawful = m.lawful;
        capacity_there = sym (head 0 (omega arith)) ∙ m.capacity_there;
        count_there = sym (head 1 (omega arith)) ∙ m.count_there;
        trial_there = trial_frame c ws zs f s.trial m.lawful.few m.trial_there;
        holds = subst (λ (n : ℕ). HoldsRoot L c zs n m.tree) (head 2 (omega arith)) (root_frame L c ws zs (route_same c ws zs f) (inner_same c ws zs f) (word ws 2) m.tree m.holds);
        obeys = m.obeys;
        routes_there = m.routes_there;
        route_places_used = λ i h u. m.route_places_used i h (subst (λ (n : ℕ). 1 ≤ n) (sym (route_same c ws zs f i h).kind) u);
        inner_places_used = λ j h u. m.inner_places_used j h (subst (λ (n : ℕ). 1 ≤ n) (sym (inner_same c ws zs f j h).mark) u);
      }

  -- the pool's own words mean what all the words mean
  pub means_part : (ws : List ℕ) (n : ℕ) (s : State P) → n ≤ length ws → size L s.capacity ≤ n → Means L (take n ws) s ↔ Means L ws s
  means_part ws n s l h =
      let long = length-take-le n ws l in (
        λ m. means_frame (take n ws) ws s m (le_trans h l) (λ i k. get_or-take n ws i 0 (le_trans k h)),
        λ m. means_frame ws (take n ws) s m (le_trans h (le_of_eq (sym long))) (λ i k. sym (get_or-take n ws i 0 (le_trans k h))),
      )
