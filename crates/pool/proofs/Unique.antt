-- The words mean at most one thing: one tree at a link, one list of changes, one state.
use Prim.Native.Nat.{ℕ, zero, suc}
use mathlib.Core.Path.{◌≡◌, refl, sym, ap, ap₂, subst, ◌∙◌}
use mathlib.Core.List.{List, [], ◌∷◌}
use mathlib.Core.Option.{none, some}
use native.Mathlib.Nat.{suc_inj}
use native.Mathlib.Omega.{arith}
use Rattle.model.specs.Routes.{Route}
use Rattle.model.specs.State.{Change, added, deleted, changed, Trial, closed, opened, State}
use Rattle.patricia.specs.Tree.{Entry, leaf, node, Root, root_routes}
use Rattle.pool.specs.Layout.{word, Layout, standing_in, held_prefix, held_payload, next_at, mark_at, left_at, right_at}
use Rattle.pool.specs.Link.{to_route, to_inner}
use Rattle.pool.specs.Holds.{Seat, Seated, bare_root, InPlace, Chain, Holds, HoldsRoot}
use Rattle.pool.specs.Means.{Records, Recorded, TrialThere, Means}

module _ {P : Type 0} (L : Layout P) where
  module _ (c : ℕ) (ws : List ℕ) where
    -- ---- trees

    -- what a place holds
    entry_unique : (a b : ℕ) (e f : Entry (Seat P)) → InPlace L c ws a e → InPlace L c ws b f → e.payload.place ≡ f.payload.place → e ≡ f
    entry_unique a b e f i k p =
        let n = sym i.length_there ∙ ap (λ (x : ℕ). (held_prefix L ws x).length) p ∙ k.length_there in
        let h = sym i.held_there ∙ ap (λ (x : ℕ). held_payload L ws x) p ∙ k.held_there in
        λ x. record { length = n x; payload = record { place = p x; held = h x } }

    place_same : (link : ℕ) (e f : Entry (Seat P)) → link ≡ to_route e.payload.place → link ≡ to_route f.payload.place → e.payload.place ≡ f.payload.place
    place_same link e f p q = omega arith

    pub chain_unique : (a b link : ℕ) (es fs : List (Entry (Seat P))) → Chain L c ws a link es → Chain L c ws b link fs → es ≡ fs
    chain_unique a b link [] [] h k = refl
    chain_unique a b link [] (f ∷ fs) h k = let w : link ≡ to_route f.payload.place = k.0 in absurd (omega arith)
    chain_unique a b link (e ∷ es) [] h k = let w : link ≡ to_route e.payload.place = h.0 in absurd (omega arith)
    chain_unique a b link (e ∷ es) (f ∷ fs) h k =
        let p = place_same link e f h.0 k.0 in
        let rest : Chain L c ws b (next_at L ws e.payload.place) fs = subst (λ (x : ℕ). Chain L c ws b (next_at L ws x) fs) (sym p) k.2 in
        ap₂ ◌∷◌ (entry_unique a b e f h.1 k.1 p) (chain_unique a b (next_at L ws e.payload.place) es fs h.2 rest)

    address_unique : (a b link : ℕ) (e f : Entry (Seat P)) (es fs : List (Entry (Seat P))) → Chain L c ws a link (e ∷ es) → Chain L c ws b link (f ∷ fs) → a ≡ b
    address_unique a b link e f es fs h k =
        sym h.1.address_there ∙ ap (λ (x : ℕ). (held_prefix L ws x).address) (place_same link e f h.0 k.0) ∙ k.1.address_there

    pub holds_unique : (link : ℕ) (s t : Seated P) → Holds L c ws link s → Holds L c ws link t → s ≡ t
    holds_unique link (leaf a []) t h k = absurd h
    holds_unique link (leaf a (e ∷ es)) (leaf b []) h k = absurd k
    holds_unique link (leaf a (e ∷ es)) (leaf b (f ∷ fs)) h k = ap₂ leaf (address_unique a b link e f es fs h k) (chain_unique a b link (e ∷ es) (f ∷ fs) h k)
    holds_unique link (leaf a (e ∷ es)) (node j b l r) h k =
        let u : link ≡ to_route e.payload.place = h.0 in let v : link ≡ to_inner j = k.0 in absurd (omega arith)
    holds_unique link (node j b l r) (leaf a []) h k = absurd k
    holds_unique link (node j b l r) (leaf a (e ∷ es)) h k =
        let u : link ≡ to_route e.payload.place = k.0 in let v : link ≡ to_inner j = h.0 in absurd (omega arith)
    holds_unique link (node j b l r) (node i d m n) h k =
        let u : link ≡ to_inner j = h.0 in
        let v : link ≡ to_inner i = k.0 in
        let p : j ≡ i = omega arith in
        let q : b ≡ d = suc_inj (sym h.2 ∙ ap (mark_at L c ws) p ∙ k.2) in
        let x = holds_unique (left_at L c ws j) l m h.3 (subst (λ (y : ℕ). Holds L c ws (left_at L c ws y) m) (sym p) k.3) in
        let y = holds_unique (right_at L c ws j) r n h.4 (subst (λ (y : ℕ). Holds L c ws (right_at L c ws y) n) (sym p) k.4) in
        λ z. node (p z) (q z) (x z) (y z)

    pub not_nothing : (link : ℕ) (t : Seated P) → Holds L c ws link t → link ≡ 0 → ⊥
    not_nothing link (leaf a []) h e = h
    not_nothing link (leaf a (x ∷ xs)) h e = let u : link ≡ to_route x.payload.place = h.0 in omega arith
    not_nothing link (node j b l r) h e = let u : link ≡ to_inner j = h.0 in omega arith

    pub root_unique : (link : ℕ) (s t : Root ℕ (Seat P)) → HoldsRoot L c ws link s → HoldsRoot L c ws link t → s ≡ t
    root_unique link none none h k = refl
    root_unique link none (some t) h k = absurd (not_nothing link t k h)
    root_unique link (some s) none h k = absurd (not_nothing link s h k)
    root_unique link (some s) (some t) h k = ap some (holds_unique link s t h k)

    -- ---- changes

    route_same : (r q : Route P) → r.prefix ≡ q.prefix → r.payload ≡ q.payload → r ≡ q
    route_same r q p h = λ i. record { prefix = p i; payload = h i }

    records_unique : (k : ℕ) (x y : Change P) → Records L c ws k x → Records L c ws k y → x ≡ y
    records_unique k (added r) (added q) h w = ap added (route_same r q (sym h.1 ∙ w.1) (sym h.3 ∙ w.3))
    records_unique k (added r) (deleted q) h w = absurd (omega (arith, h.0, w.0))
    records_unique k (added r) (changed p o n) h w = absurd (omega (arith, h.0, w.0))
    records_unique k (deleted r) (added q) h w = absurd (omega (arith, h.0, w.0))
    records_unique k (deleted r) (deleted q) h w = ap deleted (route_same r q (sym h.1 ∙ w.1) (sym h.3 ∙ w.3))
    records_unique k (deleted r) (changed p o n) h w = absurd (omega (arith, h.0, w.0))
    records_unique k (changed p o n) (added q) h w = absurd (omega (arith, h.0, w.0))
    records_unique k (changed p o n) (deleted q) h w = absurd (omega (arith, h.0, w.0))
    records_unique k (changed p o n) (changed q u v) h w =
        let a = sym h.1 ∙ w.1 in let b = sym h.3 ∙ w.3 in let d = sym h.5 ∙ w.5 in
        λ i. changed (a i) (b i) (d i)

    recorded_unique : (n : ℕ) (xs ys : List (Change P)) → Recorded L c ws n xs → Recorded L c ws n ys → xs ≡ ys
    recorded_unique n [] [] h k = refl
    recorded_unique zero [] (y ∷ ys) h k = absurd k
    recorded_unique (suc n) [] (y ∷ ys) h k = absurd (omega (arith, h))
    recorded_unique zero (x ∷ xs) [] h k = absurd h
    recorded_unique (suc n) (x ∷ xs) [] h k = absurd (omega (arith, k))
    recorded_unique zero (x ∷ xs) (y ∷ ys) h k = absurd h
    recorded_unique (suc n) (x ∷ xs) (y ∷ ys) h k = ap₂ ◌∷◌ (records_unique n x y h.0 k.0) (recorded_unique n xs ys h.1 k.1)

    trial_unique : (t u : Trial P) → TrialThere L c ws t → TrialThere L c ws u → t ≡ u
    trial_unique closed closed h k = refl
    trial_unique closed (opened ys) h k = absurd (omega (arith, h.0, k.0))
    trial_unique (opened xs) closed h k = absurd (omega (arith, h.0, k.0))
    trial_unique (opened xs) (opened ys) h k = ap opened (recorded_unique (standing_in ws) xs ys h.1 k.1)

  -- ---- a pool means at most one state

  pub means_unique : (ws : List ℕ) (s t : State P) → Means L ws s → Means L ws t → s ≡ t
  means_unique ws s t m n =
      let p : s.capacity ≡ t.capacity = sym m.capacity_there ∙ n.capacity_there in
      let same = root_unique s.capacity ws (word ws 2) m.tree n.tree m.holds (subst (λ (x : ℕ). HoldsRoot L x ws (word ws 2) n.tree) (sym p) n.holds) in
      let r = sym m.routes_there ∙ ap (λ (x : Root ℕ (Seat P)). root_routes (bare_root x)) same ∙ n.routes_there in
      let u = trial_unique s.capacity ws s.trial t.trial m.trial_there (subst (λ (x : ℕ). TrialThere L x ws t.trial) (sym p) n.trial_there) in
      λ i. record { capacity = p i; routes = r i; trial = u i }
