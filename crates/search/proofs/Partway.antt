-- The way down: what is known partway, what a step does to it, and what is known at a leaf.
use Prim.Native.Nat.{ℕ, suc, ◌+◌, ◌≤◌, ◌<◌}
use mathlib.Core.Path.{◌≡◌, refl, sym, ap, subst, ◌∙◌}
use mathlib.Core.List.{List, [], ◌∷◌}
use mathlib.Core.Logic.{⊎_elim}
use native.Mathlib.Nat.{suc_inj}
use native.Mathlib.Omega.{arith}
use lib.ListN.{length, get_or, set}
use lib.Seq.{get_or-set_same, get_or-set_other}
use Rattle.std.specs.Prelude.{Some, None, Ok, Err}
use Rattle.bits.specs.Address.{bit}
use Rattle.bits.proofs.Cases.{eq_or_ne}
use Rattle.patricia.specs.Good.{Good}
use Rattle.patricia.specs.Tree.{leaf, node}
use Rattle.patricia.specs.Way.{toward, depth, Step, went_left, went_right, plug, Follows}
use Rattle.patricia.proofs.Form.{side}
use Rattle.pool.specs.Layout.{Layout, root_in, mark_at, left_at, right_at}
use Rattle.pool.specs.Link.{to_route, to_inner}
use Rattle.pool.specs.Holds.{Seat, Seated, bare, Holds}
use Rattle.pool.specs.declared.damage.Damage.{Damage}
use Rattle.pool.proofs.Unique.{not_nothing}
use Rattle.search.specs.Seen.{Starts, SeenRight}
use Rattle.search.specs.Down.{AllUsable, Kept, Led, Usable, Ways}
use Rattle.search.specs.declared.descent.Seen.TheVariants.{Leaf, Inner}
use Rattle.search.proofs.Bare.{bare_grows, depth_plug, bare_depth}

module _ {P : Type 0} (L : Layout P) where
  -- ---- the array of places

  kept_set : (inner : List ℕ) (n v : ℕ) (w : List (Step ℕ (Seat P))) → length w ≤ n → Kept inner w → Kept (set inner n v) w
  kept_set inner n v [] h k = k
  kept_set inner n v (went_left j b r ∷ w) h k =
      (get_or-set_other inner n (length w) v 0 (λ e. omega arith) ∙ k.0, kept_set inner n v w (omega arith) k.1)
  kept_set inner n v (went_right j b r ∷ w) h k =
      (get_or-set_other inner n (length w) v 0 (λ e. omega arith) ∙ k.0, kept_set inner n v w (omega arith) k.1)

  pub usable_more : (c : ℕ) (ws inner : List ℕ) (n j b lowest link : ℕ) → AllUsable L c ws inner n → n < length inner
      → SeenRight L c ws link lowest (Ok (Inner (record { 0 = j }) b))
      → AllUsable L c ws (set inner n j) (n + 1)
  usable_more c ws inner n j b lowest link u h s k l = ⊎_elim here there (eq_or_ne k n)
    where
      new : Usable L c ws j
      new = let m : mark_at L c ws j ≡ suc b = s.2 in let v : b < L.rules.width = s.4 in record { in_pool = s.0; marked = omega arith; within = omega arith }

      here : k ≡ n → Usable L c ws (get_or (set inner n j) k 0)
      here e = subst (Usable L c ws) (sym (ap (λ (x : ℕ). get_or (set inner n j) x 0) e ∙ get_or-set_same inner n j 0 h)) new

      there : (k ≡ n → ⊥) → Usable L c ws (get_or (set inner n j) k 0)
      there f = subst (Usable L c ws) (sym (get_or-set_other inner n k j 0 f)) (u k (omega arith))

  -- ---- partway

  pub record Partway (c : ℕ) (ws : List ℕ) (d : ℕ) (inner : List ℕ) (deep link lowest : ℕ) (t : Seated P) : Type 0 where
    pub way : List (Step ℕ (Seat P))
    pub part : Seated P
    pub whole : plug way part ≡ t
    pub follows : Follows L.rules.width d way
    pub steps : deep ≡ length way
    pub places : Kept inner way
    pub there : Holds L c ws link part
    pub good : Good L.rules.width (bare part)
    pub later : Starts lowest part

  -- whatever good tree the words hold, the link is partway down it
  abbrev pub AllPartway : ℕ → List ℕ → ℕ → List ℕ → ℕ → ℕ → ℕ → Type 0
  AllPartway c ws d inner deep link lowest = (t : Seated P) → Holds L c ws (root_in ws) t → Good L.rules.width (bare t) → Partway c ws d inner deep link lowest t

  pub starts_zero : (t : Seated P) → Starts 0 t
  starts_zero (leaf a es) = tt
  starts_zero (node j b l r) = omega arith

  pub at_root_lem : (c : ℕ) (ws : List ℕ) (d : ℕ) (inner : List ℕ) → AllPartway c ws d inner 0 (root_in ws) 0
  at_root_lem c ws d inner t h g =
      record { way = []; part = t; whole = refl; follows = tt; steps = refl; places = tt; there = h; good = g; later = starts_zero t }

  -- a step down
  pub step_down : (c : ℕ) (ws : List ℕ) (d : ℕ) (inner : List ℕ) (deep link lowest j b next : ℕ) → AllPartway c ws d inner deep link lowest
      → deep < length inner
      → SeenRight L c ws link lowest (Ok (Inner (record { 0 = j }) b)) → next ≡ toward (bit L.rules.width b d) (left_at L c ws j) (right_at L c ws j)
      → AllPartway c ws d (set inner deep j) (deep + 1) next (b + 1)
  step_down c ws d inner deep link lowest j b next all room s n t h g = let p = all t h g in go p.part p.whole p.there p.good
    where
      p : Partway c ws d inner deep link lowest t
      p = all t h g

      kept : (i : ℕ) → i ≡ j → (get_or (set inner deep j) (length p.way) 0 ≡ i) × Kept (set inner deep j) p.way
      kept i e =
          let l = p.steps in
          (ap (λ (x : ℕ). get_or (set inner deep j) x 0) (sym l) ∙ get_or-set_same inner deep j 0 room ∙ sym e, kept_set inner deep j p.way (omega arith) p.places)

      go : (x : Seated P) → plug p.way x ≡ t → Holds L c ws link x → Good L.rules.width (bare x) → Partway c ws d (set inner deep j) (deep + 1) next (b + 1) t
      go (leaf a []) w k q = absurd k
      go (leaf a (e ∷ es)) w k q = let u : link ≡ to_route e.payload.place = k.0 in let v : link ≡ to_inner j = s.1 in absurd (omega arith)
      go (node i e l r) w k q = ⊎_elim left right (side L.rules.width e d)
        where
          ij : i ≡ j
          ij = let u : link ≡ to_inner i = k.0 in let v : link ≡ to_inner j = s.1 in omega arith

          eb : e ≡ b
          eb = suc_inj (sym k.2 ∙ ap (mark_at L c ws) ij ∙ s.2)

          took : (n : ℕ) → bit L.rules.width e d ≡ n → next ≡ toward n (left_at L c ws i) (right_at L c ws i)
          took m z = subst (λ (x : ℕ). next ≡ toward m (left_at L c ws x) (right_at L c ws x)) (sym ij)
              (subst (λ (x : ℕ). next ≡ toward x (left_at L c ws j) (right_at L c ws j)) (ap (λ (x : ℕ). bit L.rules.width x d) (sym eb) ∙ z) n)

          left : bit L.rules.width e d ≡ 0 → Partway c ws d (set inner deep j) (deep + 1) next (b + 1) t
          left z = record {
            way = went_left i e r ∷ p.way;
            part = l;
            whole = w;
            follows = (z, p.follows);
            steps = omega (arith, p.steps);
            places = kept i ij;
            there = subst (λ (x : ℕ). Holds L c ws x l) (sym (took 0 z)) k.3;
            good = q.1;
            later = subst (λ (x : ℕ). Starts (x + 1) l) eb (bare_grows e l q.0.grows_left);
          }

          right : bit L.rules.width e d ≡ 1 → Partway c ws d (set inner deep j) (deep + 1) next (b + 1) t
          right z = record {
            way = went_right i e l ∷ p.way;
            part = r;
            whole = w;
            follows = (z, p.follows);
            steps = omega (arith, p.steps);
            places = kept i ij;
            there = subst (λ (x : ℕ). Holds L c ws x r) (sym (took 1 z)) k.4;
            good = q.2;
            later = subst (λ (x : ℕ). Starts (x + 1) r) eb (bare_grows e r q.0.grows_right);
          }

  -- at a leaf
  at_leaf : (c : ℕ) (ws : List ℕ) (d : ℕ) (inner : List ℕ) (deep link lowest i : ℕ) → AllPartway c ws d inner deep link lowest → link ≡ to_route i
      → (t : Seated P)
      → Holds L c ws (root_in ws) t → Good L.rules.width (bare t) → Led L c ws d inner deep (Ok (Some (record { 0 = i }))) t
  at_leaf c ws d inner deep link lowest i all s t h g = go p.part p.whole p.there
    where
      p : Partway c ws d inner deep link lowest t
      p = all t h g

      go : (x : Seated P) → plug p.way x ≡ t → Holds L c ws link x → Led L c ws d inner deep (Ok (Some (record { 0 = i }))) t
      go (leaf a []) w k = absurd k
      go (leaf a (e ∷ es)) w k =
          let u : link ≡ to_route e.payload.place = k.0 in
          let same : i ≡ e.payload.place = omega arith in
          record {
            way = p.way;
            address = a;
            entry = e;
            rest = es;
            whole = w;
            follows = p.follows;
            steps = p.steps;
            deep = omega (arith, p.steps, bare_depth L.rules.width d t, ap (depth L.rules.width d) w, depth_plug L.rules.width d p.way (leaf a (e ∷ es)) p.follows);
            places = p.places;
            ends = ap (λ (x : ℕ). Ok (Some (record { 0 = x }))) same;
            hangs = (refl, k.1, k.2);
          }
      go (node j b l r) w k = let u : link ≡ to_inner j = k.0 in absurd (omega arith)

  -- ---- the three ends

  pub ways_leaf : (c : ℕ) (ws : List ℕ) (d : ℕ) (inner : List ℕ) (deep link lowest i : ℕ) → deep ≤ L.rules.width → AllUsable L c ws inner deep
      → AllPartway c ws d inner deep link lowest → (root_in ws ≡ 0 → ⊥) → SeenRight L c ws link lowest (Ok (Leaf (record { 0 = i })))
      → Ways L c ws d inner deep (Ok (Some (record { 0 = i })))
  ways_leaf c ws d inner deep link lowest i h u all n s = record {
    shallow = h;
    usable = u;
    end_in_pool = s.0;
    empty = λ e. absurd (n e);
    leads = at_leaf c ws d inner deep link lowest i all s.1;
  }

  pub ways_damaged : (c : ℕ) (ws : List ℕ) (d : ℕ) (inner : List ℕ) (deep link lowest : ℕ) {x : Damage} → deep ≤ L.rules.width → AllUsable L c ws inner deep
      → AllPartway c ws d inner deep link lowest → (root_in ws ≡ 0 → ⊥) → SeenRight L c ws link lowest (Err x) → Ways L c ws d inner deep (Err x)
  ways_damaged c ws d inner deep link lowest h u all n s = record {
    shallow = h;
    usable = u;
    end_in_pool = tt;
    empty = λ e. absurd (n e);
    leads = λ t k g. let p = all t k g in absurd (s p.part p.there p.good p.later);
  }

  pub ways_empty : (c : ℕ) (ws : List ℕ) (d : ℕ) (inner : List ℕ) → root_in ws ≡ 0 → Ways L c ws d inner 0 (Ok None)
  ways_empty c ws d inner e = record {
    shallow = omega arith;
    usable = λ k l. absurd (omega arith);
    end_in_pool = tt;
    empty = λ z. refl;
    leads = λ t h g. absurd (not_nothing L c ws (root_in ws) t h e);
  }
