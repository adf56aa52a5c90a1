-- The words say a state, whether or not its changes can be taken back: what an edit starts from and ends in. With a lawful state it is a meaning.
use Prim.Native.Nat.{ℕ, ◌≤◌, ◌<◌}
use mathlib.Core.Path.{◌≡◌, sym, subst, ◌∙◌}
use mathlib.Core.List.{List}
use native.Mathlib.Nat.{le_trans}
use native.Mathlib.Omega.{arith}
use lib.ListN.{length}
use Rattle.model.specs.Routes.{Route}
use Rattle.model.specs.State.{Trial, closed, opened, State, changes}
use Rattle.model.specs.Lawful.{Lawful}
use Rattle.model.specs.Call.{with_trial}
use Rattle.patricia.specs.Good.{RootGood}
use Rattle.patricia.specs.Tree.{Root, root_routes}
use Rattle.patricia.proofs.Form.{root_obeys_good, root_good_obeys}
use Rattle.pool.specs.Layout.{word, Layout, standing_in, kind_at, mark_at}
use Rattle.pool.specs.Holds.{Seat, bare_root, HoldsRoot}
use Rattle.pool.specs.Means.{Recorded, TrialThere, Among, routes_used, inners_used, Means}
use Rattle.pool.proofs.Local.{SlotSame, recorded_frame, recorded_length}
use Rattle.edit.specs.Encodes.{Encodes}

module _ {P : Type 0} (L : Layout P) where
  pub means_encodes : (ws : List ℕ) (s : State P) → Means L ws s → Encodes L ws s
  means_encodes ws s m = record {
    tree = m.tree;
    long_enough = m.long_enough;
    capacity_there = m.capacity_there;
    count_there = m.count_there;
    trial_there = m.trial_there;
    holds = m.holds;
    good = root_obeys_good L.rules.width (bare_root m.tree) m.obeys;
    routes_there = m.routes_there;
    route_places_used = m.route_places_used;
    inner_places_used = m.inner_places_used;
  }

  pub encodes_means : (ws : List ℕ) (s : State P) → Encodes L ws s → Lawful L.rules s → Means L ws s
  encodes_means ws s e l = record {
    tree = e.tree;
    long_enough = e.long_enough;
    lawful = l;
    capacity_there = e.capacity_there;
    count_there = e.count_there;
    trial_there = e.trial_there;
    holds = e.holds;
    obeys = root_good_obeys L.rules.width (bare_root e.tree) e.good;
    routes_there = e.routes_there;
    route_places_used = e.route_places_used;
    inner_places_used = e.inner_places_used;
  }

  -- What an edit of the tree leaves of the rest: as many words, the capacity, the trial and its changes.
  pub record Aside (c : ℕ) (ws zs : List ℕ) : Type 0 where
    pub long : length zs ≡ length ws
    pub capacity : word ws 0 ≡ word zs 0
    pub trial : word ws 3 ≡ word zs 3
    pub standing : word ws 4 ≡ word zs 4
    pub slots : (k : ℕ) → k < L.rules.standing → SlotSame L c ws zs k

  trial_aside : (c : ℕ) (ws zs : List ℕ) (t : Trial P) → length (changes t) ≤ L.rules.standing → Aside c ws zs → TrialThere L c ws t → TrialThere L c zs t
  trial_aside c ws zs closed l a h = (sym a.trial ∙ h.0, sym a.standing ∙ h.1)
  trial_aside c ws zs (opened cs) l a h =
      let n = recorded_length L c ws zs (standing_in ws) cs h.1 in
      let m : standing_in ws ≤ L.rules.standing = omega (arith, n) in
      (sym a.trial ∙ h.0, subst (λ (x : ℕ). Recorded L c zs x cs) a.standing (recorded_frame L c ws zs (standing_in ws) cs (λ k g. a.slots k (le_trans g m)) h.1))

  -- another tree in the same pool: the state with its routes
  pub encodes_edit : (ws zs : List ℕ) (s : State P) (l : List (Route P)) (t : Root ℕ (Seat P)) → Encodes L ws s → length (changes s.trial) ≤ L.rules.standing
      → Aside s.capacity ws zs
      → word zs 1 ≡ length l → HoldsRoot L s.capacity zs (word zs 2) t → RootGood L.rules.width (bare_root t) → root_routes (bare_root t) ≡ l
      → ((i : ℕ) → i < s.capacity → 1 ≤ kind_at L zs i → Among i (routes_used t)) → ((j : ℕ) → j < s.capacity → 1 ≤ mark_at L s.capacity zs j → Among j (inners_used t))
      → Encodes L zs (with_trial s l s.trial)
  encodes_edit ws zs s l t e f a n h g r u v = record {
    tree = t;
    long_enough = le_trans e.long_enough (omega (arith, a.long));
    capacity_there = sym a.capacity ∙ e.capacity_there;
    count_there = n;
    trial_there = trial_aside s.capacity ws zs s.trial f a e.trial_there;
    holds = h;
    good = g;
    routes_there = r;
    route_places_used = u;
    inner_places_used = v;
  }
