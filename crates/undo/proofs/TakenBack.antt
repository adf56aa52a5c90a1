-- Changes taken back: the newest one, and all of them one by one.
use Prim.Native.Nat.{ℕ, zero, suc, ◌+◌, ◌-◌, ◌≤◌, ◌<◌}
use mathlib.Core.Path.{◌≡◌, refl, sym, ap, subst, ◌∙◌}
use mathlib.Core.Bool.{true≢false}
use mathlib.Core.List.{List, [], ◌∷◌}
use mathlib.Core.Option.{some}
use native.Mathlib.Omega.{arith}
use borrow.Author.Tests.{ne_eqb}
use lib.ListN.{length}
use Rattle.std.specs.Prelude.{Option, Some, None}
use Rattle.model.specs.Prefix.{Prefix}
use Rattle.model.specs.Routes.{Route, find, insert, remove, replace}
use Rattle.model.specs.State.{Change, added, deleted, changed, Trial, closed, opened, State, changes, undo, undo_all}
use Rattle.model.specs.Call.{back_out, step_back, due, with_trial, stepped_back, next}
use Rattle.model.specs.Lawful.{ChangeObeys, AllChangesObey, CanUndo, Undoable}
use Rattle.model.proofs.Numbers.{Quiet}
use Rattle.model.proofs.Edits.{length_insert}
use Rattle.model.proofs.Routes.{there, absent}
use Rattle.pool.specs.Layout.{word, Layout, standing_in, prefix_at, changed_at, old_at}
use Rattle.pool.specs.Action.{action_word, action_from}
use Rattle.pool.specs.declared.action.Action.{Action}
use Rattle.pool.specs.declared.action.Action.TheVariants.{Added, Deleted, Changed}
use Rattle.pool.specs.Means.{Records, Recorded, TrialThere, Means}
use Rattle.pool.proofs.Local.{recorded_length}
use Rattle.pool.specs.Fit.{Fit}
use Rattle.pool.specs.Write.{writes}
use Rattle.pool.proofs.Laid.{Laid, payload_fits, head_in}
use Rattle.rows.specs.Writes.{head_writes}
use Rattle.edit.specs.Encodes.{Encodes, ToPut, ToTake}
use Rattle.edit.proofs.Encodes.{means_encodes}
use Rattle.edit.proofs.Trials.{strike_encodes, close_encodes}
use Rattle.apply.specs.Does.{Accepts, Accepted, Does}
use Rattle.apply.proofs.Made.{next_done, does_of, lines}

-- a word that is read as an action is that action's
pub word_is : (w : ℕ) (read : Option Action) (y x : Action) → read ≡ action_from w → read ≡ Some y → y ≡ x → w ≡ action_word x
word_is w read y x e f g = go w (sym e ∙ f ∙ ap Some g)
  where
    go : (n : ℕ) → action_from n ≡ Some x → n ≡ action_word x
    go zero h = cc h
    go (suc zero) h = let is : Added ≡ x = cc h in ap action_word is
    go (suc (suc zero)) h = let is : Deleted ≡ x = cc h in ap action_word is
    go (suc (suc (suc zero))) h = let is : Changed ≡ x = cc h in ap action_word is
    go (suc (suc (suc (suc n)))) h = cc h

module _ {P : Type 0} (L : Layout P) where
  -- ---- the newest change

  -- the newest change that stands: where it is recorded, and that it can be taken back
  pub record Newest (c : ℕ) (ws : List ℕ) (s : State P) : Type 0 where
    pub change : Change P
    pub older : List (Change P)
    pub trial_is : s.trial ≡ opened (change ∷ older)
    pub stands : standing_in ws ≡ suc (standing_in ws - 1)
    pub few : standing_in ws ≤ L.rules.standing
    pub records : Records L c ws (standing_in ws - 1) change
    pub can : CanUndo change s.routes
    pub fits : length (undo change s.routes) ≤ s.capacity
    pub obeys : ChangeObeys L.rules change

  -- a state whose trial has a change standing has a newest one
  newest_of : (c : ℕ) (ws : List ℕ) (s : State P) (x : Change P) (cs : List (Change P)) → s.trial ≡ opened (x ∷ cs) → Means L ws s → s.capacity ≡ c → Newest c ws s
  newest_of c ws s x cs e m k =
      let h : TrialThere L s.capacity ws (opened (x ∷ cs)) = subst (TrialThere L s.capacity ws) e m.trial_there in
      let n : suc (length cs) ≡ standing_in ws = recorded_length L s.capacity ws ws (standing_in ws) (x ∷ cs) h.1 in
      let one : standing_in ws ≡ suc (standing_in ws - 1) = omega (arith, n) in
      let l : suc (length cs) ≤ L.rules.standing = rw e at m.lawful.few in
      let u : Undoable s.capacity (x ∷ cs) s.routes = rw e at m.lawful.undoable in
      let b : AllChangesObey L.rules (x ∷ cs) = rw e at m.lawful.recorded in
      let r : Recorded L s.capacity ws (suc (standing_in ws - 1)) (x ∷ cs) = subst (λ (i : ℕ). Recorded L s.capacity ws i (x ∷ cs)) one h.1 in
      record {
        change = x;
        older = cs;
        trial_is = e;
        stands = one;
        few = omega (arith, n, l);
        records = subst (λ (i : ℕ). Records L i ws (standing_in ws - 1) x) k r.0;
        can = u.0;
        fits = u.1;
        obeys = b.0;
      }

  -- step back is accepted only where a change stands
  pub newest : (c : ℕ) (ws : List ℕ) (s : State P) → Accepts L c step_back ws s → Newest c ws s
  newest c ws s a = go s.trial refl (lines L c step_back ws s a)
    where
      go : (t : Trial P) → s.trial ≡ t → Quiet (due L.rules step_back (some s)) → Newest c ws s
      go closed e q = absurd (true≢false (rw e at q.1.0))
      go (opened []) e q = absurd (true≢false (rw e at q.1.1.0))
      go (opened (x ∷ cs)) e q = newest_of c ws s x cs e a.means a.capacity_is

  -- ---- the edit that takes it back

  -- the words say the routes that a step back leaves; the record still stands
  abbrev pub Undone : List ℕ → State P → Type 0
  Undone zs s = Encodes L zs (with_trial s (stepped_back s s.trial).routes s.trial)

  -- those routes, told from the newest change
  undone : (c : ℕ) (ws zs : List ℕ) (s : State P) (n : Newest c ws s) (l : List (Route P)) → undo n.change s.routes ≡ l → Encodes L zs (with_trial s l s.trial) → Undone zs s
  undone c ws zs s n l e h =
      let f : (stepped_back s s.trial).routes ≡ l = ap (λ (t : Trial P). (stepped_back s t).routes) n.trial_is ∙ e in
      subst (λ (k : List (Route P)). Encodes L zs (with_trial s k s.trial)) (sym f) h

  module _ (c : ℕ) (ws : List ℕ) (s : State P) (a : Accepts L c step_back ws s) (at : ℕ) (is : at ≡ L.slot c (standing_in ws - 1)) (p : Prefix) (named : p ≡ prefix_at L ws (at + 1)) where
    -- the action and the prefix that were read are those of the newest slot
    action : (n : ℕ) → word ws (L.slot c (standing_in ws - 1)) ≡ n → word ws at ≡ n
    action n e = ap (word ws) is ∙ e

    prefix : (q : Prefix) → changed_at L c ws (standing_in ws - 1) ≡ q → p ≡ q
    prefix q e = named ∙ ap (λ (i : ℕ). prefix_at L ws (i + 1)) is ∙ e

    -- and the code knows that action
    pub readable : action_from (word ws at) ≡ None → ⊥
    readable none = go (newest c ws s a).change (newest c ws s a).records
      where
        go : (x : Change P) → Records L c ws (standing_in ws - 1) x → ⊥
        go (added r) h = cc (rw (action 1 h.0) at none)
        go (deleted r) h = cc (rw (action 2 h.0) at none)
        go (changed q old new) h = cc (rw (action 3 h.0) at none)

    -- a prefix that the table holds can be taken out
    take_of : (q : Prefix) → p ≡ q → (r : Route P) × (find q s.routes ≡ some r) → ToTake L c ws p s
    take_of q e w = record {
      encodes = means_encodes L ws s a.means;
      capacity_is = a.capacity_is;
      few = a.means.lawful.few;
      route = w.0;
      there = subst (λ (z : Prefix). find z s.routes ≡ some w.0) (sym e) w.1;
    }

    -- an add or a hop change is recorded: its prefix is there
    pub to_take : (word ws at ≡ 2 → ⊥) → ToTake L c ws p s
    to_take other = go (newest c ws s a).change (newest c ws s a).records (newest c ws s a).can
      where
        go : (x : Change P) → Records L c ws (standing_in ws - 1) x → CanUndo x s.routes → ToTake L c ws p s
        go (added r) h u = take_of r.prefix (prefix r.prefix h.1) (there r.prefix s.routes u)
        go (deleted r) h u = absurd (other (action 2 h.0))
        go (changed q old new) h u = take_of q (prefix q h.1) (there q s.routes u)

    -- an add is taken back by taking its route out
    pub add_undone : (zs : List ℕ) → word ws at ≡ 1 → Encodes L zs (with_trial s (remove p s.routes) s.trial) → Undone zs s
    add_undone zs e h = undone c ws zs s (newest c ws s a) (remove p s.routes) (go (newest c ws s a).change (newest c ws s a).records) h
      where
        go : (x : Change P) → Records L c ws (standing_in ws - 1) x → undo x s.routes ≡ remove p s.routes
        go (added r) k = ap (λ (z : Prefix). remove z s.routes) (sym (prefix r.prefix k.1))
        go (deleted r) k = absurd (omega (arith, e, action 2 k.0))
        go (changed q old new) k = absurd (omega (arith, e, action 3 k.0))

    module _ (o : P) (old-is : o ≡ L.payload_at ws (at + L.old_offset)) where
      -- the old hop that was read is that of the newest slot
      hop : (q : P) → old_at L c ws (standing_in ws - 1) ≡ q → o ≡ q
      hop q e = old-is ∙ ap (λ (i : ℕ). L.payload_at ws (i + L.old_offset)) is ∙ e

      -- the route that is put back
      abbrev back : Route P
      back = record { prefix = p; payload = o }

      same_route : (r : Route P) → p ≡ r.prefix → o ≡ r.payload → back ≡ r
      same_route r e f i = record { prefix = e i; payload = f i }

      -- a delete is recorded: its prefix is absent, and there is room
      pub to_put : word ws at ≡ 2 → ToPut L c ws back s
      to_put e = go (newest c ws s a).change (newest c ws s a).records (newest c ws s a).can (newest c ws s a).fits (newest c ws s a).obeys
        where
          go : (x : Change P) → Records L c ws (standing_in ws - 1) x → CanUndo x s.routes → length (undo x s.routes) ≤ s.capacity → ChangeObeys L.rules x → ToPut L c ws back s
          go (added r) k u f b = absurd (omega (arith, e, action 1 k.0))
          go (deleted r) k u f b = subst (λ (z : Route P). ToPut L c ws z s) (sym (same_route r (prefix r.prefix k.1) (hop r.payload k.3))) (record {
            encodes = means_encodes L ws s a.means;
            capacity_is = a.capacity_is;
            few = a.means.lawful.few;
            formed = b.0;
            absent = absent r.prefix s.routes u;
            room = omega (arith, f, length_insert r s.routes);
          })
          go (changed q old new) k u f b = absurd (omega (arith, e, action 3 k.0))

      -- a delete is taken back by putting its route in
      pub delete_undone : (zs : List ℕ) → word ws at ≡ 2 → Encodes L zs (with_trial s (insert back s.routes) s.trial) → Undone zs s
      delete_undone zs e h = undone c ws zs s (newest c ws s a) (insert back s.routes) (go (newest c ws s a).change (newest c ws s a).records) h
        where
          go : (x : Change P) → Records L c ws (standing_in ws - 1) x → undo x s.routes ≡ insert back s.routes
          go (added r) k = absurd (omega (arith, e, action 1 k.0))
          go (deleted r) k = ap (λ (z : Route P). insert z s.routes) (sym (same_route r (prefix r.prefix k.1) (hop r.payload k.3)))
          go (changed q old new) k = absurd (omega (arith, e, action 3 k.0))

      -- a hop change is taken back by the old hop; what is neither an add nor a delete is one
      pub other_undone : (zs : List ℕ) → (word ws at ≡ 1 → ⊥) → (word ws at ≡ 2 → ⊥) → Encodes L zs (with_trial s (replace back s.routes) s.trial) → Undone zs s
      other_undone zs e f h = undone c ws zs s (newest c ws s a) (replace back s.routes) (go (newest c ws s a).change (newest c ws s a).records) h
        where
          go : (x : Change P) → Records L c ws (standing_in ws - 1) x → undo x s.routes ≡ replace back s.routes
          go (added r) k = absurd (e (action 1 k.0))
          go (deleted r) k = absurd (f (action 2 k.0))
          go (changed q old new) k = ap (λ (z : Route P). replace z s.routes) (sym (same_route (record { prefix = q; payload = old }) (prefix q k.1) (hop old k.3)))

      pub change_undone : (zs : List ℕ) → word ws at ≡ 3 → Encodes L zs (with_trial s (replace back s.routes) s.trial) → Undone zs s
      change_undone zs e h = other_undone zs (λ z. omega (arith, e, z)) (λ z. omega (arith, e, z)) h

  -- ---- its record, before and after it is struck

  -- as many changes stand as the trial has
  standing_is : (ws : List ℕ) (s : State P) (cs : List (Change P)) → Encodes L ws s → s.trial ≡ opened cs → length cs ≡ standing_in ws
  standing_is ws s cs e is =
      let h : TrialThere L s.capacity ws (opened cs) = subst (TrialThere L s.capacity ws) is e.trial_there in
      recorded_length L s.capacity ws ws (standing_in ws) cs h.1

  -- the state that a step back leaves: those routes, and the older changes
  stepped_is : (c : ℕ) (ws : List ℕ) (s : State P) (n : Newest c ws s) → with_trial s (stepped_back s s.trial).routes (opened n.older) ≡ stepped_back s s.trial
  stepped_is c ws s n = subst (λ (z : Trial P). with_trial s (stepped_back s z).routes (opened n.older) ≡ stepped_back s z) (sym n.trial_is) refl

  -- ---- all of them, one by one

  -- back out on its way, from a state s: what the present words mean, and that the changes left lead to the same routes
  pub record Going (c : ℕ) (ws : List ℕ) (s : State P) : Type 0 where
    pub state : State P
    pub means : Means L ws state
    pub capacity_is : state.capacity ≡ c
    pub left : List (Change P)
    pub trial_is : state.trial ≡ opened left
    pub same : undo_all left state.routes ≡ undo_all (changes s.trial) s.routes

  -- at first all that stand are left
  pub going_start : (c : ℕ) (ws : List ℕ) (s : State P) → Accepts L c back_out ws s → Going c ws s
  going_start c ws s a = go s.trial refl (lines L c back_out ws s a)
    where
      go : (t : Trial P) → s.trial ≡ t → Quiet (due L.rules back_out (some s)) → Going c ws s
      go closed e q = absurd (true≢false (rw e at q.1.0))
      go (opened cs) e q = record { state = s; means = a.means; capacity_is = a.capacity_is; left = cs; trial_is = e; same = ap (λ (t : Trial P). undo_all (changes t) s.routes) (sym e) }

  -- a step back is accepted while a change stands
  pub going_accepts : (c : ℕ) (ws : List ℕ) (s : State P) → (g : Going c ws s) → (word ws 4 ≡ 0 → ⊥) → Accepts L c step_back ws g.state
  going_accepts c ws s g some_left = go g.left g.trial_is
    where
      go : (cs : List (Change P)) → g.state.trial ≡ opened cs → Accepts L c step_back ws g.state
      go [] e = absurd (some_left (sym (standing_is ws g.state [] (means_encodes L ws g.state g.means) e)))
      go (x ∷ cs) e = record { means = g.means; capacity_is = g.capacity_is; number_is = rw (e, ne_eqb (suc (length cs)) 0 (λ z. omega arith)) }

  -- a step back leaves one change less
  pub record Stepped (c : ℕ) (ws zs : List ℕ) (s : State P) : Type 0 where
    pub going : Going c zs s
    pub less : word zs 4 < word ws 4

  pub going_step : (c : ℕ) (ws zs : List ℕ) (s : State P) → Going c ws s → (word ws 4 ≡ 0 → ⊥) → Does L c step_back ws zs → Stepped c ws zs s
  going_step c ws zs s g some_left f = go g.left g.trial_is g.same
    where
      accepts : Accepts L c step_back ws g.state
      accepts = going_accepts c ws s g some_left

      go : (cs : List (Change P)) → g.state.trial ≡ opened cs → undo_all cs g.state.routes ≡ undo_all (changes s.trial) s.routes → Stepped c ws zs s
      go [] e k = absurd (some_left (sym (standing_is ws g.state [] (means_encodes L ws g.state g.means) e)))
      go (x ∷ cs) e k =
          let d = f g.state accepts in
          let t : State P = with_trial g.state (undo x g.state.routes) (opened cs) in
          let by : some d.0 ≡ some t = sym d.1 ∙ next_done L c step_back ws g.state accepts ∙ ap (λ (z : Trial P). some (stepped_back g.state z)) e in
          let is : d.0 ≡ t = cc by in
          let m : Means L zs t = subst (Means L zs) is d.2 in
          let before = standing_is ws g.state (x ∷ cs) (means_encodes L ws g.state g.means) e in
          let after = standing_is zs t cs (means_encodes L zs t m) refl in
          record {
            going = record { state = t; means = m; capacity_is = g.capacity_is; left = cs; trial_is = refl; same = k };
            less = omega (arith, before, after);
          }

module _ {P : Type 0} (L : Layout P) (laid : Laid L) where
  -- its slot is in the pool, as far as the hop after: what is read of it ends before that
  pub slot_fits : (c : ℕ) (ws : List ℕ) (at : ℕ) → Fit L c ws → Accepted L c step_back ws → at ≡ L.slot c (standing_in ws - 1) → at + L.new_offset < length ws
  slot_fits c ws at f a is =
      let n = newest L c ws a.0 a.1 in
      omega (arith, f.1, laid.slot_in c (standing_in ws - 1) (omega (arith, n.few, n.stands)), laid.new_fits, payload_fits laid)

  -- ---- its record struck

  -- a change still stands after it was undone in the table
  pub strike_may : (c : ℕ) (ws ys : List ℕ) → Accepted L c step_back ws → ((s : State P) → Accepts L c step_back ws s → Undone L ys s) → (4 < length ys) × (1 ≤ standing_in ys)
  strike_may c ws ys a f =
      let n = newest L c ws a.0 a.1 in
      let u = f a.0 a.1 in
      let k : suc (length n.older) ≡ standing_in ys = standing_is L ys (with_trial a.0 (stepped_back a.0 a.0.trial).routes a.0.trial) (n.change ∷ n.older) u n.trial_is in
      (omega (arith, u.long_enough, head_in laid a.0.capacity), omega (arith, k))

  -- undone in the table and struck, the newest change is taken back
  pub step_does : (c : ℕ) (ws ys zs : List ℕ) → ((s : State P) → Accepts L c step_back ws s → Undone L ys s) → zs ≡ writes ((4, standing_in ys - 1) ∷ []) ys → Does L c step_back ws zs
  step_does c ws ys zs f e s a =
      let n = newest L c ws s a in
      let t : State P = with_trial s (stepped_back s s.trial).routes s.trial in
      let k : suc (length n.older) ≡ standing_in ys = standing_is L ys t (n.change ∷ n.older) (f s a) n.trial_is in
      let few : suc (length n.older) ≤ L.rules.standing = rw n.trial_is at a.means.lawful.few in
      let struck = strike_encodes L laid ys t n.change n.older (standing_in ys - 1) (f s a) n.trial_is (omega (arith, k)) (omega (arith, k, few)) in
      let there : Encodes L zs (stepped_back s s.trial) =
      subst (λ (l : List ℕ). Encodes L l (stepped_back s s.trial)) (sym e) (subst (Encodes L (writes ((4, standing_in ys - 1) ∷ []) ys)) (stepped_is L c ws s n) struck) in
      does_of L c step_back ws zs s (stepped_back s s.trial) a refl there

  -- ---- the trial closed

  -- when none is left the trial is closed
  pub going_does : (c : ℕ) (ws ys zs : List ℕ) → ((s : State P) → Accepts L c back_out ws s → Going L c ys s) → word ys 4 ≡ 0 → zs ≡ writes (head_writes 0 0) ys
      → Does L c back_out ws zs
  going_does c ws ys zs f none_left e s a = go (f s a).left (f s a).trial_is (f s a).same
    where
      go : (cs : List (Change P)) → (f s a).state.trial ≡ opened cs → undo_all cs (f s a).state.routes ≡ undo_all (changes s.trial) s.routes
          → (z : State P) × (next L.rules back_out (some s) ≡ some z) × Means L zs z
      go [] is k =
          let u = (f s a).state in
          let v : State P = with_trial s (undo_all (changes s.trial) s.routes) closed in
          let shut = close_encodes L laid ys u (means_encodes L ys u (f s a).means) in
          let same-capacity : u.capacity ≡ s.capacity = (f s a).capacity_is ∙ sym a.capacity_is in
          let same : with_trial u u.routes closed ≡ v = λ i. record { capacity = same-capacity i; routes = k i; trial = closed } in
          let there : Encodes L zs v = subst (λ (l : List ℕ). Encodes L l v) (sym e) (subst (Encodes L (writes (head_writes 0 0) ys)) same shut) in
          does_of L c back_out ws zs s v a refl there
      go (x ∷ cs) is k =
          let m = standing_is L ys (f s a).state (x ∷ cs) (means_encodes L ys (f s a).state (f s a).means) is in
          absurd (omega (arith, m, none_left))
