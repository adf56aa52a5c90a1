-- From an accepted call to the state that the words mean after it.
use Prim.Native.Nat.{ℕ, ◌≤◌, ◌<◌}
use mathlib.Core.Path.{◌≡◌, refl, sym, ap, subst, ◌∙◌}
use mathlib.Core.Bool.{true, false, cond}
use mathlib.Core.List.{List, [], ◌∷◌}
use mathlib.Core.Option.{Option, some}
use native.Mathlib.Omega.{arith}
use Rattle.std.specs.Prelude.{Some, Ok}
use borrow.Author.Tests.{eqb-false}
use lib.Dec.{eqb}
use lib.ListN.{length}
use Rattle.model.specs.Prefix.{Prefix}
use Rattle.model.specs.Routes.{Route, find, insert, remove, replace}
use Rattle.model.specs.State.{Hand, State, Change, added, deleted, changed, Trial, closed, opened, changes, record_in}
use Rattle.model.specs.Call.{Call, add, delete, change, open_trial, keep, due, accepted, trial_full, done, next, with_trial, change_to, delete_from, change_at}
use Rattle.model.proofs.Numbers.{Quiet, accepted_quiet}
use Rattle.model.proofs.Lawful.{LawfulMeaning, next_lawful}
use Rattle.model.proofs.Taken.{AddTaken, add_taken, DeleteTaken, delete_taken, ChangeTaken, change_taken}
use Rattle.model.proofs.Routes.{find_held}
use Rattle.pool.specs.Layout.{Layout, trial_in, standing_in, held_payload}
use Rattle.pool.specs.declared.link.Place.{Place}
use Rattle.pool.specs.Means.{Means, TrialThere, routes_used}
use Rattle.pool.proofs.Local.{recorded_length}
use Rattle.search.specs.Find.{Spot, Spotted, Finds}
use Rattle.search.proofs.Spots.{means_spotted}
use Rattle.edit.specs.Encodes.{Encodes, ToPut, ToTake}
use Rattle.edit.proofs.Encodes.{means_encodes, encodes_means}
use Rattle.pool.specs.Write.{writes}
use Rattle.pool.proofs.Laid.{Laid}
use Rattle.rows.specs.Writes.{record_writes, head_writes}
use Rattle.edit.proofs.Trials.{Says, says_added, says_deleted, says_changed, record_encodes, open_encodes, close_encodes}
use Rattle.apply.specs.Does.{Accepts}
use Rattle.apply.specs.Noted.{Noted}

module _ {P : Type 0} (L : Layout P) where
  -- ---- an accepted call

  -- what the model makes of the state
  pub next_done : (c : ℕ) (call : Call P) (ws : List ℕ) (s : State P) → Accepts L c call ws s → next L.rules call (some s) ≡ done call (some s)
  next_done c call ws s a = ap (λ (n : ℕ). cond (eqb n 0) (done call (some s)) (some s)) a.number_is

  -- words that say the model's next state mean it: it is lawful
  pub does_of : (c : ℕ) (call : Call P) (ws zs : List ℕ) (s t : State P) → Accepts L c call ws s → done call (some s) ≡ some t → Encodes L zs t
      → (t : State P) × (next L.rules call (some s) ≡ some t) × Means L zs t
  does_of c call ws zs s t a e k =
      let is : next L.rules call (some s) ≡ some t = next_done c call ws s a ∙ e in
      (t, is, encodes_means L zs t k (subst (LawfulMeaning L.rules) is (next_lawful L.rules call (some s) a.means.lawful)))

  -- none of its lines holds
  pub accepts : (c : ℕ) (call : Call P) (ws : List ℕ) (s : State P) → Accepts L c call ws s → accepted L.rules call (some s) ≡ true
  accepts c call ws s a = ap (λ (n : ℕ). eqb n 0) a.number_is

  pub lines : (c : ℕ) (call : Call P) (ws : List ℕ) (s : State P) → Accepts L c call ws s → Quiet (due L.rules call (some s))
  lines c call ws s a = accepted_quiet L.rules call (some s) (accepts c call ws s a)

  -- ---- the hop that a prefix has

  -- what the search found of a prefix that is there
  pub found_there : (c : ℕ) (ws : List ℕ) (p : Prefix) (x : Spot) → Finds L c ws p x → (s : State P) → Means L ws s → s.capacity ≡ c → (r : Route P) → find p s.routes ≡ some r
      → (places : List ℕ) × Spotted L ws places x (some r)
  found_there c ws p x f s m ci r is = (routes_used m.tree, subst (Spotted L ws (routes_used m.tree) x) is (means_spotted L c ws p x f s m ci))

  pub payload_there : (c : ℕ) (ws : List ℕ) (p : Prefix) (i : Place) → Finds L c ws p (Ok (Some i)) → (s : State P) → Means L ws s → s.capacity ≡ c → (r : Route P)
      → find p s.routes ≡ some r
      → held_payload L ws i.0 ≡ r.payload
  payload_there c ws p i f s m ci r is = ap (λ (x : Route P). x.payload) (found_there c ws p (Ok (Some i)) f s m ci r is).1.1

  -- ---- a change recorded

  -- a trial that isn't full has a free slot
  pub slot_free : (ws : List ℕ) (s : State P) → Encodes L ws s → length (changes s.trial) ≤ L.rules.standing → trial_full L.rules s ≡ false → trial_in ws ≡ 1
      → standing_in ws < L.rules.standing
  slot_free ws s e few f one = go s.trial refl
    where
      go : (t : Trial P) → s.trial ≡ t → standing_in ws < L.rules.standing
      go closed is = let h : TrialThere L s.capacity ws closed = subst (TrialThere L s.capacity ws) is e.trial_there in absurd (omega (arith, h.0, one))
      go (opened cs) is =
          let h : TrialThere L s.capacity ws (opened cs) = subst (TrialThere L s.capacity ws) is e.trial_there in
          let n = recorded_length L s.capacity ws ws (standing_in ws) cs h.1 in
          let k : length cs ≤ L.rules.standing = subst (λ (t : Trial P). length (changes t) ≤ L.rules.standing) is few in
          let g : eqb (length cs) L.rules.standing ≡ false = rw is at f in
          omega (arith, n, k, eqb-false (length cs) L.rules.standing g)

module _ {P : Type 0} (L : Layout P) (laid : Laid L) where
  -- what is noted is recorded, if a trial is open
  pub noted_encodes : (c action : ℕ) (p : Prefix) (old new : P) (x : Change P) (ws zs : List ℕ) (s : State P) → Says L laid action p old new x → Encodes L ws s → s.capacity ≡ c
      → length (changes s.trial) ≤ L.rules.standing → trial_full L.rules s ≡ false → Noted L c action p old new ws zs
      → Encodes L zs (with_trial s s.routes (record_in s.trial x))
  noted_encodes c action p old new x ws zs s says e ci few f k = go s.trial refl
    where
      go : (t : Trial P) → s.trial ≡ t → Encodes L zs (with_trial s s.routes (record_in s.trial x))
      go closed is =
          let h : TrialThere L s.capacity ws closed = subst (TrialThere L s.capacity ws) is e.trial_there in
          let same = k.without (λ one. let z : ◌≡◌ {A = ℕ} 0 1 = sym h.0 ∙ one in absurd (omega (arith, z))) in
          subst (λ (y : List ℕ). Encodes L y (with_trial s s.routes (record_in s.trial x))) (sym same)
          (subst (λ (t : Trial P). Encodes L ws (with_trial s s.routes t)) (is ∙ sym (ap (λ (t : Trial P). record_in t x) is)) e)
      go (opened cs) is =
          let h : TrialThere L s.capacity ws (opened cs) = subst (TrialThere L s.capacity ws) is e.trial_there in
          let kk : length cs ≤ L.rules.standing = subst (λ (t : Trial P). length (changes t) ≤ L.rules.standing) is few in
          let g : eqb (length cs) L.rules.standing ≡ false = rw is at f in
          let room : length cs < L.rules.standing = omega (arith, kk, eqb-false (length cs) L.rules.standing g) in
          let r = record_encodes L laid ws s e cs is room action p old new x says in
          subst (λ (t : Trial P). Encodes L zs (with_trial s s.routes t)) (sym (ap (λ (t : Trial P). record_in t x) is))
          (subst (λ (y : List ℕ). Encodes L y (with_trial s s.routes (opened (x ∷ cs))))
          (sym (k.in_trial h.0 ∙ ap (λ (n : ℕ). writes (record_writes L n (standing_in ws) action p old new) ws) (sym ci))) r)

  -- ---- add

  module _ (c : ℕ) (r : Route P) (ws : List ℕ) (s : State P) (a : Accepts L c (add r) ws s) where
    taken_add : AddTaken L.rules s r
    taken_add = add_taken L.rules s r (accepts L c (add r) ws s a)

    pub add_to_put : ToPut L c ws r s
    add_to_put = record {
      encodes = means_encodes L ws s a.means;
      capacity_is = a.capacity_is;
      few = a.means.lawful.few;
      formed = taken_add.obeys.0;
      absent = taken_add.absent;
      room = omega (arith, a.means.lawful.no_more, eqb-false (length s.routes) s.capacity taken_add.room);
    }

    pub add_slot : (ys : List ℕ) → Encodes L ys (with_trial s (insert r s.routes) s.trial) → trial_in ys ≡ 1 → standing_in ys < L.rules.standing
    add_slot ys e = slot_free L ys (with_trial s (insert r s.routes) s.trial) e a.means.lawful.few taken_add.few

    pub add_does : (ys zs : List ℕ) → Encodes L ys (with_trial s (insert r s.routes) s.trial) → Noted L c 1 r.prefix r.payload r.payload ys zs
        → (t : State P) × (next L.rules (add r) (some s) ≡ some t) × Means L zs t
    add_does ys zs e n =
        does_of L c (add r) ws zs s (change_to s (insert r s.routes) (added r)) a refl
        (noted_encodes c 1 r.prefix r.payload r.payload (added r) ys zs (with_trial s (insert r s.routes) s.trial) (says_added L laid r.prefix r.payload r.payload) e
        a.capacity_is a.means.lawful.few taken_add.few n)

  -- ---- delete

  module _ (c : ℕ) (h : Hand) (p : Prefix) (ws : List ℕ) (s : State P) (a : Accepts L c (delete h p) ws s) where
    gone : DeleteTaken L.rules s p
    gone = delete_taken L.rules s h p (accepts L c (delete h p) ws s a)

    pub delete_to_take : ToTake L c ws p s
    delete_to_take = record { encodes = means_encodes L ws s a.means; capacity_is = a.capacity_is; few = a.means.lawful.few; route = gone.route; there = gone.there }

    pub delete_slot : (ys : List ℕ) → Encodes L ys (with_trial s (remove p s.routes) s.trial) → trial_in ys ≡ 1 → standing_in ys < L.rules.standing
    delete_slot ys e = slot_free L ys (with_trial s (remove p s.routes) s.trial) e a.means.lawful.few gone.few

    pub delete_does : (ys zs : List ℕ) (old : P) → ((r : Route P) → find p s.routes ≡ some r → old ≡ r.payload) → Encodes L ys (with_trial s (remove p s.routes) s.trial)
        → Noted L c 2 p old old ys zs
        → (t : State P) × (next L.rules (delete h p) (some s) ≡ some t) × Means L zs t
    delete_does ys zs old held e n =
        let r = gone.route in
        let same : old ≡ r.payload = held r gone.there in
        let w : r.prefix ≡ p = (find_held p r s.routes gone.there).1 in
        let x : deleted (record { prefix = p; payload = old }) ≡ deleted r = λ i. deleted (record { prefix = sym w i; payload = same i }) in
        does_of L c (delete h p) ws zs s (change_to s (remove p s.routes) (deleted r)) a (ap (λ (o : Option (Route P)). some (delete_from p s o)) gone.there)
        (noted_encodes c 2 p old old (deleted r) ys zs (with_trial s (remove p s.routes) s.trial) (subst (Says L laid 2 p old old) x (says_deleted L laid p old old)) e
        a.capacity_is a.means.lawful.few gone.few n)

  -- ---- change

  module _ (c : ℕ) (r : Route P) (ws : List ℕ) (s : State P) (a : Accepts L c (change r) ws s) where
    was : ChangeTaken L.rules s r
    was = change_taken L.rules s r (accepts L c (change r) ws s a)

    pub change_to_take : ToTake L c ws r.prefix s
    change_to_take = record { encodes = means_encodes L ws s a.means; capacity_is = a.capacity_is; few = a.means.lawful.few; route = was.route; there = was.there }

    pub change_slot : (ys : List ℕ) → Encodes L ys (with_trial s (replace r s.routes) s.trial) → trial_in ys ≡ 1 → standing_in ys < L.rules.standing
    change_slot ys e = slot_free L ys (with_trial s (replace r s.routes) s.trial) e a.means.lawful.few was.few

    pub change_does : (ys zs : List ℕ) (old : P) → ((o : Route P) → find r.prefix s.routes ≡ some o → old ≡ o.payload)
        → Encodes L ys (with_trial s (replace r s.routes) s.trial)
        → Noted L c 3 r.prefix old r.payload ys zs → (t : State P) × (next L.rules (change r) (some s) ≡ some t) × Means L zs t
    change_does ys zs old held e n =
        let h : old ≡ was.route.payload = held was.route was.there in
        let x : changed r.prefix old r.payload ≡ changed r.prefix was.route.payload r.payload = ap (λ (o : P). changed r.prefix o r.payload) h in
        let y = changed r.prefix was.route.payload r.payload in
        does_of L c (change r) ws zs s (change_to s (replace r s.routes) y) a (ap (λ (o : Option (Route P)). some (change_at r s o)) was.there)
        (noted_encodes c 3 r.prefix old r.payload y ys zs (with_trial s (replace r s.routes) s.trial)
        (subst (Says L laid 3 r.prefix old r.payload) x (says_changed L laid r.prefix old r.payload)) e
        a.capacity_is a.means.lawful.few was.few n)

  -- ---- a trial opened, and kept

  pub open_does : (c : ℕ) (ws zs : List ℕ) (s : State P) → Accepts L c open_trial ws s → zs ≡ writes (head_writes 1 0) ws
      → (t : State P) × (next L.rules open_trial (some s) ≡ some t) × Means L zs t
  open_does c ws zs s a e =
      let t = with_trial s s.routes (opened []) in
      does_of L c open_trial ws zs s t a refl (subst (λ (y : List ℕ). Encodes L y t) (sym e) (open_encodes L laid ws s (means_encodes L ws s a.means)))

  pub keep_does : (c : ℕ) (ws zs : List ℕ) (s : State P) → Accepts L c keep ws s → zs ≡ writes (head_writes 0 0) ws
      → (t : State P) × (next L.rules keep (some s) ≡ some t) × Means L zs t
  keep_does c ws zs s a e =
      let t = with_trial s s.routes closed in
      does_of L c keep ws zs s t a refl (subst (λ (y : List ℕ). Encodes L y t) (sym e) (close_encodes L laid ws s (means_encodes L ws s a.means)))
