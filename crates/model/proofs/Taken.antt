-- What is known where one of the three changes is accepted: its lines, each read once.
use mathlib.Core.Path.{◌≡◌}
use mathlib.Core.Bool.{true, false, not}
use mathlib.Core.Option.{none, some}
use borrow.Author.Tests.{not-false}
use Rattle.model.specs.Prefix.{Prefix, well_formed}
use Rattle.model.specs.Routes.{Route, find}
use Rattle.model.specs.State.{Hand, Rules, good_payload, State, full}
use Rattle.model.specs.Lawful.{Obeys}
use Rattle.model.specs.Call.{add, delete, change, accepted, trial_full}
use Rattle.model.proofs.Tests.{both, and_both}
use Rattle.model.proofs.Routes.{there, absent}
use Rattle.model.proofs.Numbers.{accepted_quiet}

module _ {P : Type 0} (R : Rules P) (s : State P) where
  -- neither 4 nor 16
  payload_good : (r : Route P) → not (R.good_hop r.prefix r.payload) ≡ false → not (R.good_metric r.payload) ≡ false → good_payload R r.prefix r.payload ≡ true
  payload_good r a b = and_both (not-false (R.good_hop r.prefix r.payload) a) (not-false (R.good_metric r.payload) b)

  pub record AddTaken (r : Route P) : Type 0 where
    pub obeys : Obeys R r.prefix r.payload
    pub absent : find r.prefix s.routes ≡ none
    pub few : trial_full R s ≡ false
    pub room : full s ≡ false

  pub add_taken : (r : Route P) → accepted R (add r) (some s) ≡ true → AddTaken r
  add_taken r t =
      let q = accepted_quiet R (add r) (some s) t in
      let may = both (well_formed R.width r.prefix) (R.may_hold r.prefix) (not-false _ q.1.0) in record {
        obeys = (may.0, may.1, payload_good r q.1.1.0 q.1.1.1.0);
        absent = absent r.prefix s.routes q.1.1.1.1.0;
        few = q.1.1.1.1.1.0;
        room = q.1.1.1.1.1.1.0;
      }

  pub record DeleteTaken (p : Prefix) : Type 0 where
    pub route : Route P
    pub there : find p s.routes ≡ some route
    pub few : trial_full R s ≡ false

  pub delete_taken : (h : Hand) (p : Prefix) → accepted R (delete h p) (some s) ≡ true → DeleteTaken p
  delete_taken h p t =
      let q = accepted_quiet R (delete h p) (some s) t in
      let f = there p s.routes (not-false _ q.1.1.0) in
      record { route = f.0; there = f.1; few = q.1.1.1.1.0 }

  pub record ChangeTaken (r : Route P) : Type 0 where
    pub good : good_payload R r.prefix r.payload ≡ true
    pub route : Route P
    pub there : find r.prefix s.routes ≡ some route
    pub few : trial_full R s ≡ false

  pub change_taken : (r : Route P) → accepted R (change r) (some s) ≡ true → ChangeTaken r
  change_taken r t =
      let q = accepted_quiet R (change r) (some s) t in
      let f = there r.prefix s.routes (not-false _ q.1.1.1.1.0) in
      record { good = payload_good r q.1.1.0 q.1.1.1.0; route = f.0; there = f.1; few = q.1.1.1.1.1.1.0 }
