-- The numbers: each is given exactly when its line holds and no earlier one does, and a call is accepted exactly when no line holds.
use Prim.Native.Nat.{ℕ}
use mathlib.Core.Path.{◌≡◌, refl, sym, ◌∙◌}
use mathlib.Core.Bool.{Bool, true, false, not, cond, ◌&&◌, ◌||◌, or-true, true≢false}
use mathlib.Core.List.{List, [], ◌∷◌}
use mathlib.Core.Logic.{◌⊎◌, inl, inr, ◌↔◌}
use mathlib.Core.Option.{none, some}
use native.Mathlib.Omega.{arith}
use borrow.Author.Tests.{eqb-true, eq-eqb, not-true}
use lib.Dec.{eqb}
use Rattle.model.specs.Prefix.{Prefix, well_formed}
use Rattle.model.specs.Routes.{Route, find, holds}
use Rattle.model.specs.State.{plain, learner, Rules, State, Meaning, full, is_open}
use Rattle.model.specs.Call.{Call, fresh, add, delete, change, lookup, first, after, room, mask, open_trial, keep, back_out, step_back, Line, first_due, due, number, accepted, trial_full}
use Rattle.model.proofs.Tests.{both}

-- ---- "each number is given exactly when its line holds and no earlier one does"

-- n is the number of a line that holds while none before it does, or 0 while none does
abbrev pub GivenBy : ℕ → List Line → Type 0
GivenBy n [] = n ≡ 0
GivenBy n (l ∷ ls) = ((l.1 ≡ true) × (n ≡ l.0)) ⊎ ((l.1 ≡ false) × GivenBy n ls)

pub given_exactly : (n : ℕ) (ls : List Line) → (n ≡ first_due ls) ↔ GivenBy n ls
given_exactly n [] = (λ e. e, λ g. g)
given_exactly n (l ∷ ls) = go l.1 refl (given_exactly n ls)
  where
    back : (b : Bool) → l.1 ≡ b → (GivenBy n ls → n ≡ first_due ls) → GivenBy n (l ∷ ls) → n ≡ cond b l.0 (first_due ls)
    back true t ih (inl g) = g.1
    back true t ih (inr g) = absurd (true≢false (sym t ∙ g.0))
    back false t ih (inl g) = absurd (true≢false (sym g.0 ∙ t))
    back false t ih (inr g) = ih g.1

    go : (b : Bool) → l.1 ≡ b → (n ≡ first_due ls) ↔ GivenBy n ls → (n ≡ first_due (l ∷ ls)) ↔ GivenBy n (l ∷ ls)
    go true t ih = (λ e. inl (t, rw t at e), λ g. rw t (back true t ih.1 g))
    go false t ih = (λ e. inr (t, ih.0 (rw t at e)), λ g. rw t (back false t ih.1 g))

-- ---- an accepted call: no line holds

abbrev pub Quiet : List Line → Type 0
Quiet [] = Unit {0}
Quiet (l ∷ ls) = (l.1 ≡ false) × Quiet ls

-- no line has the number 0, which is what an accepted call answers
abbrev refusals : List Line → Bool
refusals [] = true
refusals (l ∷ ls) = not (eqb l.0 0) && refusals ls

quiet : (ls : List Line) → refusals ls ≡ true → first_due ls ≡ 0 → Quiet ls
quiet [] r e = tt
quiet (l ∷ ls) r e = go l.1 refl (quiet ls w.1)
  where
    w : (not (eqb l.0 0) ≡ true) × (refusals ls ≡ true)
    w = both (not (eqb l.0 0)) (refusals ls) r

    go : (b : Bool) → l.1 ≡ b → (first_due ls ≡ 0 → Quiet ls) → Quiet (l ∷ ls)
    go true t ih = absurd (true≢false (sym (eq-eqb l.0 0 (rw t at e)) ∙ not-true _ w.0))
    go false t ih = (t, ih (rw t at e))

pub loud : (ls : List Line) → Quiet ls → first_due ls ≡ 0
loud [] q = refl
loud (l ∷ ls) q = rw q.0 (loud ls q.1)

module _ {P : Type 0} (R : Rules P) where
  all_refusals : (c : Call P) (m : Meaning P) → refusals (due R c m) ≡ true
  all_refusals (fresh c n) m = refl
  all_refusals (add r) m = refl
  all_refusals (delete h p) m = refl
  all_refusals (change r) m = refl
  all_refusals (lookup d) m = refl
  all_refusals first m = refl
  all_refusals (after p) m = refl
  all_refusals room m = refl
  all_refusals (mask w) m = refl
  all_refusals open_trial m = refl
  all_refusals keep m = refl
  all_refusals back_out m = refl
  all_refusals step_back m = refl

  pub accepted_quiet : (c : Call P) (m : Meaning P) → accepted R c m ≡ true → Quiet (due R c m)
  accepted_quiet c m t = quiet (due R c m) (all_refusals c m) (eqb-true _ _ t)

  -- ---- "16 .. judged after 4", "15 .. judged after 6", each whatever comes after it

  module _ (r : Route P) (s : State P) where
    pub bad_hop_gives_4 : (well_formed R.width r.prefix && R.may_hold r.prefix) ≡ true → R.good_hop r.prefix r.payload ≡ false → number R (add r) (some s) ≡ 4
    bad_hop_gives_4 f b = rw (f, b)

    pub bad_metric_gives_16 : (well_formed R.width r.prefix && R.may_hold r.prefix) ≡ true → R.good_hop r.prefix r.payload ≡ true → R.good_metric r.payload ≡ false
        → number R (add r) (some s) ≡ 16
    bad_metric_gives_16 f g b = rw (f, g, b)

    pub changed_hop_gives_4 : well_formed R.width r.prefix ≡ true → R.good_hop r.prefix r.payload ≡ false → number R (change r) (some s) ≡ 4
    changed_hop_gives_4 f b = rw (f, b)

    pub changed_metric_gives_16 : well_formed R.width r.prefix ≡ true → R.good_hop r.prefix r.payload ≡ true → R.good_metric r.payload ≡ false → number R (change r) (some s) ≡ 16
    changed_metric_gives_16 f g b = rw (f, g, b)

  pub fixed_gives_15 : (p : Prefix) (r : Route P) (s : State P) → well_formed R.width p ≡ true → find p s.routes ≡ some r → R.hand r.payload ≡ plain
      → number R (delete learner p) (some s) ≡ 15
  fixed_gives_15 p r s f e h = rw (f, e, h)

  -- ---- "A duplicate in a full table gives 5", "65 gives 8, also when the table is full": the order of add's lines

  module _ (r : Route P) (s : State P) (may : (well_formed R.width r.prefix && R.may_hold r.prefix) ≡ true) (good : R.good_hop r.prefix r.payload ≡ true)
      (measured : R.good_metric r.payload ≡ true) where
    pub duplicate_gives_5 : holds r.prefix s.routes ≡ true → number R (add r) (some s) ≡ 5
    duplicate_gives_5 h = rw (may, good, measured, h)

    pub standing_gives_8 : holds r.prefix s.routes ≡ false → trial_full R s ≡ true → number R (add r) (some s) ≡ 8
    standing_gives_8 h f = rw (may, good, measured, h, f)

    pub full_gives_7 : holds r.prefix s.routes ≡ false → trial_full R s ≡ false → full s ≡ true → number R (add r) (some s) ≡ 7
    full_gives_7 h f e = rw (may, good, measured, h, f, e)

  -- ---- a pool that is not sound: 9 in every call that asks

  abbrev pub asks : Call P → Bool
  asks (fresh c n) = false
  asks (add r) = true
  asks (delete h p) = true
  asks (change r) = true
  asks (lookup d) = true
  asks first = true
  asks (after p) = true
  asks room = true
  asks (mask w) = false
  asks open_trial = true
  asks keep = true
  asks back_out = true
  asks step_back = true

  pub unsound_gives_9 : (c : Call P) → asks c ≡ true → number R c none ≡ 9
  unsound_gives_9 (fresh c n) t = absurd (true≢false (sym t))
  unsound_gives_9 (add r) t = refl
  unsound_gives_9 (delete h p) t = refl
  unsound_gives_9 (change r) t = refl
  unsound_gives_9 (lookup d) t = refl
  unsound_gives_9 first t = refl
  unsound_gives_9 (after p) t = refl
  unsound_gives_9 room t = refl
  unsound_gives_9 (mask w) t = absurd (true≢false (sym t))
  unsound_gives_9 open_trial t = refl
  unsound_gives_9 keep t = refl
  unsound_gives_9 back_out t = refl
  unsound_gives_9 step_back t = refl

-- ---- a number that is given has a line that holds

abbrev line_of : ℕ → List Line → Bool
line_of n [] = false
line_of n (l ∷ ls) = eqb l.0 n && l.1 || line_of n ls

given_line : (n : ℕ) (ls : List Line) → first_due ls ≡ n → (n ≡ 0 → ⊥) → line_of n ls ≡ true
given_line n [] e z = absurd (z (sym e))
given_line n (l ∷ ls) e z = go l.1 refl (given_line n ls)
  where
    go : (b : Bool) → l.1 ≡ b → (first_due ls ≡ n → (n ≡ 0 → ⊥) → line_of n ls ≡ true) → line_of n (l ∷ ls) ≡ true
    go true t ih = let f : l.0 ≡ n = rw t at e in rw (t, eq-eqb l.0 n f)
    go false t ih = let f : first_due ls ≡ n = rw t at e in rw (t, ih f z) (or-true (eqb l.0 n && false))

module _ {P : Type 0} (R : Rules P) where
  line_of_lem : (c : Call P) (m : Meaning P) → number R c m ≡ 7 → line_of 7 (due R c m) ≡ true
  line_of_lem c m e = given_line 7 (due R c m) e (λ z. omega (arith, z))

  -- 7 is given only where the routes held equal the capacity
  pub seven_full : (c : Call P) (s : State P) → number R c (some s) ≡ 7 → full s ≡ true
  seven_full (fresh c n) s e = absurd (true≢false (sym (line_of_lem (fresh c n) (some s) e)))
  seven_full (add r) s e = or_false (full s) (line_of_lem (add r) (some s) e)
    where
      or_false : (b : Bool) → (b || false) ≡ true → b ≡ true
      or_false true t = refl
      or_false false t = t
  seven_full (delete h p) s e = absurd (true≢false (sym (line_of_lem (delete h p) (some s) e)))
  seven_full (change r) s e = absurd (true≢false (sym (line_of_lem (change r) (some s) e)))
  seven_full (lookup d) s e = absurd (true≢false (sym (line_of_lem (lookup d) (some s) e)))
  seven_full first s e = absurd (true≢false (sym (line_of_lem first (some s) e)))
  seven_full (after p) s e = absurd (true≢false (sym (line_of_lem (after p) (some s) e)))
  seven_full room s e = absurd (true≢false (sym (line_of_lem room (some s) e)))
  seven_full (mask w) s e = absurd (true≢false (sym (line_of_lem (mask w) (some s) e)))
  seven_full open_trial s e = absurd (true≢false (sym (line_of_lem open_trial (some s) e)))
  seven_full keep s e = absurd (true≢false (sym (line_of_lem keep (some s) e)))
  seven_full back_out s e = absurd (true≢false (sym (line_of_lem back_out (some s) e)))
  seven_full step_back s e = absurd (true≢false (sym (line_of_lem step_back (some s) e)))

  -- "Backing out of an open trial is never refused."
  pub back_out_open : (s : State P) → is_open s.trial ≡ true → number R back_out (some s) ≡ 0
  back_out_open s o = rw o
