-- Up the way: what stands beside it, and where it is left for a side that it passed by.
use Prim.Native.Nat.{ℕ, suc, ◌-◌, ◌<◌}
use mathlib.Core.Path.{◌≡◌, refl, sym, ap, subst, ◌∙◌}
use mathlib.Core.List.{List, [], ◌∷◌}
use mathlib.Core.Logic.{⊎_elim}
use native.Mathlib.Omega.{arith}
use lib.ListN.{length, get_or}
use Rattle.bits.specs.Address.{bit}
use Rattle.bits.proofs.Cases.{eq_or_ne}
use Rattle.patricia.specs.Good.{Good}
use Rattle.patricia.specs.Tree.{node}
use Rattle.patricia.specs.Way.{Step, went_left, went_right, plug, Follows}
use Rattle.pool.specs.Layout.{Layout, mark_at, left_at, right_at}
use Rattle.pool.specs.Holds.{Seat, Seated, bare, Holds}
use Rattle.search.specs.Down.{Kept}
use Rattle.search.specs.Edge.{Takes}

-- ---- one step

-- the side that it took, and the tree on the other
module _ {P : Type 0} where
  abbrev pub side_of : Step ℕ (Seat P) → ℕ
  side_of (went_left n b r) = 0
  side_of (went_right n b l) = 1

  abbrev pub beside_of : Step ℕ (Seat P) → Seated P
  beside_of (went_left n b r) = r
  beside_of (went_right n b l) = l

  pub kept_tail : (inner : List ℕ) (s : Step ℕ (Seat P)) (w : List (Step ℕ (Seat P))) → Kept inner (s ∷ w) → Kept inner w
  kept_tail inner (went_left n b r) w k = k.1
  kept_tail inner (went_right n b l) w k = k.1

  pub follows_tail : (W d : ℕ) (s : Step ℕ (Seat P)) (w : List (Step ℕ (Seat P))) → Follows W d (s ∷ w) → Follows W d w
  follows_tail W d (went_left n b r) w f = f.1
  follows_tail W d (went_right n b l) w f = f.1

module _ {P : Type 0} (L : Layout P) where
  -- that tree stands in the pool beside the step's place, and is good
  abbrev pub StepHeld : ℕ → List ℕ → Step ℕ (Seat P) → Type 0
  StepHeld c ws (went_left n b r) = (mark_at L c ws n ≡ suc b) × Holds L c ws (right_at L c ws n) r × Good L.rules.width (bare r)
  StepHeld c ws (went_right n b l) = (mark_at L c ws n ≡ suc b) × Holds L c ws (left_at L c ws n) l × Good L.rules.width (bare l)

  -- of every step of a way
  abbrev pub WayHeld : ℕ → List ℕ → List (Step ℕ (Seat P)) → Type 0
  WayHeld c ws [] = Unit {0}
  WayHeld c ws (s ∷ w) = StepHeld c ws s × WayHeld c ws w

  -- ---- a part of a tree that the words hold: the link at which it stands, and what stands beside the way to it

  pub record PartHeld (c : ℕ) (ws : List ℕ) (w : List (Step ℕ (Seat P))) (t : Seated P) : Type 0 where
    pub link : ℕ
    pub there : Holds L c ws link t
    pub good : Good L.rules.width (bare t)
    pub beside : WayHeld c ws w

  pub part_held : (c : ℕ) (ws : List ℕ) (link : ℕ) (w : List (Step ℕ (Seat P))) (t : Seated P) → Holds L c ws link (plug w t)
      → Good L.rules.width (bare (plug w t))
      → PartHeld c ws w t
  part_held c ws link [] t h g = record { link = link; there = h; good = g; beside = tt }
  part_held c ws link (went_left n b r ∷ w) t h g =
      let p = part_held c ws link w (node n b t r) h g in
      record { link = left_at L c ws n; there = p.there.3; good = p.good.1; beside = ((p.there.2, p.there.4, p.good.2), p.beside) }
  part_held c ws link (went_right n b l ∷ w) t h g =
      let p = part_held c ws link w (node n b l t) h g in
      record { link = right_at L c ws n; there = p.there.4; good = p.good.2; beside = ((p.there.2, p.there.3, p.good.1), p.beside) }

  -- ---- up a way

  module _ (c : ℕ) (ws : List ℕ) (d : ℕ) (inner : List ℕ) where
    mark_bit : (n b k x : ℕ) → get_or inner k 0 ≡ n → mark_at L c ws n ≡ suc b → bit L.rules.width b d ≡ x → Takes L c ws d x (get_or inner k 0)
    mark_bit n b k x e m z =
        let h : mark_at L c ws (get_or inner k 0) ≡ suc b = ap (mark_at L c ws) e ∙ m in
        let i : mark_at L c ws (get_or inner k 0) - 1 ≡ b = omega arith in
        ap (λ (y : ℕ). bit L.rules.width y d) i ∙ z

    -- the destination's bit at a step's place in the array is the side that the step took
    at_step : (s : Step ℕ (Seat P)) (w : List (Step ℕ (Seat P))) → Kept inner (s ∷ w) → Follows L.rules.width d (s ∷ w) → StepHeld c ws s
        → Takes L c ws d (side_of s) (get_or inner (length w) 0)
    at_step (went_left n b r) w k f h = mark_bit n b (length w) 0 k.0 h.0 f.0
    at_step (went_right n b l) w k f h = mark_bit n b (length w) 1 k.0 h.0 f.0

    -- F is whatever passes over the steps that did not take side x
    module _ {B : Type 0} (F : List (Step ℕ (Seat P)) → B) (x : ℕ) (pass : (s : Step ℕ (Seat P)) (w : List (Step ℕ (Seat P))) → (side_of s ≡ x → ⊥) → F (s ∷ w) ≡ F w) where
      -- where no level took it, F passes over all
      pub rise_top : (w : List (Step ℕ (Seat P))) → Kept inner w → Follows L.rules.width d w → WayHeld c ws w → ((m : ℕ) → m < length w → Takes L c ws d x (get_or inner m 0) → ⊥)
          → F w ≡ F []
      rise_top [] k f h n = refl
      rise_top (s ∷ w) k f h n =
          pass s w (λ e. n (length w) (omega arith) (subst (λ (y : ℕ). Takes L c ws d y (get_or inner (length w) 0)) e (at_step s w k f h.0)))
          ∙ rise_top w (kept_tail inner s w k) (follows_tail L.rules.width d s w f) h.1 (λ m l. n m (omega arith))

      -- the deepest level that took it: the step there, and the way above
      pub record Risen (w : List (Step ℕ (Seat P))) (level : ℕ) : Type 0 where
        pub step : Step ℕ (Seat P)
        pub above : List (Step ℕ (Seat P))
        pub took : side_of step ≡ x
        pub steps : level ≡ length above
        pub places : Kept inner (step ∷ above)
        pub follows : Follows L.rules.width d (step ∷ above)
        pub beside : WayHeld c ws (step ∷ above)
        pub sum : F w ≡ F (step ∷ above)

      pub rise_at : (w : List (Step ℕ (Seat P))) (level : ℕ) → Kept inner w → Follows L.rules.width d w → WayHeld c ws w → level < length w
          → Takes L c ws d x (get_or inner level 0)
          → ((m : ℕ) → level < m → m < length w → Takes L c ws d x (get_or inner m 0) → ⊥) → Risen w level
      rise_at [] level k f h l g n = absurd (omega arith)
      rise_at (s ∷ w) level k f h l g n =
          ⊎_elim here (λ e. past e (rise_at w level (kept_tail inner s w k) (follows_tail L.rules.width d s w f) h.1 (omega arith) g (λ m y z. n m y (omega arith))))
          (eq_or_ne level (length w))
        where
          here : level ≡ length w → Risen (s ∷ w) level
          here e = record {
            step = s;
            above = w;
            took = sym (at_step s w k f h.0) ∙ subst (λ (y : ℕ). Takes L c ws d x (get_or inner y 0)) e g;
            steps = e;
            places = k;
            follows = f;
            beside = h;
            sum = refl;
          }

          past : (level ≡ length w → ⊥) → Risen w level → Risen (s ∷ w) level
          past e v = record {
            step = v.step;
            above = v.above;
            took = v.took;
            steps = v.steps;
            places = v.places;
            follows = v.follows;
            beside = v.beside;
            sum = pass s w (λ z. n (length w) (omega arith) (omega arith) (subst (λ (y : ℕ). Takes L c ws d y (get_or inner (length w) 0)) z (at_step s w k f h.0))) ∙ v.sum;
          }
