-- The cell below the first places of a way, and how far down the way a bit is not past.
use Prim.Native.Nat.{ℕ, zero, suc, ◌+◌, ◌-◌, ◌≤◌, ◌<◌}
use mathlib.Core.Path.{◌≡◌, refl, sym, ap, subst, ◌∙◌}
use mathlib.Core.List.{List, [], ◌∷◌}
use mathlib.Core.Logic.{⊎_elim}
use native.Mathlib.Omega.{arith}
use lib.ListN.{length, get_or}
use Rattle.bits.specs.Address.{bit}
use Rattle.bits.proofs.First.{bit_lt}
use Rattle.bits.proofs.Cases.{eq_or_ne}
use Rattle.patricia.specs.Tree.{node}
use Rattle.patricia.specs.Obeys.{Grows}
use Rattle.patricia.specs.Way.{Step, went_left, went_right, plug, Follows, NotPast}
use Rattle.pool.specs.Layout.{Layout, mark_at}
use Rattle.pool.specs.Holds.{Seat, Seated}
use Rattle.pool.specs.Fit.{Fit}
use Rattle.pool.proofs.Laid.{Laid, head_in, joint_in}
use Rattle.search.specs.Down.{Kept, Usable}
use Rattle.plan.specs.Cells.{cell_of, cell_at}
use Rattle.plan.specs.Steps.{WayUsable, CellRight, LevelRight}
use Rattle.plan.proofs.Way.{HoldsWay}

-- ---- what the code works out

module _ {P : Type 0} (L : Layout P) (laid : Laid L) (c : ℕ) (ws inner : List ℕ) where
  pub fewer : (n m : ℕ) → m ≤ n → WayUsable L c ws inner n → WayUsable L c ws inner m
  fewer n m h u = record { shallow = omega (arith, u.shallow); usable = λ k l. u.usable k (omega arith) }

  pub last_usable : (n : ℕ) → (n ≡ 0 → ⊥) → WayUsable L c ws inner n → Usable L c ws (get_or inner (n - 1) 0)
  last_usable n z u = u.usable (n - 1) (omega arith)

  pub cell_root : (n a : ℕ) → Fit L c ws → n ≡ 0 → CellRight L c ws inner n a 2
  cell_root n a f e = record { cell_is = ap (λ (m : ℕ). cell_at L c ws inner m a) (sym e); in_pool = omega (arith, f.1, head_in laid c) }

  pub cell_side : (n a r : ℕ) → Fit L c ws → WayUsable L c ws inner n → (n ≡ 0 → ⊥)
      → r ≡ L.joint c (get_or inner (n - 1) 0) + 1 + bit L.rules.width (mark_at L c ws (get_or inner (n - 1) 0) - 1) a → CellRight L c ws inner n a r
  cell_side zero a r f u z e = absurd (z refl)
  cell_side (suc m) a r f u z e =
      let p : suc m - 1 ≡ m = omega arith in
      let is : r ≡ cell_at L c ws inner (suc m) a = subst (λ (k : ℕ). r ≡ L.joint c (get_or inner k 0) + 1 + bit L.rules.width (mark_at L c ws (get_or inner k 0) - 1) a) p e in
      record {
        cell_is = is;
        in_pool = omega (arith, is, f.1, joint_in laid c (get_or inner m 0) (u.usable m (omega arith)).in_pool, bit_lt L.rules.width (mark_at L c ws (get_or inner m 0) - 1) a);
      }

  -- ---- on a way that the words hold

  kept_side : (n j b a v : ℕ) → n ≡ j → mark_at L c ws j ≡ suc b → bit L.rules.width b a ≡ v
      → L.joint c n + 1 + bit L.rules.width (mark_at L c ws n - 1) a ≡ L.joint c j + 1 + v
  kept_side n j b a v e m s =
      let q : mark_at L c ws n - 1 ≡ b = omega (arith, ap (mark_at L c ws) e, m) in
      omega (arith, ap (L.joint c) e, ap (λ (x : ℕ). bit L.rules.width x a) q, s)

  pub cell_way : (a : ℕ) (w : List (Step ℕ (Seat P))) → Kept inner w → Follows L.rules.width a w → HoldsWay L c ws w → cell_at L c ws inner (length w) a ≡ cell_of L c w
  cell_way a [] k f h = refl
  cell_way a (went_left j b r ∷ w) k f h = kept_side (get_or inner (length w) 0) j b a 0 k.0 h.1 f.0 ∙ omega arith
  cell_way a (went_right j b l ∷ w) k f h = kept_side (get_or inner (length w) 0) j b a 1 k.0 h.1 f.0 ∙ omega arith

  pub right_cell : (n a r : ℕ) (w : List (Step ℕ (Seat P))) → CellRight L c ws inner n a r → n ≡ length w → Kept inner w → Follows L.rules.width a w → HoldsWay L c ws w
      → cell_of L c w ≡ r
  right_cell n a r w x e k f h = sym (x.cell_is ∙ ap (λ (m : ℕ). cell_at L c ws inner m a) e ∙ cell_way a w k f h)

  -- ---- up to a level

  -- a way with a part, up from a deeper one
  pub record UpTo (a k n : ℕ) (t : Seated P) : Type 0 where
    pub way : List (Step ℕ (Seat P))
    pub part : Seated P
    pub whole : plug way part ≡ t
    pub follows : Follows L.rules.width a way
    pub not_past : NotPast k way
    pub grows : Grows k part
    pub steps : n ≡ length way
    pub places : Kept inner way
    pub holds : HoldsWay L c ws way

  module _ (a k n d : ℕ) (v : LevelRight L c ws inner d k n) where
    all_not_past : (w : List (Step ℕ (Seat P))) → length w ≤ n → Kept inner w → HoldsWay L c ws w → NotPast k w
    all_not_past [] l p h = tt
    all_not_past (went_left j b r ∷ w) l p h =
        (omega (arith, v.not_past (length w) (omega arith), ap (mark_at L c ws) p.0, h.1), all_not_past w (omega arith) p.1 h.4)
    all_not_past (went_right j b r ∷ w) l p h =
        (omega (arith, v.not_past (length w) (omega arith), ap (mark_at L c ws) p.0, h.1), all_not_past w (omega arith) p.1 h.4)

    -- the place at the level tests a later bit
    later : (w : List (Step ℕ (Seat P))) (j b : ℕ) → get_or inner (length w) 0 ≡ j → mark_at L c ws j ≡ suc b → length w < d → length w ≡ n → k < b
    later w j b p m l e = omega (arith, v.past (omega arith), ap (λ (x : ℕ). mark_at L c ws (get_or inner x 0)) e, ap (mark_at L c ws) p, m)

    up_here : (w : List (Step ℕ (Seat P))) (t : Seated P) → (length w ≡ n → Grows k t) → Kept inner w → Follows L.rules.width a w → HoldsWay L c ws w → length w ≡ n
        → UpTo a k n (plug w t)
    up_here w t g p f h e = record {
      way = w;
      part = t;
      whole = refl;
      follows = f;
      not_past = all_not_past w (omega arith) p h;
      grows = g e;
      steps = sym e;
      places = p;
      holds = h;
    }

    pub up_to : (w : List (Step ℕ (Seat P))) (t : Seated P) → length w ≤ d → n ≤ length w → (length w ≡ n → Grows k t) → Kept inner w → Follows L.rules.width a w
        → HoldsWay L c ws w
        → UpTo a k n (plug w t)
    up_to [] t l m g p f h = up_here [] t g p f h (omega arith)
    up_to (went_left j b r ∷ w) t l m g p f h =
        ⊎_elim (up_here (went_left j b r ∷ w) t g p f h)
        (λ x. up_to w (node j b t r) (omega arith) (omega arith) (later w j b p.0 h.1 (omega arith)) p.1 f.1 h.4) (eq_or_ne (length (went_left j b r ∷ w)) n)
    up_to (went_right j b r ∷ w) t l m g p f h =
        ⊎_elim (up_here (went_right j b r ∷ w) t g p f h)
        (λ x. up_to w (node j b r t) (omega arith) (omega arith) (later w j b p.0 h.1 (omega arith)) p.1 f.1 h.4) (eq_or_ne (length (went_right j b r ∷ w)) n)
