-- Down the left sides to the leftmost leaf: what is known partway, what a step does to it, and what is known at the leaf.
use Prim.Native.Nat.{ℕ, ◌+◌}
use mathlib.Core.Path.{◌≡◌, refl, sym, ap, subst, ◌∙◌}
use mathlib.Core.List.{List, [], ◌∷◌}
use native.Mathlib.Nat.{suc_inj}
use native.Mathlib.Omega.{arith}
use Rattle.std.specs.Prelude.{Ok, Err}
use Rattle.patricia.specs.Good.{Good}
use Rattle.patricia.specs.Tree.{Entry, leaf, node}
use Rattle.patricia.specs.Obeys.{LeafObeys}
use Rattle.pool.specs.Layout.{Layout, mark_at, left_at}
use Rattle.pool.specs.Link.{to_route, to_inner}
use Rattle.pool.specs.Holds.{Seat, Seated, bare, bare_entries, Holds}
use Rattle.pool.specs.declared.link.Place.{Place}
use Rattle.pool.specs.declared.damage.Damage.{Damage}
use Rattle.search.specs.Seen.{Starts, SeenRight}
use Rattle.search.specs.Edge.{left_leaf, LeftLed, Leftmost}
use Rattle.search.specs.declared.descent.Seen.TheVariants.{Leaf, Inner}
use Rattle.search.proofs.Bare.{bare_grows}
use Rattle.search.proofs.Partway.{starts_zero}

module _ {P : Type 0} (L : Layout P) where
  -- the leftmost leaf of a good tree is good
  pub left_good : (a : ℕ) (es : List (Entry (Seat P))) (t : Seated P) → left_leaf t ≡ leaf a es → Good L.rules.width (bare t)
      → LeafObeys L.rules.width a (bare_entries es)
  left_good a es (leaf x xs) e g = subst (λ (y : Seated P). Good L.rules.width (bare y)) e g
  left_good a es (node n b l r) e g = left_good a es l e g.1

  module _ (c : ℕ) (ws : List ℕ) where
    pub record Leftward (link lowest : ℕ) (t : Seated P) : Type 0 where
      pub part : Seated P
      pub same : left_leaf t ≡ left_leaf part
      pub there : Holds L c ws link part
      pub good : Good L.rules.width (bare part)
      pub later : Starts lowest part

    -- whatever good tree stands at the start, the link is partway down its left sides
    abbrev pub AllLeft : ℕ → ℕ → ℕ → Type 0
    AllLeft start link lowest = (t : Seated P) → Holds L c ws start t → Good L.rules.width (bare t) → Leftward link lowest t

    pub left_start : (start : ℕ) → AllLeft start start 0
    left_start start t h g = record { part = t; same = refl; there = h; good = g; later = starts_zero L t }

    pub left_step : (start link lowest b next : ℕ) (p : Place) → AllLeft start link lowest → SeenRight L c ws link lowest (Ok (Inner p b))
        → next ≡ left_at L c ws p.0
        → AllLeft start next (b + 1)
    left_step start link lowest b next p all s n t h g = go (all t h g).part (all t h g).same (all t h g).there (all t h g).good
      where
        go : (x : Seated P) → left_leaf t ≡ left_leaf x → Holds L c ws link x → Good L.rules.width (bare x) → Leftward next (b + 1) t
        go (leaf a []) e k q = absurd k
        go (leaf a (x ∷ xs)) e k q = let u : link ≡ to_route x.payload.place = k.0 in let v : link ≡ to_inner p.0 = s.1 in absurd (omega arith)
        go (node i m l r) e k q =
            let u : link ≡ to_inner i = k.0 in
            let v : link ≡ to_inner p.0 = s.1 in
            let ij : i ≡ p.0 = omega arith in
            let mb : m ≡ b = suc_inj (sym k.2 ∙ ap (mark_at L c ws) ij ∙ s.2) in
            record {
              part = l;
              same = e;
              there = subst (λ (x : ℕ). Holds L c ws x l) (ap (left_at L c ws) ij ∙ sym n) k.3;
              good = q.1;
              later = subst (λ (x : ℕ). Starts (x + 1) l) mb (bare_grows m l q.0.grows_left);
            }

    pub left_leaf_lem : (start link lowest : ℕ) (p : Place) → AllLeft start link lowest → SeenRight L c ws link lowest (Ok (Leaf p))
        → Leftmost L c ws start (Ok p)
    left_leaf_lem start link lowest p all s = record { in_pool = s.0; leads = λ t h g. go t (all t h g).part (all t h g).same (all t h g).there }
      where
        go : (t x : Seated P) → left_leaf t ≡ left_leaf x → Holds L c ws link x → LeftLed L c ws (Ok p) t
        go t (leaf a []) e k = absurd k
        go t (leaf a (x ∷ xs)) e k =
            let u : link ≡ to_route x.payload.place = k.0 in
            let v : link ≡ to_route p.0 = s.1 in
            let same : p.0 ≡ x.payload.place = omega arith in
            record { address = a; entry = x; rest = xs; is = e; ends = ap (λ (n : ℕ). Ok (record { 0 = n })) same; hangs = (refl, k.1, k.2) }
        go t (node i m l r) e k = let u : link ≡ to_inner i = k.0 in let v : link ≡ to_route p.0 = s.1 in absurd (omega arith)

    pub left_damaged : (start link lowest : ℕ) {x : Damage} → AllLeft start link lowest → SeenRight L c ws link lowest (Err x)
        → Leftmost L c ws start (Err x)
    left_damaged start link lowest all s =
        record { in_pool = tt; leads = λ t h g. let l = all t h g in absurd (s l.part l.there l.good l.later) }
