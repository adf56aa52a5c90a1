-- What a link that was read says, and what then stands in a tree that the words hold there.
use Prim.Native.Nat.{ℕ, suc, ◌-◌, ◌/◌, ◌%◌, ◌≤◌, ◌<◌}
use mathlib.Core.Path.{◌≡◌, sym, ap, subst, ◌∙◌}
use mathlib.Core.List.{List, [], ◌∷◌}
use mathlib.Core.Logic.{⊎_elim}
use native.Mathlib.Omega.{arith}
use Rattle.std.specs.Prelude.{Option, Some, None}
use Rattle.bits.proofs.Cases.{eq_or_ne}
use Rattle.patricia.specs.Good.{Good}
use Rattle.patricia.specs.Tree.{leaf, node}
use Rattle.patricia.specs.Way.{toward}
use Rattle.pool.specs.Layout.{Layout, mark_at}
use Rattle.pool.specs.Link.{link_from, to_route, to_inner}
use Rattle.pool.specs.Holds.{Seated, bare, Holds}
use Rattle.pool.specs.declared.link.Link.{Link}
use Rattle.pool.specs.declared.link.Link.TheVariants.{Route, Inner}
use Rattle.pool.proofs.Words.{link_nothing, link_odd, link_even}
use Rattle.search.specs.Seen.{Starts}

-- ---- links

-- what a link is read as, as the code tells it
abbrev Says : ℕ → Option Link → Type 0
Says w None = w ≡ 0
Says w (Some (Route p)) = w ≡ to_route p.0
Says w (Some (Inner p)) = w ≡ to_inner p.0

reads : (w : ℕ) → Says w (link_from w)
reads w = ⊎_elim (λ e. subst (Says w) (sym (link_nothing w e)) e) (λ n. ⊎_elim (odd n) (even n) (eq_or_ne (w % 2) 1)) (eq_or_ne w 0)
  where
    odd : (w ≡ 0 → ⊥) → w % 2 ≡ 1 → Says w (link_from w)
    odd n e = let h : w ≡ to_route (w / 2) = omega arith in subst (Says w) (sym (link_odd w n e)) h

    even : (w ≡ 0 → ⊥) → (w % 2 ≡ 1 → ⊥) → Says w (link_from w)
    even n e = let h : w ≡ to_inner (w / 2 - 1) = omega arith in subst (Says w) (sym (link_even w n e)) h

-- the link that was read, from the variant that it was taken for
pub read_as : (w : ℕ) (x y : Option Link) → x ≡ link_from w → x ≡ y → Says w y
read_as w x y e f = subst (Says w) (sym e ∙ f) (reads w)

-- ---- the side that a bit takes

pub take_left : (x l r y : ℕ) → x ≡ 0 → y ≡ l → y ≡ toward x l r
take_left x l r y z e = rw z e

pub take_right : (x l r y : ℕ) → x < 2 → (x ≡ 0 → ⊥) → y ≡ r → y ≡ toward x l r
take_right x l r y h z e = let o : x ≡ 1 = omega arith in rw o e

-- ---- trees

module _ {P : Type 0} (L : Layout P) (c : ℕ) (ws : List ℕ) (link : ℕ) where
  -- where the link is a route's, a leaf stands
  pub route_inside : (i : ℕ) (t : Seated P) → Holds L c ws link t → link ≡ to_route i → i < c
  route_inside i (leaf a []) h e = absurd h
  route_inside i (leaf a (x ∷ xs)) h e = let u : link ≡ to_route x.payload.place = h.0 in let v = h.1.in_pool in omega arith
  route_inside i (node j b l r) h e = let u : link ≡ to_inner j = h.0 in absurd (omega arith)

  -- where it is an inner place's, a node stands, whose bit is in range
  pub inner_inside : (lowest i : ℕ) (t : Seated P) → Holds L c ws link t → Good L.rules.width (bare t) → Starts lowest t → link ≡ to_inner i
      → (i < c) × (lowest < mark_at L c ws i) × (mark_at L c ws i ≤ L.rules.width)
  inner_inside lowest i (leaf a []) h g s e = absurd h
  inner_inside lowest i (leaf a (x ∷ xs)) h g s e = let u : link ≡ to_route x.payload.place = h.0 in absurd (omega arith)
  inner_inside lowest i (node j b l r) h g s e =
      let u : link ≡ to_inner j = h.0 in
      let p : j ≡ i = omega arith in
      let m : mark_at L c ws i ≡ suc b = ap (mark_at L c ws) (sym p) ∙ h.2 in
      let k : b < L.rules.width = g.0.within in
      (subst (λ (n : ℕ). n < c) p h.1, omega arith, omega arith)
