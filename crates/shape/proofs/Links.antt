-- What a link says that was read as nothing, or as one of its two kinds.
use Prim.Native.Nat.{ℕ, ◌-◌, ◌/◌, ◌%◌}
use mathlib.Core.Path.{◌≡◌, ap, ◌∙◌}
use mathlib.Core.Logic.{◌⊎◌, inl, inr}
use native.Mathlib.Omega.{arith}
use Rattle.std.specs.Prelude.{Some, None}
use Rattle.bits.proofs.Cases.{eq_or_ne}
use Rattle.pool.specs.Link.{link_from, to_route, to_inner}
use Rattle.pool.specs.declared.link.Place.{Place}
use Rattle.pool.specs.declared.link.Link.TheVariants.{Route, Inner}
use Rattle.pool.proofs.Words.{link_nothing, link_odd, link_even}

data Read (w : ℕ) : Type 0 where
  nothing : w ≡ 0 → link_from w ≡ None → Read w
  route : (i : ℕ) → w ≡ to_route i → link_from w ≡ Some (Route (record { 0 = i })) → Read w
  inner : (j : ℕ) → w ≡ to_inner j → link_from w ≡ Some (Inner (record { 0 = j })) → Read w

read : (w : ℕ) → Read w
read w = go (eq_or_ne w 0) (eq_or_ne (w % 2) 1)
  where
    go : (w ≡ 0) ⊎ (w ≡ 0 → ⊥) → (w % 2 ≡ 1) ⊎ (w % 2 ≡ 1 → ⊥) → Read w
    go (inl z) p = nothing z (link_nothing w z)
    go (inr n) (inl o) = route (w / 2) (omega arith) (link_odd w n o)
    go (inr n) (inr e) = inner (w / 2 - 1) (omega arith) (link_even w n e)

pub nothing_from : (w : ℕ) → link_from w ≡ None → w ≡ 0
nothing_from w e = go (read w)
  where
    go : Read w → w ≡ 0
    go (nothing z f) = z
    go (route i z f) = let k : ◌≡◌ {A = ℕ} 0 1 = cc in absurd (omega arith)
    go (inner i z f) = let k : ◌≡◌ {A = ℕ} 0 1 = cc in absurd (omega arith)

pub route_from : (w : ℕ) (p : Place) → link_from w ≡ Some (Route p) → w ≡ to_route p.0
route_from w p e = go (read w)
  where
    go : Read w → w ≡ to_route p.0
    go (nothing z f) = let k : ◌≡◌ {A = ℕ} 0 1 = cc in absurd (omega arith)
    go (route i z f) = let k : ◌≡◌ {A = Place} (record { 0 = i }) p = cc in z ∙ ap (λ (x : Place). to_route x.0) k
    go (inner i z f) = let k : ◌≡◌ {A = ℕ} 0 1 = cc in absurd (omega arith)

pub inner_from : (w : ℕ) (p : Place) → link_from w ≡ Some (Inner p) → w ≡ to_inner p.0
inner_from w p e = go (read w)
  where
    go : Read w → w ≡ to_inner p.0
    go (nothing z f) = let k : ◌≡◌ {A = ℕ} 0 1 = cc in absurd (omega arith)
    go (route i z f) = let k : ◌≡◌ {A = ℕ} 0 1 = cc in absurd (omega arith)
    go (inner i z f) = let k : ◌≡◌ {A = Place} (record { 0 = i }) p = cc in z ∙ ap (λ (x : Place). to_inner x.0) k
