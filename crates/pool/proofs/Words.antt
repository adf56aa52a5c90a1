-- How the code's tests on words come to the definitions.
use Prim.Native.Nat.{ℕ, zero, suc, ◌+◌, ◌-◌, ◌/◌, ◌%◌}
use mathlib.Core.Path.{◌≡◌, refl, ap, ◌∙◌}
use mathlib.Core.List.{List}
use native.Mathlib.Omega.{arith}
use borrow.Author.Tests.{eq-eqb, ne_eqb}
use Rattle.std.specs.Prelude.{Some, None}
use Rattle.model.specs.Ipv4.{direct, via, reject, fixed, learned}
use Rattle.pool.specs.Layout.{word}
use Rattle.pool.specs.Ipv4.{hop_from, hop_at, origin_from, origin_at}
use Rattle.pool.specs.Link.{link_from, to_route, to_inner}
use Rattle.pool.specs.declared.link.Link.TheVariants.{Route, Inner}

-- ---- hops

pub hop_direct : (ws : List ℕ) (at : ℕ) → word ws at ≡ 1 → direct (word ws (at + 1)) ≡ hop_at ws at
hop_direct ws at e = rw e

pub hop_via : (ws : List ℕ) (at : ℕ) → word ws at ≡ 2 → via (word ws (at + 1)) (word ws (at + 2)) ≡ hop_at ws at
hop_via ws at e = rw e

hop_other : (k p g : ℕ) → (k ≡ 1 → ⊥) → (k ≡ 2 → ⊥) → reject ≡ hop_from k p g
hop_other zero p g a b = refl
hop_other (suc zero) p g a b = absurd (a refl)
hop_other (suc (suc zero)) p g a b = absurd (b refl)
hop_other (suc (suc (suc k))) p g a b = refl

pub hop_reject : (ws : List ℕ) (at : ℕ) → (word ws at ≡ 1 → ⊥) → (word ws at ≡ 2 → ⊥) → reject ≡ hop_at ws at
hop_reject ws at a b = hop_other (word ws at) (word ws (at + 1)) (word ws (at + 2)) a b

-- ---- origins

pub origin_learned : (ws : List ℕ) (at : ℕ) → word ws at ≡ 1 → learned (word ws (at + 1)) ≡ origin_at ws at
origin_learned ws at e = rw e

origin_other : (o m : ℕ) → (o ≡ 1 → ⊥) → fixed ≡ origin_from o m
origin_other zero m a = refl
origin_other (suc zero) m a = absurd (a refl)
origin_other (suc (suc k)) m a = refl

pub origin_fixed : (ws : List ℕ) (at : ℕ) → (word ws at ≡ 1 → ⊥) → fixed ≡ origin_at ws at
origin_fixed ws at a = origin_other (word ws at) (word ws (at + 1)) a

-- ---- links

pub link_nothing : (w : ℕ) → w ≡ 0 → link_from w ≡ None
unfolding link_from
link_nothing w e = rw (eq-eqb w 0 e)

pub link_odd : (w : ℕ) → (w ≡ 0 → ⊥) → w % 2 ≡ 1 → link_from w ≡ Some (Route (record { 0 = w / 2 }))
unfolding link_from
link_odd w n e = rw (ne_eqb w 0 n, eq-eqb (w % 2) 1 e)

pub link_even : (w : ℕ) → (w ≡ 0 → ⊥) → (w % 2 ≡ 1 → ⊥) → link_from w ≡ Some (Inner (record { 0 = w / 2 - 1 }))
unfolding link_from
link_even w n e = rw (ne_eqb w 0 n, ne_eqb (w % 2) 1 e)

-- what each link is read as
pub route_linked : (w i : ℕ) → w ≡ to_route i → link_from w ≡ Some (Route (record { 0 = i }))
route_linked w i e =
    let n : w ≡ 0 → ⊥ = omega arith in
    let o : w % 2 ≡ 1 = omega arith in
    let h : w / 2 ≡ i = omega arith in
    link_odd w n o ∙ ap (λ (x : ℕ). Some (Route (record { 0 = x }))) h

pub inner_linked : (w j : ℕ) → w ≡ to_inner j → link_from w ≡ Some (Inner (record { 0 = j }))
inner_linked w j e =
    let n : w ≡ 0 → ⊥ = omega arith in
    let o : w % 2 ≡ 1 → ⊥ = omega arith in
    let h : w / 2 - 1 ≡ j = omega arith in
    link_even w n o ∙ ap (λ (x : ℕ). Some (Inner (record { 0 = x }))) h
