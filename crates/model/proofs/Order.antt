-- The walk order is a strict total order on prefixes, and the tests `before` and `same` say just what they name.
use Prim.Native.Nat.{◌<◌}
use mathlib.Core.Path.{◌≡◌, sym, ap}
use mathlib.Core.Bool.{true, false, ◌&&◌}
use mathlib.Core.Logic.{◌⊎◌, inl, inr}
use native.Mathlib.Omega.{arith}
use borrow.Author.Tests.{ltb-true, lt-ltb, eqb-true, eq-eqb}
use lib.Dec.{ltb, eqb}
use Rattle.bits.proofs.Cases.{Compared, lower, same as alike, higher, compared}
use Rattle.model.specs.Prefix.{Prefix, Before, before, same}
use Rattle.model.proofs.Tests.{both, and_both, either, or_left, or_right, fails}

-- ---- the two tests

pub before_true : (p q : Prefix) → before p q ≡ true → Before p q
unfolding before Before
before_true p q t = go (either (ltb p.address q.address) _ t)
  where
    go : (ltb p.address q.address ≡ true) ⊎ ((eqb p.address q.address && ltb q.length p.length) ≡ true)
        → (p.address < q.address) ⊎ ((p.address ≡ q.address) × (q.length < p.length))
    go (inl a) = inl (ltb-true _ _ a)
    go (inr b) = let w = both (eqb p.address q.address) _ b in inr (eqb-true _ _ w.0, ltb-true _ _ w.1)

pub true_before : (p q : Prefix) → Before p q → before p q ≡ true
unfolding before Before
true_before p q (inl h) = or_left _ (lt-ltb _ _ h)
true_before p q (inr h) = or_right (ltb p.address q.address) (and_both (eq-eqb _ _ h.0) (lt-ltb _ _ h.1))

pub same_true : (p q : Prefix) → same p q ≡ true → p ≡ q
unfolding same
same_true p q t =
    let w = both (eqb p.address q.address) _ t in
    λ i. record { address = eqb-true p.address q.address w.0 i; length = eqb-true p.length q.length w.1 i }

pub true_same : (p q : Prefix) → p ≡ q → same p q ≡ true
unfolding same
true_same p q e = and_both (eq-eqb _ _ (ap (λ (x : Prefix). x.address) e)) (eq-eqb _ _ (ap (λ (x : Prefix). x.length) e))

-- ---- a strict total order

pub before_irrefl : (p : Prefix) → Before p p → ⊥
unfolding Before
before_irrefl p (inl h) = omega arith
before_irrefl p (inr h) = omega arith

pub before_trans : (p q r : Prefix) → Before p q → Before q r → Before p r
unfolding Before
before_trans p q r (inl h) (inl k) = inl (omega arith)
before_trans p q r (inl h) (inr k) = inl (omega arith)
before_trans p q r (inr h) (inl k) = inl (omega arith)
before_trans p q r (inr h) (inr k) = inr (omega arith)

-- one comes before the other, or they are one
pub data Placed (p q : Prefix) : Type 0 where
  ahead : Before p q → Placed p q
  one : p ≡ q → Placed p q
  behind : Before q p → Placed p q

pub placed : (p q : Prefix) → Placed p q
unfolding Before
placed p q = go (compared p.address q.address) (compared p.length q.length)
  where
    go : Compared p.address q.address → Compared p.length q.length → Placed p q
    go (lower h) w = ahead (inl h)
    go (higher h) w = behind (inl h)
    go (alike e) (lower h) = behind (inr (sym e, h))
    go (alike e) (higher h) = ahead (inr (e, h))
    go (alike e) (alike f) = one (λ i. record { address = e i; length = f i })

-- ---- what follows for the tests

pub before_not_same : (p q : Prefix) → Before p q → same p q ≡ false
before_not_same p q h = fails (λ t. before_irrefl q (rw (same_true p q t) at h))

pub behind_not_same : (p q : Prefix) → Before q p → same p q ≡ false
behind_not_same p q h = fails (λ t. before_irrefl q (rw (same_true p q t) at h))

pub behind_not_before : (p q : Prefix) → Before q p → before p q ≡ false
behind_not_before p q h = fails (λ t. before_irrefl p (before_trans p q p (before_true p q t) h))

pub same_not_before : (p q : Prefix) → p ≡ q → before p q ≡ false
same_not_before p q e = fails (λ t. before_irrefl q (rw e at (before_true p q t)))
