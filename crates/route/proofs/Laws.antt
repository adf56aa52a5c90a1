-- What each test of the types' functions comes to, over plain values.
use Prim.Native.Nat.{ℕ, ◌≤◌, ◌<◌, ◌^◌}
use mathlib.Core.Path.{◌≡◌, sym}
use mathlib.Core.Bool.{Bool, true, false, not, ◌&&◌, or-false}
use native.Mathlib.Nat.{sub-eq-zero_of_le, le_of_lt, div-one}
use native.Mathlib.Omega.{arith}
use borrow.Author.Tests.{le-leb, lt-leb, lt-ltb, le-ltb, eq-eqb, ne_eqb}
use lib.Dec.{ltb, leb, eqb}
use Rattle.bits.specs.Address.{first, clear}
use Rattle.model.specs.Prefix.{Prefix, well_formed, matches, before, same}
use Rattle.model.specs.Ipv4.{via, good_hop, learned, good_metric}
use Rattle.route.specs.Answers.{refusal_number}
use Rattle.route.specs.declared.answer.Refusal.{Refusal}
use Rattle.route.specs.declared.answer.Refusal.TheVariants as why

-- ---- refusals

-- no refusal has the number 0
pub never_zero : (x : Refusal) → refusal_number x ≡ 0 → ⊥
never_zero why.BadCapacity z = omega (arith, z)
never_zero why.ShortBuffer z = omega (arith, z)
never_zero why.BadPrefix z = omega (arith, z)
never_zero why.BadHop z = omega (arith, z)
never_zero why.AlreadyThere z = omega (arith, z)
never_zero why.NotThere z = omega (arith, z)
never_zero why.TableFull z = omega (arith, z)
never_zero why.TrialFull z = omega (arith, z)
never_zero why.NotSound z = omega (arith, z)
never_zero why.TrialIsOpen z = omega (arith, z)
never_zero why.NoTrial z = omega (arith, z)
never_zero why.NothingStanding z = omega (arith, z)
never_zero why.NoMatch z = omega (arith, z)
never_zero why.NoFurther z = omega (arith, z)
never_zero why.RouteIsFixed z = omega (arith, z)
never_zero why.BadMetric z = omega (arith, z)

-- ---- two tests in a row

pub and_good : {a b r : Bool} → a ≡ true → r ≡ b → r ≡ (a && b)
and_good e f = rw (e, f)

pub and_bad : {a : Bool} (b : Bool) → a ≡ false → false ≡ (a && b)
and_bad b e = rw e

-- ---- origins

pub metric_zero : (m : ℕ) → m ≡ 0 → false ≡ good_metric (learned m)
unfolding good_metric
metric_zero m e = rw e

pub metric_some : (m : ℕ) → (m ≡ 0 → ⊥) → leb m 15 ≡ good_metric (learned m)
unfolding good_metric
metric_some m n = rw (ne_eqb m 0 n)

-- ---- hops

pub via_good : (p g : ℕ) → p ≤ 15 → not (eqb g 0) ≡ good_hop (via p g)
unfolding good_hop
via_good p g h = rw (le-leb p 15 h)

pub via_bad : (p g : ℕ) → 15 < p → false ≡ good_hop (via p g)
unfolding good_hop
via_bad p g h = rw (lt-leb p 15 h)

-- ---- prefixes

pub before_within : (p q : Prefix) → p.address ≡ q.address → ltb q.length p.length ≡ before p q
unfolding before
before_within p q e = let h : q.address ≤ p.address = omega arith in rw (le-ltb p.address q.address h, eq-eqb p.address q.address e)

pub before_across : (p q : Prefix) → (p.address ≡ q.address → ⊥) → ltb p.address q.address ≡ before p q
unfolding before
before_across p q f = rw (ne_eqb p.address q.address f) (sym (or-false (ltb p.address q.address)))

pub same_within : (p q : Prefix) → p.address ≡ q.address → eqb p.length q.length ≡ same p q
unfolding same
same_within p q e = rw (eq-eqb p.address q.address e)

pub same_across : (p q : Prefix) → (p.address ≡ q.address → ⊥) → false ≡ same p q
unfolding same
same_across p q f = rw (ne_eqb p.address q.address f)

-- a length past the width takes the whole address
pub matches_past : (W : ℕ) (p : Prefix) (d : ℕ) → W < p.length → eqb d p.address ≡ matches W p d
unfolding matches first
matches_past W p d h = rw (sub-eq-zero_of_le (le_of_lt h)) (rw (div-one d, div-one p.address))

pub matches_within : (W : ℕ) (p : Prefix) (d x y : ℕ) → x ≡ first W p.length d → y ≡ first W p.length p.address → eqb x y ≡ matches W p d
unfolding matches
matches_within W p d x y e f = rw (e, f)

pub long_not_formed : (W : ℕ) (p : Prefix) → W < p.length → false ≡ well_formed W p
unfolding well_formed
long_not_formed W p h = rw (lt-leb p.length W h)

pub formed_is_clear : (W : ℕ) (p : Prefix) (c : Bool) → p.length ≤ W → p.address < 2 ^ W → c ≡ clear W p.length p.address → c ≡ well_formed W p
unfolding well_formed
formed_is_clear W p c h f e = rw (le-leb p.length W h, lt-ltb p.address (2 ^ W) f) e
