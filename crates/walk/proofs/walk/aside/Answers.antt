-- By the prefix's bit at the parting, what stands below it comes before the prefix whole, and what is next stands to the right of the
-- levels that are left (`aside_right`), or after it whole, and its front is next (`aside_front`).
use mathlib.Core.Path.{◌≡◌, sym, ◌∙◌}
use mathlib.Core.Logic.{inl, inr}
use Rattle.bits.specs.Address.{bit}
use Rattle.pool.specs.Ipv4.{ipv4}
use Rattle.walk.proofs.Onward.{aside_right, aside_front}
use Rattle.walk.proofs.walk.aside.Goals as goal
use Rattle.walk.proofs.walk.aside.Goals.{Else-bit_of-eq1}

-- the bit is not 1, so what stands below the parting comes after the prefix
zero : (c : Else-bit_of-eq1) → bit 32 c.args.parted c.args.prefix.address ≡ 1 → ⊥
zero c o = c.if-bit_of-eq1.false (c.bit_of.ensures ∙ o)

pub returns-then-bit_of-eq1 : goal.returns-then-bit_of-eq1
returns-then-bit_of-eq1 c =
    let way = c.requires.ways in
    let one = sym c.bit_of.ensures ∙ c.if-bit_of-eq1.true in
    aside_right ipv4 _ _ _ _ _ _ _ way.0 way.1 _ _ way.2 c.rejoin-level.ensures _ _ one c.right_side.ensures

pub returns-then-level-depth : goal.returns-then-level-depth
returns-then-level-depth c =
    let way = c.requires.ways in
    aside_front ipv4 _ _ _ _ _ _ _ way.0 way.1 _ _ way.2 c.rejoin-level.ensures _ _ _ (zero (goal.at.returns-then-level-depth c).Else-bit_of-eq1) c.front.ensures
    (inl (c.if-level-depth.true, c.route_link.ensures))

pub returns : goal.returns
returns c =
    let way = c.requires.ways in
    aside_front ipv4 _ _ _ _ _ _ _ way.0 way.1 _ _ way.2 c.rejoin-level.ensures _ _ _ (zero (goal.at.returns c).Else-bit_of-eq1) c.front-2.ensures
    (inr (c.if-level-depth.false, c.inner_link.ensures))
