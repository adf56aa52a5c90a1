-- Where the way is empty, the route is the table's last: `lone_last`. Else the last place of the way goes along with the leaf, and the
-- link that stays is of the side that the address does not take there (`take_left`, `take_right`): `lone_leaf`.
use Prim.Native.Nat.{ℕ, ◌-◌}
use mathlib.Core.Path.{◌≡◌, refl, sym, ap, ◌∙◌}
use lib.ListN.{get_or}
use Rattle.bits.specs.Address.{bit}
use Rattle.bits.proofs.First.{bit_lt}
use Rattle.pool.specs.Layout.{mark_at}
use Rattle.pool.specs.Ipv4.{ipv4}
use Rattle.pool.proofs.Ipv4.{laid4}
use Rattle.search.proofs.Sight.{take_left, take_right}
use Rattle.plan.proofs.TakePlanned.{lone_last, lone_leaf}
use Rattle.plan.proofs.plan.plan_lone.Goals as goal
use Rattle.plan.proofs.plan.plan_lone.Goals.{After-bit_of-on_left}

-- the side that the address takes
side : (c : After-bit_of-on_left) →
    c.bit_of-on_left.result ≡ bit 32 ((mark_at ipv4 c.args.capacity c.args.pool.now (get_or c.args.inner (c.args.depth - 1) 0)) - 1) c.args.address
side c = c.bit_of-on_left.ensures ∙ ap (λ (m : ℕ). bit 32 (m - 1) c.args.address) c.mark_at-mark.ensures

pub returns-then-depth-eq0 : goal.returns-then-depth-eq0
returns-then-depth-eq0 c = lone_last ipv4 laid4 _ _ _ _ _ _ c.requires.place_lt_capacity c.if-depth-eq0.true

pub returns-then-on_left : goal.returns-then-on_left
returns-then-on_left c =
    let sibling = take_left _ _ _ _ (sym (side (goal.at.returns-then-on_left c).After-bit_of-on_left) ∙ c.if-on_left.true) c.right_at.ensures in
    lone_leaf ipv4 laid4 _ _ _ _ _ _ c.requires.place_lt_capacity _ _ _ c.if-depth-eq0.false c.requires.way_usable c.cell_of-up.ensures refl sibling

pub returns-else-on_left : goal.returns-else-on_left
returns-else-on_left c =
    let one = bit_lt 32 _ c.args.address in
    lone_leaf ipv4 laid4 _ _ _ _ _ _ c.requires.place_lt_capacity _ _ _ c.if-depth-eq0.false c.requires.way_usable c.cell_of-up.ensures refl
    (take_right _ _ _ _ one (λ z. c.if-on_left.false (side (goal.at.returns-else-on_left c).After-bit_of-on_left ∙ z)) c.left_at.ensures)
