use Prim.Native.Nat.{ℕ, ◌+◌, ◌<◌}
use mathlib.Core.Path.{◌≡◌, ap, ◌∙◌}
use mathlib.Core.List.{List}
use mathlib.Core.Logic.{inr}
use native.Mathlib.Omega.{arith}
use borrow.Author.Rules.{rules}
use Rattle.std.specs.Prelude.{Some, Ok}
use Rattle.model.specs.Prefix.{Prefix as ModelPrefix}
use Rattle.route.specs.Means.{prefix_of}
use Rattle.route.specs.declared.prefix.Prefix.{Prefix}
use Rattle.pool.specs.Layout.{prefix_at}
use Rattle.pool.specs.Ipv4.{ipv4}
use Rattle.pool.specs.declared.link.Place.{Place}
use Rattle.plan.specs.Steps.{ChainCell}
use Rattle.plan.proofs.ChainAt.{chain_here, chain_next, chain_left}
use Rattle.plan.proofs.cells.chain_cell.Goals as goal
use Rattle.plan.proofs.cells.chain_cell.Goals.{After-follow, After-prefix_at-held}

-- the length that was read
length_read : (ws : List ℕ) (p : Prefix) (at place : ℕ) → prefix_of p ≡ prefix_at ipv4 ws (at + ipv4.prefix_offset) → at ≡ ipv4.seat place
    → p.length.0 ≡ (prefix_at ipv4 ws (ipv4.seat place + ipv4.prefix_offset)).length
length_read ws p at place e f = ap (λ (x : ModelPrefix). x.length) e ∙ ap (λ (seat : ℕ). (prefix_at ipv4 ws (seat + ipv4.prefix_offset)).length) f

held : (c : After-prefix_at-held) →
    c.prefix_at-held.result.length.0 ≡ (prefix_at ipv4 c.args.pool.now (ipv4.seat c.loop-length.place.0 + ipv4.prefix_offset)).length
held c = length_read _ _ _ _ c.prefix_at-held.ensures c.seat.ensures

read : (c : After-follow) →
    c.prefix_at-held.result.length.0 ≡ (prefix_at ipv4 c.args.pool.now (ipv4.seat c.loop-length.place.0 + ipv4.prefix_offset)).length
read c = length_read _ _ _ _ c.prefix_at-held.ensures c.seat.ensures

-- it is longer
passed : (c : After-follow) → c.args.length.0 < (prefix_at ipv4 c.args.pool.now (ipv4.seat c.loop-length.place.0 + ipv4.prefix_offset)).length
passed c = omega (arith, read c)

-- the cell behind it
below : (c : After-follow) → c.seat-cell.result + ipv4.next_offset ≡ (ipv4.seat c.loop-length.place.0) + ipv4.next_offset
below c = ap (λ (n : ℕ). n + ipv4.next_offset) c.seat-cell.ensures

-- no other behind it
left : (c : After-follow) → ((j : Place) → c.follow.result ≡ Ok (Some j) → ⊥)
    → ChainCell ipv4 c.args.capacity c.args.pool.now c.args.from c.args.first.0 c.args.length.0 (c.seat-cell.result + ipv4.next_offset)
left c none =
    let inv = c.loop-length.invariant in
    chain_left ipv4 _ _ _ _ _ _ _ inv.2 _ (below c) (passed c) inv.0 _ (read c) _ c.follow.ensures none

pub returns-then-is_here : goal.returns-then-is_here
returns-then-is_here c =
    let inv = c.loop-length.invariant in
    chain_here ipv4 _ _ _ _ _ _ _ inv.2 inv.1 (omega (arith, held (goal.at.returns-then-is_here c).After-prefix_at-held))

pub loop-length-preserved : goal.loop-length-preserved
loop-length-preserved c =
    let next = rw c.in-Ok-Some.field-0-is at c.in-Ok-Some.ensures in
    let followed = (goal.at.loop-length-preserved c).After-follow in
    let loop = c.loop-length in
    (next.0, inr (loop.place.0, loop.invariant.0, below followed), chain_next ipv4 _ _ _ _ _ _ _ loop.invariant.2 _ (below followed) (passed followed) _ next.1)

pub returns-in_default : goal.returns-in_default
returns-in_default c = left (goal.at.returns-in_default c).After-follow (λ j e. search rules)

pub returns-in_default-2 : goal.returns-in_default-2
returns-in_default-2 c = left (goal.at.returns-in_default-2 c).After-follow (λ j e. search rules)
