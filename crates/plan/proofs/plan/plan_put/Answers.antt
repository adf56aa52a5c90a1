-- `search::down` leads to a leaf, whose address is read at its first route. Where it is the route's own, the route is hung along the
-- leaf's: `put_hang`. Else the two part at a bit, and a new leaf is joined above the places past it: `put_join`.
use Prim.Native.Nat.{ℕ, ◌+◌}
use mathlib.Core.Path.{◌≡◌, sym, ap, ◌∙◌}
use borrow.Author.Rules.{rules}
use Rattle.std.specs.Prelude.{Some, Ok}
use Rattle.model.specs.Prefix.{Prefix}
use Rattle.pool.specs.Layout.{prefix_at}
use Rattle.pool.specs.Ipv4.{ipv4}
use Rattle.pool.proofs.Ipv4.{laid4}
use Rattle.plan.proofs.PutPlanned.{put_hang, put_join}
use Rattle.plan.proofs.plan.plan_put.Goals as goal
use Rattle.plan.proofs.plan.plan_put.Goals.{After-prefix_at-held, In-Ok-Some}

-- the way ends at the leaf
leaf : (c : In-Ok-Some) → c.down-way.result.end ≡ Ok (Some c.in-Ok-Some.first)
leaf c = search rules

-- the address that was read is that of the leaf's first route
held : (c : After-prefix_at-held) →
    (prefix_at ipv4 c.args.pool.now (ipv4.seat c.in-Ok-Some.first.0 + ipv4.prefix_offset)).address ≡ c.prefix_at-held.result.address
held c =
    let address = λ (seat : ℕ). (prefix_at ipv4 c.args.pool.now (seat + ipv4.prefix_offset)).address in
    sym (ap (λ (p : Prefix). p.address) c.prefix_at-held.ensures ∙ ap address c.seat.ensures)

pub returns-then-held-prefix-clause-put_right : goal.returns-then-held-prefix-clause-put_right
returns-then-held-prefix-clause-put_right c =
    let at = goal.at.returns-then-held-prefix-clause-put_right c in
    put_hang ipv4 laid4 _ _ _ _ _ _ c.down-way.ensures _ (leaf at.In-Ok-Some) _ _ (held at.After-prefix_at-held ∙ c.if-held-prefix.true)
    c.cell_of-from.ensures c.chain_cell.ensures

pub returns-clause-put_right : goal.returns-clause-put_right
returns-clause-put_right c =
    let at = goal.at.returns-clause-put_right c in
    put_join ipv4 laid4 _ _ _ _ _ _ c.down-way.ensures _ (leaf at.In-Ok-Some) _ _ _ _ (held at.After-prefix_at-held) c.if-held-prefix.false
    c.parting-index.ensures c.level_of-level.ensures c.cell_of.ensures
