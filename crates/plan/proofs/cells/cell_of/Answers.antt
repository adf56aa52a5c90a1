-- Where the way has places, the cell is at the last of them, on the side that the address takes there: `cell_side`.
use Prim.Native.Nat.{ℕ, ◌-◌}
use mathlib.Core.Path.{◌≡◌, ap, ◌∙◌}
use native.Mathlib.Omega.{arith}
use lib.ListN.{get_or}
use Rattle.bits.specs.Address.{bit}
use Rattle.pool.specs.Layout.{mark_at}
use Rattle.pool.specs.Ipv4.{ipv4}
use Rattle.pool.proofs.Ipv4.{laid4}
use Rattle.plan.proofs.CellAt.{cell_side}
use Rattle.plan.proofs.cells.cell_of.Goals as goal

pub returns : goal.returns
returns c =
    let args = c.args in
    let side : c.bit_of-side.result ≡ bit 32 (mark_at ipv4 args.capacity args.pool.now (get_or c.args.inner (c.args.depth - 1) 0) - 1) args.address =
    c.bit_of-side.ensures ∙ ap (λ (m : ℕ). bit 32 (m - 1) args.address) c.mark_at-mark.ensures in
    cell_side ipv4 laid4 _ _ _ _ _ _ c.requires.fit c.requires.way_usable c.if-depth-eq0.false (omega arith)
