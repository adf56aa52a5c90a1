-- `search::down` goes down by the address to a leaf, where `hung_at` looks along the leaf's routes: `held_leaf`.
use Rattle.pool.specs.Ipv4.{ipv4}
use Rattle.pool.proofs.Ipv4.{laid4}
use Rattle.plan.proofs.HeldPlanned.{held_leaf}
use Rattle.plan.proofs.Leads.{leaf_end}
use Rattle.plan.proofs.plan.held_at.Goals as goal

pub returns : goal.returns
returns c =
    let leaf = leaf_end _ _ _ _ c.ok.ensures.value c.in_ok-ok.was c.in_ok-first.was in
    held_leaf ipv4 laid4 _ _ _ _ _ _ c.down-way.ensures _ leaf _ c.cell_of-from.ensures _ c.hung_at.ensures
