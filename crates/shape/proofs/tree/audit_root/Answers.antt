-- A root link of 0 is the empty tree: `root_none`. Else the tree at the root link is audited, and what is said of it there is what is
-- said of the root: `root_bad` or `root_fine`.
use mathlib.Core.Path.{refl}
use Rattle.pool.specs.Ipv4.{ipv4}
use Rattle.shape.proofs.Grown.{root_none, root_bad, root_fine}
use Rattle.shape.proofs.tree.audit_root.Goals as goal

pub returns-then-root-eq0 : goal.returns-then-root-eq0
returns-then-root-eq0 c = root_none ipv4 _ _ _ refl c.if-root-eq0.true

pub returns-in_err-span : goal.returns-in_err-span
returns-in_err-span c =
    rw c.from_residual.ensures (root_bad ipv4 _ _ _ refl c.if-root-eq0.false c.in_err-span.ensures)

pub returns : goal.returns
returns c =
    root_fine ipv4 _ _ _ _ _ _ _ refl c.in_ok-span.ensures
