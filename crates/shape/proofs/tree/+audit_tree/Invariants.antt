-- Bits grow on the way down, so what is left of the 32 is the measure.
use Prim.Native.Nat.{◌-◌}
use Rattle.shape.proofs.tree.+audit_tree.Given as goal

abbrev pub decreases-audit_tree : goal.decreases-audit_tree
decreases-audit_tree l = 32 - l.low
