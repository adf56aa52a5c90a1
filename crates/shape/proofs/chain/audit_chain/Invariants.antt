-- The loop goes along the chain: what hangs from the link on, with the routes passed, is what hangs from the place. Each step lowers
-- the bound, which is the measure. A step that is refused is `chain_bad`, and the end of the chain `chain_fine`.
use Rattle.pool.specs.Ipv4.{ipv4}
use Rattle.shape.proofs.Hanging.{Along}
use Rattle.shape.proofs.chain.audit_chain.Given as goal

abbrev pub invariant-loop-link : goal.invariant-loop-link
invariant-loop-link l =
    Along ipv4 l.capacity l.pool l.address l.initial.link l.link l.bound.0 l.routes

abbrev pub decreases-loop-link : goal.decreases-loop-link
decreases-loop-link l = l.bound.0
