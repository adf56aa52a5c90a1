-- A leaf is what its chain is: `leaf_fine` where the chain's routes are counted, `leaf_bad` where they are refused.
use Rattle.pool.specs.Ipv4.{ipv4}
use Rattle.pool.specs.Link.{to_route}
use Rattle.shape.proofs.Grown.{leaf_fine, leaf_bad}
use Rattle.shape.proofs.tree.audit_leaf.Goals as goal

pub returns : goal.returns
returns c low =
    let says = c.in_ok-chain.ensures in
    leaf_fine ipv4 c.args.capacity c.args.pool.now (to_route c.args.place.0) low _ _ says.0 says.1 says.2

pub returns-in_err-chain : goal.returns-in_err-chain
returns-in_err-chain c low =
    rw c.from_residual.ensures (λ t f. leaf_bad ipv4 c.args.capacity c.args.pool.now c.args.place.0 low t c.in_err-chain.ensures f)
