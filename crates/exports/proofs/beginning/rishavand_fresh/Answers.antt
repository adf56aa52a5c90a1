-- `table::fresh` keeps its promise, and the code is the number that it returns: `as_fresh`.
use Rattle.pool.specs.Ipv4.{ipv4}
use Rattle.promise.specs.Trees.{tree}
use Rattle.exports.proofs.Answers.{as_fresh}
use Rattle.exports.proofs.beginning.rishavand_fresh.Goals as goal

pub returns : goal.returns
returns c = as_fresh (tree ipv4) c.number.ensures c.fresh.ensures
