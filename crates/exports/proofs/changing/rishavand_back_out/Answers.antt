-- `table::back_out` keeps its promise, and the code is the number that it returns: `as_call`.
use mathlib.Core.Path.{refl}
use Rattle.pool.specs.Ipv4.{ipv4}
use Rattle.promise.specs.Trees.{tree}
use Rattle.exports.proofs.Answers.{as_call}
use Rattle.exports.proofs.changing.rishavand_back_out.Goals as goal

pub returns : goal.returns
returns c = as_call (tree ipv4) refl c.number.ensures c.back_out.ensures
