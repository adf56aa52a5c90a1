-- The five numbers make the route that the call names, `table::change_hop` keeps its promise, and the code is its number: `as_call`.
use mathlib.Core.Path.{ap}
use Rattle.model.specs.Call.{change}
use Rattle.pool.specs.Ipv4.{ipv4}
use Rattle.promise.specs.Trees.{tree}
use Rattle.exports.proofs.Answers.{as_call}
use Rattle.exports.proofs.changing.rishavand_change.Goals as goal

pub returns : goal.returns
returns c =
    as_call (tree ipv4) (ap change c.route_from-route.ensures) c.number.ensures c.change_hop.ensures
