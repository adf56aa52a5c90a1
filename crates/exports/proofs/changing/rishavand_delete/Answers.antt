-- The two numbers make the prefix that the call names, `table::delete` keeps its promise, and the code is its number: `as_call`.
use mathlib.Core.Path.{ap}
use Rattle.model.specs.State.{plain}
use Rattle.model.specs.Call.{delete}
use Rattle.pool.specs.Ipv4.{ipv4}
use Rattle.promise.specs.Trees.{tree}
use Rattle.codes.proofs.Coded.{prefix_in_lem}
use Rattle.exports.proofs.Answers.{as_call}
use Rattle.exports.proofs.changing.rishavand_delete.Goals as goal

pub returns : goal.returns
returns c =
    let made = c.new-prefix in
    let named = prefix_in_lem made.result made.ensures.0 made.ensures.1 in
    as_call (tree ipv4) (ap (delete plain) named) c.number.ensures c.delete.ensures
