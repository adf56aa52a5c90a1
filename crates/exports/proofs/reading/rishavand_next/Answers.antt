-- The two numbers make the prefix that the call names, `table::next` keeps its promise, and `show` writes the words of what it found:
-- `out_shows`.
use borrow.Author.Rules.{rules}
use mathlib.Core.Path.{refl, ap}
use Rattle.model.specs.Call.{after}
use Rattle.route.specs.Answers.{found_value}
use Rattle.pool.specs.Ipv4.{ipv4}
use Rattle.promise.specs.Trees.{tree}
use Rattle.codes.proofs.Coded.{prefix_in_lem, out_shows}
use Rattle.exports.proofs.Answers.{as_call}
use Rattle.exports.proofs.reading.rishavand_next.Goals as goal

pub returns : goal.returns
returns c =
    let made = c.new-prefix in
    let named = prefix_in_lem made.result made.ensures.0 made.ensures.1 in
    out_shows c.next.result c.map.result found_value c.map.ensures.cases (λ x ws h. search rules) c.show.ensures (as_call (tree ipv4) (ap after named) refl c.next.ensures)
