-- `table::lookup` keeps its promise, and `show` writes the words of what it found: `out_shows`.
use borrow.Author.Rules.{rules}
use Rattle.route.specs.Answers.{found_value}
use Rattle.codes.proofs.Coded.{out_shows}
use Rattle.exports.proofs.reading.rishavand_lookup.Goals as goal

pub returns : goal.returns
returns c = out_shows c.lookup.result c.map.result found_value c.map.ensures.cases (λ x ws h. search rules) c.show.ensures c.lookup.ensures
