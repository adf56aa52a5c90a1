-- `table::mask_length` keeps its promise, and `show` writes its number: `out_shows`.
use borrow.Author.Rules.{rules}
use Rattle.route.specs.Answers.{measured_value}
use Rattle.codes.proofs.Coded.{out_shows}
use Rattle.exports.proofs.reading.rishavand_mask_length.Goals as goal

pub returns : goal.returns
returns c = out_shows c.mask_length.result c.map.result measured_value c.map.ensures.cases (λ x ws h. search rules) c.show.ensures c.mask_length.ensures
