-- `table::room_left` keeps its promise, and `show` writes its number: `out_shows`.
use borrow.Author.Rules.{rules}
use Rattle.route.specs.Answers.{room_value}
use Rattle.codes.proofs.Coded.{out_shows}
use Rattle.exports.proofs.reading.rishavand_room.Goals as goal

pub returns : goal.returns
returns c = out_shows c.room_left.result c.map.result room_value c.map.ensures.cases (λ x ws h. search rules) c.show.ensures c.room_left.ensures
