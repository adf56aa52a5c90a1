-- `table::sound` says whether the pool is sound: 1 where it is, 0 where it is not.
use Rattle.exports.proofs.Answers.{yes_no}
use Rattle.exports.proofs.reading.rishavand_sound.Goals as goal

pub returns : goal.returns
returns c = yes_no c.sound.result c.sound.ensures c.from.ensures
