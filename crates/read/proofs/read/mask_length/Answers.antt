-- `route::measure` measures the mask, and `mask_answer_lem` takes what it says to the promise.
use Rattle.read.proofs.Answers.{mask_answer_lem}
use Rattle.read.proofs.read.mask_length.Goals as goal

pub returns : goal.returns
returns c ws = mask_answer_lem ws c.args.mask c.measure.result c.measure.ensures
