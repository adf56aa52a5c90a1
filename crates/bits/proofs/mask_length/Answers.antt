-- `bits::mask_length` meets its contract. The machine counts all ones of a number, which are those of its 32 bits.
use borrow.Author.Tests.{eq-eqb, ne_eqb}
use Rattle.bits.specs.Mask.{good_mask, mask_length}
use Rattle.bits.specs.Answer.{mask_answer}
use Rattle.bits.proofs.Mask.{ones_all}
use Rattle.bits.proofs.mask_length.Goals as goal

pub returns-then-is_good : goal.returns-then-is_good
unfolding mask_answer good_mask mask_length
returns-then-is_good c = simp (ones_all 32 c.args.mask c.ranges.mask.fits, eq-eqb _ _ c.if-is_good.true)

pub returns-else-is_good : goal.returns-else-is_good
unfolding mask_answer good_mask mask_length
returns-else-is_good c = simp (ones_all 32 c.args.mask c.ranges.mask.fits, ne_eqb _ _ c.if-is_good.false)
