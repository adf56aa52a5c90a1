-- `bits::bit_of` meets its contract.
use Rattle.bits.proofs.First.{bit_shift}
use Rattle.bits.proofs.bit_of.Goals as goal

pub returns : goal.returns
returns c = bit_shift 31 c.args.index c.args.address
