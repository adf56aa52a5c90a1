-- `bits::parting` meets its contract.
use Rattle.bits.proofs.Part.{part_xor}
use Rattle.bits.proofs.parting.Goals as goal

pub returns : goal.returns
returns c = part_xor 32 c.args.x c.args.y c.ranges.x.fits c.ranges.y.fits
