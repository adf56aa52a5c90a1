-- `bits::is_clear` meets its contract.
use Rattle.bits.proofs.Mask.{clear_trailing}
use Rattle.bits.proofs.is_clear.Goals as goal

pub returns : goal.returns
returns c = clear_trailing 32 c.args.length c.args.address c.requires
