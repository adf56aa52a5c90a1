-- A number past 255 is no octet: `high_octet`.
use borrow.Author.Rules.{rules}
use Rattle.numeral.proofs.Addresses.{high_octet}
use Rattle.numeral.proofs.number.octet.Goals as goal

pub returns-then-n-gt255 : goal.returns-then-n-gt255
returns-then-n-gt255 c = high_octet _ _ _ c.find-end.ensures.first _ c.in_ok-n.ensures (search rules)
