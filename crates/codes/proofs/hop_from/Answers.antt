-- One return for each kind, and one for a number that is no kind.
use borrow.Author.Rules.{rules}
use Rattle.codes.proofs.Coded.{kind_direct, kind_via, kind_reject, kind_none}
use Rattle.codes.proofs.hop_from.Goals as goal

pub returns-in-0 : goal.returns-in-0
returns-in-0 c = kind_direct _ _ _ c.in-0.is

pub returns-in-1 : goal.returns-in-1
returns-in-1 c = kind_via _ _ _ c.in-1.is

pub returns-in-2 : goal.returns-in-2
returns-in-2 c = kind_reject _ _ _ c.in-2.is

pub returns-in_default : goal.returns-in_default
returns-in_default c = kind_none _ _ _ (search rules) (search rules) (search rules)
