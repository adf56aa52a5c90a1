-- The blanks are passed, from the line's end on there being none: `starts`.
use borrow.Author.Rules.{rules}
use Rattle.numeral.proofs.Wording.{starts}
use Rattle.numeral.proofs.line.Line.start.Goals as goal

pub returns : goal.returns
returns c =
    let r = c.count_until.ensures in
    starts _ _ _ _ c.min-from.ensures r.within (λ j l. search (rules, r.goes_on j l)) (λ l. search (rules, r.stops l))
