-- The blanks and then the word are passed, so the place is behind it: `behind_there`.
use borrow.Author.Rules.{rules}
use Rattle.numeral.proofs.Wording.{behind_there}
use Rattle.numeral.proofs.line.Line.end.Goals as goal

pub returns : goal.returns
returns c =
    let r = c.count_until.ensures in
    behind_there _ _ _ _ c.start-start.ensures r.within (λ j l. search (rules, r.goes_on j l)) (λ l. search (rules, r.stops l))
