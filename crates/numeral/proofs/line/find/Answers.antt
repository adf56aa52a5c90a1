-- Up to where the count ends there are other bytes, and there it stands: `first_from`.
use borrow.Author.Rules.{rules}
use Rattle.numeral.proofs.Wording.{first_from}
use Rattle.numeral.proofs.line.find.Goals as goal

pub returns-clause-first : goal.returns-clause-first
returns-clause-first c =
    let r = c.count_until.ensures in
    first_from _ _ _ _ r.within (λ j l. search (rules, r.goes_on j l)) (λ l. search (rules, r.stops l))
