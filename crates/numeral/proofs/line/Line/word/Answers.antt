-- Where the word begins, the bytes up to the next blank are the word: `word_there`.
use borrow.Author.Rules.{rules}
use Rattle.numeral.proofs.Wording.{word_there}
use Rattle.numeral.proofs.line.Line.word.Goals as goal

pub returns : goal.returns
returns c =
    let r = c.count_until.ensures in
    word_there _ _ _ _ c.start-start.ensures r.within (λ j l. search (rules, r.goes_on j l)) (λ l. search (rules, r.stops l))
