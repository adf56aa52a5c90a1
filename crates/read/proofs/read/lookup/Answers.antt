-- `own_words` says whether the capacity is in range and the words are enough. Where they are, the pool's own words are lent to
-- `climb::longest_match`, and `lookup_answer` takes what it finds to the promise.
use Rattle.route.specs.Answers.{answer_number, found_value}
use Rattle.pool.specs.Ipv4.{ipv4}
use Rattle.pool.proofs.Ipv4.{laid4}
use Rattle.read.proofs.Founds.{lookup_answer}
use Rattle.read.proofs.read.lookup.Goals as goal

pub returns : goal.returns
returns c =
    let found = c.longest_match.result in
    lookup_answer ipv4 laid4 c.args.pool.now _ _ c.in_ok-capacity.ensures c.size_of-own.ensures _
    (answer_number found) (found_value found) c.longest_match.ensures
