-- Where `tested` says that the pool is sound, its own words are lent to `walk::first`, and `first_answer` takes what it finds to the promise.
use Rattle.route.specs.Answers.{answer_number, found_value}
use Rattle.pool.specs.Ipv4.{ipv4}
use Rattle.pool.proofs.Ipv4.{laid4}
use Rattle.verdict.proofs.Lent.{sound_own}
use Rattle.read.proofs.Founds.{first_answer}
use Rattle.read.proofs.read.first.Goals as goal

pub returns : goal.returns
returns c =
    let state = c.in_ok-capacity.ensures in
    let found = c.first.result in
    first_answer ipv4 laid4 c.args.pool.now _ _ (sound_own ipv4 _ _ state) c.size_of-own.ensures
    (answer_number found) (found_value found) state.0 state.1 c.first.ensures
