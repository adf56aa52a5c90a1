-- Where `tested` says that the pool is sound and the prefix is well formed, the pool's own words are lent to `walk::next`, and `next_answer`
-- takes what it finds to the promise.
use mathlib.Core.Path.{sym, ◌∙◌}
use Rattle.route.specs.Answers.{answer_number, found_value}
use Rattle.pool.specs.Ipv4.{ipv4}
use Rattle.pool.proofs.Ipv4.{laid4}
use Rattle.verdict.proofs.Lent.{sound_own}
use Rattle.read.proofs.Founds.{next_answer}
use Rattle.read.proofs.read.next.Goals as goal

pub returns : goal.returns
returns c =
    let state = c.in_ok-capacity.ensures in
    let formed = sym c.well_formed-2.ensures ∙ c.if-not-well_formed.false in
    let found = c.next.result in
    next_answer ipv4 laid4 c.args.pool.now _ _ (sound_own ipv4 _ _ state) c.size_of-own.ensures _
    (answer_number found) (found_value found) state.0 state.1 formed c.next.ensures
