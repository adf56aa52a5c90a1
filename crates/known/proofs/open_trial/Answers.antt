-- Where `judge_open` says that the call may go on, the pool's own words are lent to `apply::open`, which asks that they mean a state
-- in which it is accepted (`goes_accepted`); `goes` takes what they become to the promise. Where it says no, the pool stays as it is: `refused_by`.
use mathlib.Core.Path.{◌≡◌, refl}
use borrow.Author.Rules.{rules}
use Rattle.std.proofs.lemmas.Result.{err_from_is_err_and}
use Rattle.pool.specs.Ipv4.{ipv4}
use Rattle.pool.proofs.Ipv4.{laid4}
use Rattle.promise.specs.Trees.{tree}
use Rattle.known.proofs.Changes.{goes_accepted, goes, refused_by}
use Rattle.known.proofs.open_trial.Goals as goal

pub open-requires-clause-accepted : goal.open-requires-clause-accepted
open-requires-clause-accepted c = goes_accepted ipv4 laid4 _ c.args.pool.now _ _ c.in_ok-capacity.ensures c.size_of-own.ensures

pub returns : goal.returns
returns c =
    goes ipv4 laid4 _ _ _ _ c.in_ok-capacity.ensures c.size_of-own.ensures c.open.new.pool (search rules) refl c.open.ensures

pub returns-in_err-capacity : goal.returns-in_err-capacity
returns-in_err-capacity c =
    let refusal = err_from_is_err_and c.from_residual.result c.from_residual.ensures.1 in
    let same : refusal.0 ≡ c.in_err-capacity.field-0.0 = cc in
    rw (refusal.1, same) (refused_by (tree ipv4) _ _ _ c.in_err-capacity.ensures)
