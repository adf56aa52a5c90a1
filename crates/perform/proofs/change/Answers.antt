-- One return for each command: `known` says what the command means, and the answer is the one of the call that it makes. Keep and back out
-- change the same words, so there the search has to find the call and its promise. A command that changes nothing keeps the words: `keeps`.
use mathlib.Core.Path.{refl}
use borrow.Author.Rules.{rules}
use Rattle.perform.proofs.Doing.{known, keeps}
use Rattle.perform.proofs.change.Goals as goal

pub returns-in-Fresh : goal.returns-in-Fresh
returns-in-Fresh c = known _ _ _ c.in-Fresh.is (_, refl, c.fresh.ensures)

pub returns-in-Add : goal.returns-in-Add
returns-in-Add c = known _ _ _ c.in-Add.is (_, refl, c.add.ensures)

pub returns-in-Delete : goal.returns-in-Delete
returns-in-Delete c = known _ _ _ c.in-Delete.is (_, refl, c.delete.ensures)

pub returns-in-Change : goal.returns-in-Change
returns-in-Change c = known _ _ _ c.in-Change.is (_, refl, c.change_hop.ensures)

pub returns-in-Open : goal.returns-in-Open
returns-in-Open c = known _ _ _ c.in-Open.is (_, refl, c.open_trial.ensures)

pub returns-in-Keep : goal.returns-in-Keep
returns-in-Keep c = known _ _ _ c.in-Keep.is (search rules)

pub returns-in-Back : goal.returns-in-Back
returns-in-Back c = known _ _ _ c.in-Back.is (search rules)

pub returns-in-Step : goal.returns-in-Step
returns-in-Step c = known _ _ _ c.in-Step.is (_, refl, c.step_back.ensures)

pub returns-in-Poke : goal.returns-in-Poke
returns-in-Poke c = known _ _ _ c.in-Poke.is c.poke.ensures

pub returns-in_default : goal.returns-in_default
returns-in_default c =
    let other = c.in_default in
    keeps _ _ other.not-Fresh other.not-Add other.not-Delete other.not-Change other.not-Open other.not-Keep other.not-Back other.not-Step other.not-Poke
