-- Where `fresh` is refused, the buffer was too short: `not_refused`. Else the promise of each call, in order, is what `followed` asks of the run;
-- each call keeps the length (`long`), so the run does.
use mathlib.Core.Path.{refl, sym, ◌∙◌}
use Rattle.rehearsal.proofs.Followed.{ok_number, not_refused, followed, followed_routes}
use Rattle.rehearsal.proofs.rehearse.Goals as goal

pub returns-then-is_err-clause-value : goal.returns-then-is_err-clause-value
returns-then-is_err-clause-value c h =
    absurd (not_refused c.args.pool.now _ _ c.fresh.ensures (sym c.is_err.ensures.value ∙ c.if-is_err.true) h)

-- the promises of the calls, and what they make of the run
pub returns : goal.returns
returns c =
    let ran = followed _ _ _ _ _ _ _ _ _ _ _ _ _ _ _ _ _ _ _ _ _ _ _ _ _ _ _ _ _ _ _ _ _ _ _ _ _ _ _ _ _ _ _ _
    c.fresh.ensures
    (ok_number _ (sym c.is_err.ensures.value ∙ c.if-is_err.false))
    c.add.ensures
    c.add-2.ensures
    c.delete.ensures
    c.add-3.ensures
    c.lookup.ensures
    c.open_trial.ensures
    c.add-4.ensures
    c.delete-2.ensures
    c.change_hop.ensures
    c.step_back.ensures
    c.keep_trial.ensures
    c.open_trial-2.ensures
    c.delete-3.ensures
    c.back_out.ensures in
    record { value = λ h. refl; ran = λ h. ran; routes_value = λ h. followed_routes _ _ ran }
