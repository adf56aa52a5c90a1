-- What a change leaves held when it is taken back, by its action and by whether its route is there (`is_there`): one law for each return.
use mathlib.Core.Path.{◌≡◌, sym, ap, ◌∙◌}
use mathlib.Core.Logic.{⊎_elim}
use Rattle.std.specs.Prelude.{Some}
use Rattle.std.proofs.lemmas.Grind.{common_steps}
use native.Mathlib.Omega.{arith}
use Rattle.pool.specs.Action.{action_from, action_word}
use Rattle.pool.specs.declared.action.Action.{Action}
use Rattle.pool.specs.declared.action.Action.TheVariants.{Added, Deleted}
use Rattle.pool.specs.Layout.{word, action_at}
use Rattle.pool.specs.Ipv4.{ipv4}
use Rattle.standing.proofs.Actions.{word_of}
use Rattle.standing.proofs.Turning.{delete_there, delete_full, delete_held, gone, change_held, add_none, add_held}
use Rattle.standing.proofs.changes.take_back.Goals as goal
use Rattle.standing.proofs.changes.take_back.Goals.{After-from_word, In_default, in_default-via-in-Some+in_default, in_default-via-in_default}

-- the action is the slot's
action_there : (c : After-from_word) (a : Action) → c.from_word.result ≡ Some a
    → action_at ipv4 c.args.capacity c.args.pool.now c.args.change ≡ action_word a
action_there c a e = sym (ap (word c.args.pool.now) c.slot-at.ensures) ∙ word_of _ a (sym c.from_word.ensures ∙ e)

-- where it is neither an add nor a delete
not_added : (c : In_default) → action_at ipv4 c.args.capacity c.args.pool.now c.args.change ≡ 1 → ⊥
not_added c e =
    let k : c.from_word.result ≡ Some Added = c.from_word.ensures ∙ ap action_from (ap (word c.args.pool.now) c.slot-at.ensures ∙ e) in
    elim c.in_default.branch [
      | in_default-via-in-Some+in_default w ↦ grind (arith, common_steps)
      | in_default-via-in_default w ↦ grind (arith, common_steps)
    ]

not_deleted : (c : In_default) → action_at ipv4 c.args.capacity c.args.pool.now c.args.change ≡ 2 → ⊥
not_deleted c e =
    let k : c.from_word.result ≡ Some Deleted = c.from_word.ensures ∙ ap action_from (ap (word c.args.pool.now) c.slot-at.ensures ∙ e) in
    elim c.in_default.branch [
      | in_default-via-in-Some+in_default w ↦ grind (arith, common_steps)
      | in_default-via-in_default w ↦ grind (arith, common_steps)
    ]

pub returns-then-not-there : goal.returns-then-not-there
returns-then-not-there c =
    let says = c.is_there-there.ensures in
    let action = action_there (goal.at.returns-then-not-there c).After-from_word Added (c.in-Some-Added.is ∙ ap Some c.in-Some-Added.field-0-is) in
    ⊎_elim
    (λ e. gone ipv4 _ _ _ _ _ _ says (λ d. omega (arith, action, d)) e)
    (λ e. add_none ipv4 _ _ _ _ _ _ says action e.1)
    c.then-not-there.either

pub returns-else-held-eq0 : goal.returns-else-held-eq0
returns-else-held-eq0 c =
    let action = action_there (goal.at.returns-else-held-eq0 c).After-from_word Added (c.in-Some-Added.is ∙ ap Some c.in-Some-Added.field-0-is) in
    add_held ipv4 _ _ _ _ _ _ c.is_there-there.ensures action c.if-not-there.false c.if-held-eq0.false c.requires.held_le_capacity

pub returns-then-there : goal.returns-then-there
returns-then-there c =
    let says = c.is_there-there.ensures in
    let action = action_there (goal.at.returns-then-there c).After-from_word Deleted (c.in-Some-Deleted.is ∙ ap Some c.in-Some-Deleted.field-0-is) in
    ⊎_elim
    (λ e. delete_there ipv4 _ _ _ _ _ _ says action e)
    (λ e. delete_full ipv4 _ _ _ _ _ _ says action e.1)
    c.then-there.either

pub returns-else-capacity-held : goal.returns-else-capacity-held
returns-else-capacity-held c =
    let action = action_there (goal.at.returns-else-capacity-held c).After-from_word Deleted (c.in-Some-Deleted.is ∙ ap Some c.in-Some-Deleted.field-0-is) in
    delete_held ipv4 _ _ _ _ _ _ c.is_there-there.ensures action c.if-there.false c.if-capacity-held.false

pub returns-then-not-there-2 : goal.returns-then-not-there-2
returns-then-not-there-2 c =
    gone ipv4 _ _ _ _ _ _ c.is_there-there.ensures (not_deleted (goal.at.returns-then-not-there-2 c).In_default) c.if-not-there-2.true

pub returns-else-not-there-2 : goal.returns-else-not-there-2
returns-else-not-there-2 c =
    let other = (goal.at.returns-else-not-there-2 c).In_default in
    change_held ipv4 _ _ _ _ _ _ c.is_there-there.ensures (not_deleted other) (not_added other) c.if-not-there-2.false c.requires.held_le_capacity
