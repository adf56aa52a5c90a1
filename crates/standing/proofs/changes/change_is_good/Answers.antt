-- The slot's prefix and action are read. A prefix that does not obey, and an action that there is not, refuse the change;
-- for each action the change is fine exactly when its payloads are: a law of `Recording` each way.
use Prim.Native.Nat.{ℕ, ◌+◌}
use mathlib.Core.Path.{◌≡◌, refl, sym, ap, subst, ◌∙◌}
use mathlib.Core.Bool.{true, Bool}
use mathlib.Core.Logic.{◌↔◌}
use Rattle.std.specs.Prelude.{Some}
use Rattle.model.specs.Prefix.{well_formed}
use Rattle.model.specs.Ipv4.{may_hold}
use Rattle.model.proofs.Tests.{not_both}
use Rattle.route.specs.Means.{prefix_of}
use Rattle.pool.specs.Action.{action_word}
use Rattle.pool.specs.declared.action.Action.{Action}
use Rattle.pool.specs.declared.action.Action.TheVariants.{Added, Deleted, Changed}
use Rattle.pool.specs.Layout.{word, action_at, prefix_at, changed_at}
use Rattle.pool.specs.Ipv4.{ipv4}
use Rattle.standing.specs.Changes.{PayloadFine}
use Rattle.shape.proofs.Hanging.{refused}
use Rattle.standing.proofs.Actions.{word_of, no_word}
use Rattle.standing.proofs.Recording.{Obeyed, prefix_obeys, add_fine, fine_add, delete_fine, fine_delete, change_fine, fine_change, action_known}
use Rattle.standing.proofs.changes.change_is_good.Goals as goal
use Rattle.standing.proofs.changes.change_is_good.Goals.{After-prefix_at-prefix, After-from_word}
use Rattle.standing.proofs.changes.change_is_good.Goals.{then-not-well_formed-via-then-not-well_formed}
use Rattle.standing.proofs.changes.change_is_good.Goals.{then-not-well_formed-via-else-not-well_formed+then-not-may_be_held}

-- the prefix and the action are those of the slot
prefix_there : (c : After-prefix_at-prefix) → prefix_of c.prefix_at-prefix.result ≡ changed_at ipv4 c.args.capacity c.args.pool.now c.args.change
prefix_there c =
    c.prefix_at-prefix.ensures ∙ ap (λ (n : ℕ). prefix_at ipv4 c.args.pool.now (n + 1)) c.slot-at.ensures

action_there : (c : After-from_word) (a : Action) → c.from_word.result ≡ Some a
    → action_at ipv4 c.args.capacity c.args.pool.now c.args.change ≡ action_word a
action_there c a e = sym (ap (word c.args.pool.now) c.slot-at.ensures) ∙ word_of _ a (sym c.from_word.ensures ∙ e)

-- what is said of a payload at an offset from the slot's place, said of the slot
payload_fine : (c : After-from_word) (good : Bool) (offset : ℕ)
    → let fine = PayloadFine ipv4 c.args.pool.now (changed_at ipv4 c.args.capacity c.args.pool.now c.args.change) in
    (good ≡ true) ↔ fine (c.slot-at.result + offset) → (good ≡ true) ↔ fine (ipv4.slot c.args.capacity c.args.change + offset)
payload_fine c good offset h =
    let fine = PayloadFine ipv4 c.args.pool.now (changed_at ipv4 c.args.capacity c.args.pool.now c.args.change) in
    subst (λ (n : ℕ). (good ≡ true) ↔ fine (n + offset)) c.slot-at.ensures h

pub returns-then-not-well_formed : goal.returns-then-not-well_formed
returns-then-not-well_formed c =
    let there = prefix_there (goal.at.returns-then-not-well_formed c).After-prefix_at-prefix in
    let obeys = prefix_obeys ipv4 c.args.capacity c.args.pool.now c.args.change in
    refused (λ f. elim c.then-not-well_formed.branch [
      | then-not-well_formed-via-then-not-well_formed w ↦
          not_both (ap (well_formed 32) there ∙ (obeys f).0) (sym c.well_formed-2.ensures ∙ w.if-not-well_formed.true)
      | then-not-well_formed-via-else-not-well_formed+then-not-may_be_held w ↦
          not_both (ap may_hold there ∙ (obeys f).1) (sym w.may_be_held.ensures ∙ w.if-not-may_be_held.true)
    ])

-- the prefix obeys
obeyed : (c : After-from_word) → Obeyed ipv4 c.args.capacity c.args.pool.now c.args.change
obeyed c =
    let there = c.prefix_at-prefix.ensures ∙ ap (λ (n : ℕ). prefix_at ipv4 c.args.pool.now (n + 1)) c.slot-at.ensures in (
      sym (ap (well_formed 32) there) ∙ sym c.well_formed-2.ensures ∙ c.if-not-well_formed.false,
      sym (ap may_hold there) ∙ sym c.may_be_held.ensures ∙ c.if-not-may_be_held.false,
    )

pub returns-in-Some-Added : goal.returns-in-Some-Added
returns-in-Some-Added c =
    let read = (goal.at.returns-in-Some-Added c).After-from_word in
    let action = action_there read Added (c.in-Some-Added.is ∙ ap Some c.in-Some-Added.field-0-is) in
    let fine = payload_fine read c.payload_is_good.result 8 (c.payload_is_good.ensures _) in
    (λ t. add_fine ipv4 _ _ _ action (obeyed read) (fine.0 t), λ f. fine.1 (fine_add ipv4 _ _ _ action f))

pub returns-in-Some-Deleted : goal.returns-in-Some-Deleted
returns-in-Some-Deleted c =
    let read = (goal.at.returns-in-Some-Deleted c).After-from_word in
    let action = action_there read Deleted (c.in-Some-Deleted.is ∙ ap Some c.in-Some-Deleted.field-0-is) in
    let fine = payload_fine read c.payload_is_good-in-Some-Deleted.result 3 (c.payload_is_good-in-Some-Deleted.ensures _) in
    (λ t. delete_fine ipv4 _ _ _ action (obeyed read) (fine.0 t), λ f. fine.1 (fine_delete ipv4 _ _ _ action f))

pub returns-else-payload_is_good : goal.returns-else-payload_is_good
returns-else-payload_is_good c =
    let read = (goal.at.returns-else-payload_is_good c).After-from_word in
    let action = action_there read Changed (c.in-Some-Changed.is ∙ ap Some c.in-Some-Changed.field-0-is) in
    let old-fine = payload_fine read c.payload_is_good-in-Some-Changed.result 3 (c.payload_is_good-in-Some-Changed.ensures _) in
    (λ t. absurd (not_both t c.if-payload_is_good.false), λ f. old-fine.1 (fine_change ipv4 _ _ _ action f).0)

pub returns-then-payload_is_good : goal.returns-then-payload_is_good
returns-then-payload_is_good c =
    let read = (goal.at.returns-then-payload_is_good c).After-from_word in
    let action = action_there read Changed (c.in-Some-Changed.is ∙ ap Some c.in-Some-Changed.field-0-is) in
    let old-fine = payload_fine read c.payload_is_good-in-Some-Changed.result 3 (c.payload_is_good-in-Some-Changed.ensures _) in
    let new-fine = payload_fine read c.payload_is_good-then-payload_is_good.result 8 (c.payload_is_good-then-payload_is_good.ensures _) in
    let old-good = old-fine.0 c.if-payload_is_good.true in
    (λ t. change_fine ipv4 _ _ _ action (obeyed read) old-good (new-fine.0 t), λ f. new-fine.1 (fine_change ipv4 _ _ _ action f).1)

pub returns-in-None : goal.returns-in-None
returns-in-None c =
    let there = ap (word c.args.pool.now) c.slot-at.ensures in
    let none = sym c.from_word.ensures ∙ c.in-None.is in
    refused (action_known ipv4 _ _ _
    (λ e. no_word _ 1 Added none refl (there ∙ e))
    (λ e. no_word _ 2 Deleted none refl (there ∙ e))
    (λ e. no_word _ 3 Changed none refl (there ∙ e)))
