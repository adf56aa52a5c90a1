-- What a recorded change did, as the first word of its slot says it: 1 add, 2 delete, 3 change.
use Rattle.std.specs.Prelude.{ℕ, zero, suc, Option, Some, None}
use Rattle.pool.specs.declared.action.Action.{Action}
use Rattle.pool.specs.declared.action.Action.TheVariants.{Added, Deleted, Changed}

-- The word of an action.
abbrev pub action_word : Action → ℕ
action_word Added = 1
action_word Deleted = 2
action_word Changed = 3

-- How the code reads one: any other word is none.
abbrev pub action_from : ℕ → Option Action
action_from zero = None
action_from (suc zero) = Some Added
action_from (suc (suc zero)) = Some Deleted
action_from (suc (suc (suc zero))) = Some Changed
action_from (suc (suc (suc (suc n)))) = None
