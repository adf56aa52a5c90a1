-- What a word is that was read as an action, or as none.
use Prim.Native.Nat.{ℕ, zero, suc}
use mathlib.Core.Path.{◌≡◌, ap, sym, ◌∙◌}
use Rattle.std.specs.Prelude.{Some, None}
use Rattle.std.proofs.lemmas.Option.{none-some, same_Some}
use Rattle.pool.specs.Action.{action_from, action_word}
use Rattle.pool.specs.declared.action.Action.{Action}
use Rattle.pool.specs.declared.action.Action.TheVariants.{Added, Deleted, Changed}

pub word_of : (n : ℕ) (a : Action) → action_from n ≡ Some a → n ≡ action_word a
word_of zero a e = absurd (none-some a e)
word_of (suc zero) a e = ap action_word (same_Some Added a e)
word_of (suc (suc zero)) a e = ap action_word (same_Some Deleted a e)
word_of (suc (suc (suc zero))) a e = ap action_word (same_Some Changed a e)
word_of (suc (suc (suc (suc n)))) a e = absurd (none-some a e)

pub no_word : (n m : ℕ) (a : Action) → action_from n ≡ None → action_from m ≡ Some a → n ≡ m → ⊥
no_word n m a none some e = none-some a (sym none ∙ ap action_from e ∙ some)
