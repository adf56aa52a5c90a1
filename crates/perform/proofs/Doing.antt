-- What a command does, as the code finds out which one it is.
use Prim.Native.Nat.{ℕ}
use mathlib.Core.Path.{◌≡◌, refl, sym, subst}
use mathlib.Core.List.{List}
use Rattle.std.specs.Prelude.{Result}
use Rattle.model.specs.Ipv4 as ipv4
use Rattle.model.specs.Call as call
use Rattle.route.specs.Answers.{answer_number}
use Rattle.route.specs.declared.answer.Refusal.{Refusal}
use Rattle.pool.specs.Ipv4.{ipv4 as words4}
use Rattle.promise.specs.Promise.{Promise}
use Rattle.promise.specs.Trees.{tree}
use Rattle.command.specs.declared.asked.Command.{Command}
use Rattle.perform.specs.declared.Changed.{Changed}
use Rattle.perform.specs.Performs.{Calls, Performs}

-- once the command is known
pub known : {k k' : Command} (ws zs : List ℕ) (r : Changed) → k ≡ k' → Performs k' ws zs r → Performs k ws zs r
known ws zs r e d = subst (λ (x : Command). Performs x ws zs r) (sym e) d

-- the answer of a call, by its number
pub calls : {c : call.Call ipv4.Payload} {ws zs : List ℕ} {a : Result (Unit {0}) Refusal} {m : ℕ} → answer_number a ≡ m
    → Promise (tree words4) c ws zs m call.nothing → Calls c ws zs (Changed.Answered a)
calls {a = a} e p = (a, refl, rw e p)

-- a command that is none of those which change a word
pub keeps : (ws : List ℕ) (k : Command)
    → ((c : _) → k ≡ Command.Fresh c → ⊥)
    → ((r : _) → k ≡ Command.Add r → ⊥)
    → ((by p : _) → k ≡ Command.Delete by p → ⊥)
    → ((r : _) → k ≡ Command.Change r → ⊥)
    → (k ≡ Command.Open → ⊥)
    → (k ≡ Command.Keep → ⊥)
    → (k ≡ Command.Back → ⊥)
    → (k ≡ Command.Step → ⊥)
    → ((i v : _) → k ≡ Command.Poke i v → ⊥)
    → Performs k ws ws Changed.Nothing
keeps ws Command.Nothing fresh add delete change trial keep back step poke = (refl, refl)
keeps ws (Command.Fresh c) fresh add delete change trial keep back step poke = absurd (fresh c refl)
keeps ws (Command.Add r) fresh add delete change trial keep back step poke = absurd (add r refl)
keeps ws (Command.Delete by p) fresh add delete change trial keep back step poke = absurd (delete by p refl)
keeps ws (Command.Change r) fresh add delete change trial keep back step poke = absurd (change r refl)
keeps ws (Command.Lookup d) fresh add delete change trial keep back step poke = (refl, refl)
keeps ws Command.First fresh add delete change trial keep back step poke = (refl, refl)
keeps ws (Command.Next p) fresh add delete change trial keep back step poke = (refl, refl)
keeps ws Command.Room fresh add delete change trial keep back step poke = (refl, refl)
keeps ws (Command.Mask m) fresh add delete change trial keep back step poke = (refl, refl)
keeps ws Command.Open fresh add delete change trial keep back step poke = absurd (trial refl)
keeps ws Command.Keep fresh add delete change trial keep back step poke = absurd (keep refl)
keeps ws Command.Back fresh add delete change trial keep back step poke = absurd (back refl)
keeps ws Command.Step fresh add delete change trial keep back step poke = absurd (step refl)
keeps ws Command.Sound fresh add delete change trial keep back step poke = (refl, refl)
keeps ws Command.List fresh add delete change trial keep back step poke = (refl, refl)
keeps ws (Command.Words c) fresh add delete change trial keep back step poke = (refl, refl)
keeps ws (Command.Peek i) fresh add delete change trial keep back step poke = (refl, refl)
keeps ws (Command.Poke i v) fresh add delete change trial keep back step poke = absurd (poke i v refl)
keeps ws (Command.Wrong f) fresh add delete change trial keep back step poke = (refl, refl)
