-- What a command does to the words: one public call, one word poked inside the buffer, or nothing at all.
use Rattle.std.specs.Prelude.{ℕ, ◌≤◌, ◌<◌, ◌≡◌, List, ◌⊎◌, length, set, Result, Ok}
use Rattle.model.specs.Ipv4 as ipv4
use Rattle.model.specs.Call as call
use Rattle.route.specs.Means.{prefix_of, route_of, hand_is}
use Rattle.route.specs.Answers.{answer_number}
use Rattle.route.specs.declared.answer.Refusal.{Refusal}
use Rattle.pool.specs.Ipv4.{ipv4 as words4}
use Rattle.promise.specs.Promise.{Promise, FreshPromise}
use Rattle.promise.specs.Trees.{tree}
use Rattle.command.specs.declared.asked.Command.{Command}
use Rattle.perform.specs.declared.Changed.{Changed}

-- The answer has the number that the call's promise gives.
abbrev pub Calls : call.Call ipv4.Payload → List ℕ → List ℕ → Changed → Type 0
Calls c ws zs r = (a : Result (Unit {0}) Refusal) × (r ≡ Changed.Answered a) × Promise (tree words4) c ws zs (answer_number a) call.nothing

-- The same of a fresh table.
abbrev pub Begins : ℕ → List ℕ → List ℕ → Changed → Type 0
Begins c ws zs r = (a : Result (Unit {0}) Refusal) × (r ≡ Changed.Answered a) × FreshPromise (tree words4) c ws zs (answer_number a)

-- A word inside the buffer is written; outside it nothing is.
abbrev pub Pokes : ℕ → ℕ → List ℕ → List ℕ → Changed → Type 0
Pokes i v ws zs r = ((i < length ws) × (r ≡ Changed.Answered (Ok tt)) × (zs ≡ set ws i v)) ⊎ ((length ws ≤ i) × (r ≡ Changed.Outside) × (zs ≡ ws))

-- No word is written.
abbrev pub Keeps : List ℕ → List ℕ → Changed → Type 0
Keeps ws zs r = (r ≡ Changed.Nothing) × (zs ≡ ws)

-- What a command does to the words, and what is answered to that.
abbrev pub Performs : Command → List ℕ → List ℕ → Changed → Type 0
Performs (Command.Fresh c) = Begins c
Performs (Command.Add r) = Calls (call.add (route_of r))
Performs (Command.Delete h p) = Calls (call.delete (hand_is h) (prefix_of p))
Performs (Command.Change r) = Calls (call.change (route_of r))
Performs Command.Open = Calls call.open_trial
Performs Command.Keep = Calls call.keep
Performs Command.Back = Calls call.back_out
Performs Command.Step = Calls call.step_back
Performs (Command.Poke i v) = Pokes i v
Performs Command.Nothing = Keeps
Performs (Command.Lookup d) = Keeps
Performs Command.First = Keeps
Performs (Command.Next p) = Keeps
Performs Command.Room = Keeps
Performs (Command.Mask m) = Keeps
Performs Command.Sound = Keeps
Performs Command.List = Keeps
Performs (Command.Words c) = Keeps
Performs (Command.Peek i) = Keeps
Performs (Command.Wrong f) = Keeps
