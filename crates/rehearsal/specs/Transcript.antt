-- The calls of a run with their numbers, newest first, and the routes that it leaves.
use Rattle.std.specs.Prelude.{ℕ, List, [], ◌∷◌}
use Rattle.model.specs.Routes.{Route}
use Rattle.model.specs.Ipv4.{direct, fixed, learned, Payload}
use Rattle.model.specs.State.{plain, learner}
use Rattle.model.specs.Call.{Call, fresh, add, delete, change, lookup, open_trial, keep, back_out, step_back}
use Rattle.model.specs.Examples.{ip, B, J, K}

-- A route to the same prefix by another port.
abbrev pub by : ℕ → Route Payload → Route Payload
by n r = record { prefix = r.prefix; payload = record { hop = direct n; origin = fixed } }

-- The same route, learned with a metric.
abbrev pub heard_of : ℕ → Route Payload → Route Payload
heard_of m r = record { prefix = r.prefix; payload = record { hop = r.payload.hop; origin = learned m } }

-- The calls of the run in a buffer of n words.
abbrev pub transcript : ℕ → List (Call Payload × ℕ)
transcript n =
    (back_out, 0)
    ∷ (delete plain K.prefix, 0)
    ∷ (open_trial, 0)
    ∷ (keep, 0)
    ∷ (step_back, 0)
    ∷ (change (by 5 J), 0)
    ∷ (delete plain B.prefix, 0)
    ∷ (add K, 0)
    ∷ (open_trial, 0)
    ∷ (lookup (ip 127 0 0 2), 0)
    ∷ (add (by 1 B), 5)
    ∷ (delete learner B.prefix, 15)
    ∷ (add (heard_of 3 J), 0)
    ∷ (add B, 0)
    ∷ (fresh 3 n, 0)
    ∷ []

-- A learner could not delete B, and a plain hand deleted it in the trial that was kept; the plain change of J, which made it fixed, was stepped back, so J is
-- learned again; the delete of K was backed out of.
abbrev pub left : List (Route Payload)
left = heard_of 3 J ∷ K ∷ []
