-- What a call with an out-parameter owes.
use Rattle.std.specs.Prelude.{ℕ, ◌≡◌, List, [], ◌∷◌, Result, Ok, Err}
use Rattle.model.specs.Ipv4.{Payload}
use Rattle.model.specs.Call.{Value, nothing, route, count}
use Rattle.route.specs.declared.answer.Refusal.{Refusal}
use Rattle.route.specs.Answers.{refusal_number}
use Rattle.codes.specs.Codes.{route_words}

-- The words of a value.
abbrev pub value_words : Value Payload → List ℕ
value_words nothing = []
value_words (route r) = route_words r
value_words (count n) = n ∷ []

-- The call promises P of its number and of a value. The out-parameter is that value on 0, and on a refusal it is as it was.
pub record Out (P : ℕ → Value Payload → Type 0) (n : ℕ) (before after : List ℕ) : Type 0 where
  pub shown : Value Payload
  pub promised : P n shown
  pub written : n ≡ 0 → after ≡ value_words shown
  pub kept : (n ≡ 0 → ⊥) → after ≡ before

-- This number and this value.
abbrev pub Exactly : ℕ → Value Payload → ℕ → Value Payload → Type 0
Exactly m w n v = (n ≡ m) × (v ≡ w)

-- The number of an answer, whose words go out on 0; a refusal leaves the out-parameter as it was.
abbrev pub GoesOut : Result (List ℕ) Refusal → ℕ → List ℕ → List ℕ → Type 0
GoesOut (Ok words) n before after = (n ≡ 0) × (after ≡ words)
GoesOut (Err x) n before after = (n ≡ refusal_number x) × (after ≡ before)
