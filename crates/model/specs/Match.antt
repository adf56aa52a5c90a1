-- Demand 2: "a lookup gives the matching route with the longest prefix, or says there is none exactly when there is none".
use Rattle.std.specs.Prelude.{ℕ, ◌≤◌, ◌≡◌, true, cond, List, [], ◌∷◌, ltb}
use Rattle.std.proofs.Math.Option.{Option, none, some}
use Rattle.model.specs.Prefix.{matches}
use Rattle.model.specs.Routes.{Route, Held}

module _ {P : Type 0} where
  -- What the longest match is: held, it matches, and no route that matches is longer.
  pub record LongestMatch (W d : ℕ) (l : List (Route P)) (r : Route P) : Type 0 where
    pub held : Held r l
    pub fits : matches W r.prefix d ≡ true
    pub longest : (q : Route P) → Held q l → matches W q.prefix d ≡ true → q.prefix.length ≤ r.prefix.length

  -- No route matches.
  unfoldable pub NoMatch : ℕ → ℕ → List (Route P) → Type 0
  NoMatch W d l = (q : Route P) → Held q l → matches W q.prefix d ≡ true → ⊥

  -- The function that finds it: of the routes that match, the one with the longest prefix.
  abbrev pub longer : Route P → Option (Route P) → Option (Route P)
  longer r none = some r
  longer r (some q) = cond (ltb r.prefix.length q.prefix.length) (some q) (some r)

  -- Over all routes.
  abbrev pub best : ℕ → ℕ → List (Route P) → Option (Route P)
  best W d [] = none
  best W d (x ∷ xs) = cond (matches W x.prefix d) (longer x (best W d xs)) (best W d xs)
