-- A table's routes: a list strictly in walk order. So the same set of routes is the same list, and "no two routes have the same prefix".
-- P is what a route holds besides its prefix.
use Rattle.std.specs.Prelude.{◌≡◌, Bool, true, false, cond, List, [], ◌∷◌, ◌⊎◌}
use Rattle.std.proofs.Math.Option.{Option, none, some}
use Rattle.model.specs.Prefix.{Prefix, Before, before, same}

-- "Every route holds its hop": a prefix, and what stands for it.
pub record Route (P : Type 0) : Type 0 where
  pub prefix : Prefix
  pub payload : P

module _ {P : Type 0} where
  -- r is one of the routes.
  abbrev pub Held : Route P → List (Route P) → Type 0
  Held r [] = ⊥
  Held r (x ∷ xs) = (r ≡ x) ⊎ Held r xs

  -- Every route of the list comes after p.
  abbrev pub AllAfter : Prefix → List (Route P) → Type 0
  AllAfter p [] = Unit {0}
  AllAfter p (x ∷ xs) = Before p x.prefix × AllAfter p xs

  -- Strictly in walk order.
  abbrev pub InOrder : List (Route P) → Type 0
  InOrder [] = Unit {0}
  InOrder (x ∷ xs) = AllAfter x.prefix xs × InOrder xs

  -- The route that has just this prefix.
  abbrev pub find : Prefix → List (Route P) → Option (Route P)
  find p [] = none
  find p (x ∷ xs) = cond (same p x.prefix) (some x) (find p xs)

  -- "Prefix already there".
  abbrev pub present : Option (Route P) → Bool
  present none = false
  present (some r) = true

  -- Whether a route has this prefix.
  abbrev pub holds : Prefix → List (Route P) → Bool
  holds p l = present (find p l)

  -- One route more, at its place in walk order.
  abbrev pub insert : Route P → List (Route P) → List (Route P)
  insert r [] = r ∷ []
  insert r (x ∷ xs) = cond (before r.prefix x.prefix) (r ∷ x ∷ xs) (x ∷ insert r xs)

  -- The route of this prefix taken out.
  abbrev pub remove : Prefix → List (Route P) → List (Route P)
  remove p [] = []
  remove p (x ∷ xs) = cond (same p x.prefix) xs (x ∷ remove p xs)

  -- The route of r's prefix replaced by r.
  abbrev pub replace : Route P → List (Route P) → List (Route P)
  replace r [] = []
  replace r (x ∷ xs) = cond (same r.prefix x.prefix) (r ∷ xs) (x ∷ replace r xs)

  -- "The walk is asked for the first route, or the next after a given prefix, held or not."
  abbrev pub first_of : List (Route P) → Option (Route P)
  first_of [] = none
  first_of (x ∷ xs) = some x

  -- The first of the routes that come after p.
  abbrev pub next_after : Prefix → List (Route P) → Option (Route P)
  next_after p [] = none
  next_after p (x ∷ xs) = cond (before p x.prefix) (some x) (next_after p xs)
