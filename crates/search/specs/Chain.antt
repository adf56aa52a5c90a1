-- What comes behind a route of a leaf.
use Rattle.std.specs.Prelude.{ℕ, ◌<◌, ◌≡◌, List, Option, Some, None, Result, Ok, Err}
use Rattle.patricia.specs.Tree.{Entry}
use Rattle.patricia.specs.Obeys.{Shorter}
use Rattle.pool.specs.Layout.{Layout, next_at, held_prefix}
use Rattle.pool.specs.Link.{to_route}
use Rattle.pool.specs.Holds.{Seat, Chain}
use Rattle.pool.specs.declared.link.Place.{Place}
use Rattle.pool.specs.declared.damage.Damage.{Damage}

module _ {P : Type 0} (L : Layout P) where
  -- Behind place i, whose route has length n: a place whose route is shorter, or the end; damage, where no routes that are shorter hang there.
  abbrev pub HungRight : ℕ → List ℕ → ℕ → ℕ → Result (Option Place) Damage → Type 0
  HungRight c ws i n (Ok (Some p)) = (p.0 < c) × (next_at L ws i ≡ to_route p.0) × ((held_prefix L ws p.0).length < n)
  HungRight c ws i n (Ok None) = next_at L ws i ≡ 0
  HungRight c ws i n (Err d) = (a : ℕ) (es : List (Entry (Seat P))) → Chain L c ws a (next_at L ws i) es → Shorter n es → ⊥
