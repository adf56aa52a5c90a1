-- "Each place is exactly one of used or free": the first word of a place is its mark, 0 while the place is free.
use Rattle.std.specs.Prelude.{ℕ, zero, suc, ◌≤◌, ◌<◌, ◌≡◌, Bool, not, cond, List, eqb}
use Rattle.pool.specs.Layout.{Layout, kind_at, mark_at}
use Rattle.places.specs.declared.Sort.{Sort}

-- How many numbers below n pass a test.
abbrev pub tally : (ℕ → Bool) → ℕ → ℕ
tally f zero = 0
tally f (suc n) = cond (f n) (suc (tally f n)) (tally f n)

module _ {P : Type 0} (L : Layout P) where
  -- The mark of a place of either sort.
  abbrev pub mark_of : ℕ → List ℕ → Sort → ℕ → ℕ
  mark_of c ws Sort.Route i = kind_at L ws i
  mark_of c ws Sort.Inner j = mark_at L c ws j

  -- The place is marked as used.
  abbrev pub is_used : ℕ → List ℕ → Sort → ℕ → Bool
  is_used c ws sort i = not (eqb (mark_of c ws sort i) 0)

  -- Not every place of a pool of capacity c is used.
  abbrev pub Spare : ℕ → List ℕ → Sort → Type 0
  Spare c ws sort = ((i : ℕ) → i < c → 1 ≤ mark_of c ws sort i) → ⊥

  -- A place of the pool that is free.
  pub record FreePlace (c : ℕ) (ws : List ℕ) (sort : Sort) (i : ℕ) : Type 0 where
    pub in_pool : i < c
    pub free : mark_of c ws sort i ≡ 0
