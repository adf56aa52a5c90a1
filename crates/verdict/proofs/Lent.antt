-- The pool's own words, and the whole pool tested.
use Prim.Native.Nat.{ℕ, ◌≤◌}
use mathlib.Core.Path.{◌≡◌, sym, ap, ◌∙◌}
use mathlib.Core.Bool.{Bool, true, false, true≢false}
use mathlib.Core.List.{List}
use mathlib.Core.Logic.{◌↔◌}
use native.Mathlib.Nat.{le_trans, le_of_eq}
use lib.ListN.{length, take}
use lib.Seq.{length-take-le}
use Rattle.model.specs.State.{State}
use Rattle.pool.specs.Layout.{Layout, size}
use Rattle.pool.specs.Fit.{Fit}
use Rattle.pool.specs.Means.{Means}
use Rattle.pool.proofs.Local.{means_part}
use Rattle.pool.proofs.Laid.{Laid}
use Rattle.promise.specs.Table.{Sound}
use Rattle.promise.specs.Trees.{tree}
use Rattle.verdict.specs.Own.{OwnRight}
use Rattle.std.specs.Prelude.{Ok}

module _ {P : Type 0} (L : Layout P) where
  -- the own words of a pool of capacity c are there
  pub own_in : (ws : List ℕ) (c n : ℕ) → OwnRight (tree L) ws (Ok c) → n ≡ size L c → n ≤ length ws
  own_in ws c n o e = le_trans (le_of_eq e) o.3

  -- a sound pool's capacity is in range, and its words are enough
  pub sound_own : (ws : List ℕ) (c : ℕ) → (s : State P) × Means L ws s × (s.capacity ≡ c) → OwnRight (tree L) ws (Ok c)
  sound_own ws c v = (
    le_trans v.1.lawful.at_least_one (le_of_eq v.2),
    le_trans (le_of_eq (sym v.2)) v.1.lawful.in_range,
    v.1.capacity_there ∙ v.2,
    le_trans (le_of_eq (ap (size L) (sym v.2))) v.1.long_enough,
  )

module _ {P : Type 0} (L : Layout P) (laid : Laid L) where
  -- the own words fit the capacity
  pub own_fits : (ws : List ℕ) (c n : ℕ) → OwnRight (tree L) ws (Ok c) → n ≡ size L c → Fit L c (take n ws)
  own_fits ws c n o e = (le_trans o.1 laid.limit_small, length-take-le n ws (own_in L ws c n o e) ∙ e)

  -- sound in its own words is sound
  pub own_sound : (ws : List ℕ) (c n : ℕ) → OwnRight (tree L) ws (Ok c) → n ≡ size L c → (s : State P) → s.capacity ≡ c → Means L (take n ws) s ↔ Means L ws s
  own_sound ws c n o e s f = means_part L laid ws n s (own_in L ws c n o e) (le_of_eq (ap (size L) f ∙ sym e))

  pub tested_sound : (ws : List ℕ) (c n : ℕ) (r : Bool) → OwnRight (tree L) ws (Ok c) → n ≡ size L c
      → (r ≡ true) ↔ ((s : State P) × Means L (take n ws) s × (s.capacity ≡ c)) → r ≡ true
      → (s : State P) × Means L ws s × (s.capacity ≡ c)
  tested_sound ws c n r o e a t = let v = a.0 t in (v.0, (own_sound ws c n o e v.0 v.2).0 v.1, v.2)

  pub tested_unsound : (ws : List ℕ) (c n : ℕ) (r : Bool) → OwnRight (tree L) ws (Ok c) → n ≡ size L c
      → (r ≡ true) ↔ ((s : State P) × Means L (take n ws) s × (s.capacity ≡ c)) → r ≡ false → Sound (tree L) ws → ⊥
  tested_unsound ws c n r o e a t v =
      let f : v.0.capacity ≡ c = sym v.1.capacity_there ∙ o.2 in
      true≢false (sym (a.1 (v.0, (own_sound ws c n o e v.0 f).1 v.1, f)) ∙ t)
