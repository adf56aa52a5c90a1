-- A prefix by its mask: with a good one it is the prefix of so many ones; with a hole add, delete, change and the walk answer 9 or 3.
use Prim.Native.Nat.{ℕ, suc}
use mathlib.Core.Path.{◌≡◌, refl, sym, subst}
use mathlib.Core.Bool.{true, false, cond}
use mathlib.Core.Option.{Option, none, some}
use native.Mathlib.Omega.{arith}
use borrow.Author.Tests.{lt-leb}
use Rattle.bits.specs.Mask.{good_mask, mask_length}
use Rattle.model.specs.Prefix.{Prefix, well_formed}
use Rattle.model.specs.Masked.{masked_length, masked}
use Rattle.model.specs.State.{Rules, Meaning}
use Rattle.model.specs.Call.{Call, fresh, add, delete, change, lookup, first, after, room, mask, open_trial, keep, back_out, step_back, unsound, number}

pub good_masked : (W a m : ℕ) → good_mask W m ≡ true → masked W a m ≡ record { address = a; length = mask_length W m }
unfolding masked_length
good_masked W a m g = rw g

pub hole_malformed : (W a m : ℕ) → good_mask W m ≡ false → well_formed W (masked W a m) ≡ false
unfolding masked_length well_formed
hole_malformed W a m g = rw g (rw (lt-leb (suc W) W (omega arith)))

module _ {P : Type 0} where
  -- the prefix that a call gives
  abbrev pub given : Call P → Option Prefix
  given (fresh c n) = none
  given (add r) = some r.prefix
  given (delete h p) = some p
  given (change r) = some r.prefix
  given (lookup d) = none
  given first = none
  given (after p) = some p
  given room = none
  given (mask w) = none
  given open_trial = none
  given keep = none
  given back_out = none
  given step_back = none

nothing_given : {p : Prefix} → none ≡ some p → ⊥
nothing_given e = let z : ◌≡◌ {A = ℕ} 0 1 = cc in omega arith

module _ {P : Type 0} (R : Rules P) where
  -- a prefix that is not well formed is due 3, after 9, in every call that gives one
  pub malformed_gives_3 : (c : Call P) (p : Prefix) → given c ≡ some p → well_formed R.width p ≡ false → (x : Meaning P) → number R c x ≡ cond (unsound x) 9 3
  malformed_gives_3 c p e w none = unsound_first c e
    where
      unsound_first : (c : Call P) → given c ≡ some p → number R c none ≡ 9
      unsound_first (fresh k n) e = absurd (nothing_given e)
      unsound_first (add r) e = refl
      unsound_first (delete h q) e = refl
      unsound_first (change r) e = refl
      unsound_first (lookup d) e = refl
      unsound_first first e = refl
      unsound_first (after q) e = refl
      unsound_first room e = refl
      unsound_first (mask m) e = absurd (nothing_given e)
      unsound_first open_trial e = refl
      unsound_first keep e = refl
      unsound_first back_out e = refl
      unsound_first step_back e = refl
  malformed_gives_3 c p e w (some s) = then c e
    where
      bad : (q : Prefix) → some q ≡ some p → well_formed R.width q ≡ false
      bad q f = let g : q ≡ p = cc in subst (λ (x : Prefix). well_formed R.width x ≡ false) (sym g) w

      then : (c : Call P) → given c ≡ some p → number R c (some s) ≡ 3
      then (fresh k n) f = absurd (nothing_given f)
      then (add r) f = rw (bad r.prefix f)
      then (delete h q) f = rw (bad q f)
      then (change r) f = rw (bad r.prefix f)
      then (lookup d) f = absurd (nothing_given f)
      then first f = absurd (nothing_given f)
      then (after q) f = rw (bad q f)
      then room f = absurd (nothing_given f)
      then (mask m) f = absurd (nothing_given f)
      then open_trial f = absurd (nothing_given f)
      then keep f = absurd (nothing_given f)
      then back_out f = absurd (nothing_given f)
      then step_back f = absurd (nothing_given f)

  -- "a mask with a hole"
  pub hole_gives_3 : (c : Call P) (a m : ℕ) → given c ≡ some (masked R.width a m) → good_mask R.width m ≡ false → (x : Meaning P) → number R c x ≡ cond (unsound x) 9 3
  hole_gives_3 c a m e h = malformed_gives_3 c (masked R.width a m) e (hole_malformed R.width a m h)
