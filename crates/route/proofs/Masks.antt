-- What a mask's answer comes to: each answer below, taken for the one above it.
use Prim.Native.Nat.{ℕ}
use mathlib.Core.Path.{◌≡◌, refl}
use mathlib.Core.Bool.{Bool, true, false}
use Rattle.std.specs.Prelude.{Option, Some, None, Result, Ok, Err}
use Rattle.bits.specs.Mask.{good_mask}
use Rattle.bits.specs.Answer.{mask_answer}
use Rattle.model.specs.Masked.{masked_length}
use Rattle.route.specs.Masks.{measured_as}
use Rattle.route.specs.declared.prefix.Length.{Length}
use Rattle.route.specs.declared.answer.Refusal.{Refusal}
use Rattle.route.specs.declared.answer.Refusal.TheVariants.{BadPrefix}

abbrev pub of_mask : Option ℕ → Result Length Refusal
of_mask (Some n) = Ok (record { 0 = n })
of_mask None = Err BadPrefix

pub of_mask_lem : (m : ℕ) → of_mask (mask_answer m) ≡ measured_as m
unfolding mask_answer measured_as
of_mask_lem m = go (good_mask 32 m) refl
  where
    go : (b : Bool) → good_mask 32 m ≡ b → of_mask (mask_answer m) ≡ measured_as m
    go true t = rw t
    go false t = rw t

-- the length that goes with an answer
abbrev pub of_measure : Result Length Refusal → ℕ
of_measure (Ok n) = n.0
of_measure (Err x) = 33

pub of_measure_lem : (m : ℕ) → of_measure (measured_as m) ≡ masked_length 32 m
unfolding measured_as masked_length
of_measure_lem m = go (good_mask 32 m) refl
  where
    go : (b : Bool) → good_mask 32 m ≡ b → of_measure (measured_as m) ≡ masked_length 32 m
    go true t = rw t
    go false t = rw t
