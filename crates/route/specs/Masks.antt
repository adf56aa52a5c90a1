-- What the function that measures a mask answers.
use Rattle.std.specs.Prelude.{ℕ, cond, Result, Ok, Err}
use Rattle.bits.specs.Mask.{good_mask, mask_length}
use Rattle.route.specs.declared.prefix.Length.{Length}
use Rattle.route.specs.declared.answer.Refusal.{Refusal}
use Rattle.route.specs.declared.answer.Refusal.TheVariants.{BadPrefix}

-- A good mask's length, or number 3.
unfoldable pub measured_as : ℕ → Result Length Refusal
measured_as m = cond (good_mask 32 m) (Ok (record { 0 = mask_length 32 m })) (Err BadPrefix)
