-- What is said of an old-format mask: its length, or none, since it has a hole.
use Rattle.std.specs.Prelude.{ℕ, cond, Option, Some, None}
use Rattle.bits.specs.Mask.{mask_length, good_mask}

-- "A mask is good when ..; the length is the number of ones": the length, or none where it has a hole.
unfoldable pub mask_answer : ℕ → Option ℕ
mask_answer m = cond (good_mask 32 m) (Some (mask_length 32 m)) None
