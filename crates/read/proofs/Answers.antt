-- What each reading call answers.
use Prim.Native.Nat.{ℕ, ◌-◌}
use mathlib.Core.Path.{◌≡◌, refl, sym, ap, subst}
use mathlib.Core.Bool.{Bool, true, false}
use mathlib.Core.List.{List}
use Rattle.bits.specs.Mask.{good_mask}
use Rattle.model.specs.State.{State}
use Rattle.model.specs.Call.{room, mask, count}
use Rattle.pool.specs.Layout.{word, Layout}
use Rattle.pool.specs.Ipv4.{ipv4}
use Rattle.pool.specs.Means.{Means}
use Rattle.route.specs.Answers.{answer_number, measured_value}
use Rattle.route.specs.Masks.{measured_as}
use Rattle.route.specs.declared.prefix.Length.{Length}
use Rattle.route.specs.declared.answer.Refusal.{Refusal}
use Rattle.std.specs.Prelude.{Result}
use Rattle.promise.specs.Promise.{Promise}
use Rattle.promise.specs.Trees.{tree}
use Rattle.promise.proofs.Promises.{answers}

module _ {P : Type 0} (L : Layout P) where
  -- "Room left is the capacity less the routes held."
  pub room_answer : (ws : List ℕ) (s : State P) → Means L ws s → Promise (tree L) room ws ws 0 (count (word ws 0 - word ws 1))
  room_answer ws s m =
      answers (tree L) room ws (count (word ws 0 - word ws 1)) s m refl (ap count (sym (λ i. m.capacity_there i - m.count_there i))) refl

-- a mask is asked of no pool
pub mask_answer_lem : (ws : List ℕ) (w : ℕ) (r : Result Length Refusal) → r ≡ measured_as w → Promise (tree ipv4) (mask w) ws ws (answer_number r) (measured_value r)
unfolding measured_as
mask_answer_lem ws w r e = subst (λ (x : Result Length Refusal). Promise (tree ipv4) (mask w) ws ws (answer_number x) (measured_value x)) (sym e) (go (good_mask 32 w) refl)
  where
    go : (b : Bool) → good_mask 32 w ≡ b → Promise (tree ipv4) (mask w) ws ws (answer_number (measured_as w)) (measured_value (measured_as w))
    go true t = record {
      number_is = λ m h. rw t;
      value_is = λ m h. rw t;
      meaning_is = λ m h. rw t h;
      refusal_keeps = λ k. refl;
      long = refl;
      past_keeps = λ i k. refl;
    }
    go false t = record {
      number_is = λ m h. rw t;
      value_is = λ m h. rw t;
      meaning_is = λ m h. rw t h;
      refusal_keeps = λ k. refl;
      long = refl;
      past_keeps = λ i k. refl;
    }
