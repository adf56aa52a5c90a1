-- "A mask with a hole" in add, delete, change and the walk: 3 in a sound pool, 9 in any other, whatever else is wrong with the call.
use Prim.Native.Nat.{ℕ}
use mathlib.Core.Path.{◌≡◌, ◌∙◌}
use mathlib.Core.Bool.{false}
use mathlib.Core.List.{List}
use mathlib.Core.Logic.{◌⊎◌, inl, inr}
use mathlib.Core.Option.{none, some}
use Rattle.bits.specs.Mask.{good_mask}
use Rattle.bits.proofs.Cases.{eq_or_ne}
use Rattle.model.specs.Masked.{masked}
use Rattle.model.specs.State.{State}
use Rattle.model.specs.Call.{Call, Value}
use Rattle.model.proofs.Masked.{given, hole_gives_3}
use Rattle.promise.specs.Table.{Table, Sound}
use Rattle.promise.specs.Promise.{Promise}

module _ {P : Type 0} (T : Table P) (c : Call P) (a m : ℕ) (gives : given c ≡ some (masked T.rules.width a m)) (hole : good_mask T.rules.width m ≡ false)
    (ws zs : List ℕ) (n : ℕ) (v : Value P) (p : Promise T c ws zs n v) where
  pub hole_sound : (s : State P) → T.Means ws s → n ≡ 3
  hole_sound s h = p.number_is (some s) h ∙ hole_gives_3 T.rules c a m gives hole (some s)

  pub hole_unsound : (Sound T ws → ⊥) → n ≡ 9
  hole_unsound u = p.number_is none u ∙ hole_gives_3 T.rules c a m gives hole none

  -- of any words it is one of the two
  pub hole_answers : (n ≡ 9) ⊎ (n ≡ 3)
  hole_answers = go (eq_or_ne n 9) (eq_or_ne n 3)
    where
      go : (n ≡ 9) ⊎ (n ≡ 9 → ⊥) → (n ≡ 3) ⊎ (n ≡ 3 → ⊥) → (n ≡ 9) ⊎ (n ≡ 3)
      go (inl e) d = inl e
      go (inr e) (inl d) = inr d
      go (inr e) (inr d) = absurd (e (hole_unsound (λ w. d (hole_sound w.0 w.1))))
