-- Tests that are joined, as facts and back.
use mathlib.Core.Path.{◌≡◌, refl}
use mathlib.Core.Bool.{Bool, true, false, ◌&&◌, ◌||◌, true≢false, false≢true}
use mathlib.Core.Logic.{◌⊎◌, inl, inr}
use mathlib.Core.Option.{none, some, none-ne-some}

-- a test comes out one way or the other
pub passed_or_not : (b : Bool) → (b ≡ true) ⊎ (b ≡ false)
passed_or_not true = inl refl
passed_or_not false = inr refl

pub both : (a b : Bool) → (a && b) ≡ true → (a ≡ true) × (b ≡ true)
both true b e = (refl, e)
both false b e = absurd (false≢true e)

pub and_both : {a b : Bool} → a ≡ true → b ≡ true → (a && b) ≡ true
and_both {a} {b} p q = rw (p, q)

pub either : (a b : Bool) → (a || b) ≡ true → (a ≡ true) ⊎ (b ≡ true)
either true b e = inl refl
either false b e = inr e

pub or_left : {a : Bool} (b : Bool) → a ≡ true → (a || b) ≡ true
or_left b p = rw p

pub or_right : (a : Bool) {b : Bool} → b ≡ true → (a || b) ≡ true
or_right true p = refl
or_right false p = p

-- what can't pass fails, and the other way round
pub fails : {b : Bool} → (b ≡ true → ⊥) → b ≡ false
fails {b} f = go b refl
  where
    go : (c : Bool) → b ≡ c → b ≡ false
    go true e = absurd (f e)
    go false e = e

pub not_both : {b : Bool} → b ≡ true → b ≡ false → ⊥
not_both p q = let z : true ≡ false = cc in true≢false z

pub none_not_some : {A : Type 0} {a : A} → none ≡ some a → ⊥
none_not_some {A} {a} e = none-ne-some a e
