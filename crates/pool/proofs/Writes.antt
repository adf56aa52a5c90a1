-- After some writes: what was written is there, and every other word is as before.
use Prim.Native.Nat.{ℕ, ◌<◌}
use mathlib.Core.Path.{◌≡◌, refl, sym, subst, ◌∙◌}
use mathlib.Core.List.{List, [], ◌∷◌, ◌++◌}
use mathlib.Core.Logic.{◌⊎◌, inl, inr}
use lib.ListN.{length, length-set}
use lib.Seq.{get_or-set_same, get_or-set_other}
use Rattle.pool.specs.Layout.{word}
use Rattle.pool.specs.Write.{Write, writes}

pub length_writes : (xs : List Write) (ws : List ℕ) → length (writes xs ws) ≡ length ws
length_writes [] ws = refl
length_writes (x ∷ xs) ws = length_writes xs _ ∙ length-set ws x.0 x.1

pub writes_append : (xs ys : List Write) (ws : List ℕ) → writes (xs ++ ys) ws ≡ writes ys (writes xs ws)
writes_append [] ys ws = refl
writes_append (x ∷ xs) ys ws = writes_append xs ys _

-- none of the writes is to i
abbrev pub Off : ℕ → List Write → Type 0
Off i [] = Unit {0}
Off i (x ∷ xs) = (i ≡ x.0 → ⊥) × Off i xs

pub word_off : (i : ℕ) (xs : List Write) (ws : List ℕ) → Off i xs → word ws i ≡ word (writes xs ws) i
word_off i [] ws o = refl
word_off i (x ∷ xs) ws o = sym (get_or-set_other ws x.0 i x.1 0 o.0) ∙ word_off i xs _ o.1

pub off_append : (i : ℕ) (xs ys : List Write) → Off i xs → Off i ys → Off i (xs ++ ys)
off_append i [] ys o p = p
off_append i (x ∷ xs) ys o p = (o.0, off_append i xs ys o.1 p)

-- the last write to i is v
abbrev pub On : ℕ → ℕ → List Write → Type 0
On i v [] = ⊥
On i v (x ∷ xs) = ((i ≡ x.0) × (v ≡ x.1) × Off i xs) ⊎ On i v xs

pub word_on : (i v : ℕ) (xs : List Write) (ws : List ℕ) → i < length ws → On i v xs → word (writes xs ws) i ≡ v
word_on i v [] ws l h = elim h [ ]
word_on i v (x ∷ xs) ws l (inl h) =
    sym (word_off i xs _ h.2) ∙ subst (λ (n : ℕ). word (lib.ListN.set ws n x.1) i ≡ v) h.0 (get_or-set_same ws i x.1 0 l ∙ sym h.1)
word_on i v (x ∷ xs) ws l (inr h) = word_on i v xs _ (subst (λ (n : ℕ). i < n) (sym (length-set ws x.0 x.1)) l) h

pub on_right : (i v : ℕ) (xs ys : List Write) → On i v ys → On i v (xs ++ ys)
on_right i v [] ys h = h
on_right i v (x ∷ xs) ys h = inr (on_right i v xs ys h)

pub on_left : (i v : ℕ) (xs ys : List Write) → On i v xs → Off i ys → On i v (xs ++ ys)
on_left i v [] ys h o = elim h [ ]
on_left i v (x ∷ xs) ys (inl h) o = inl (h.0, h.1, off_append i xs ys h.2 o)
on_left i v (x ∷ xs) ys (inr h) o = inr (on_left i v xs ys h o)
