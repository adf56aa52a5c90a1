-- Two numbers compared, as cases to go by.
use Prim.Native.Nat.{ℕ, suc, ◌≤◌, ◌<◌}
use mathlib.Core.Path.{◌≡◌}
use mathlib.Core.Logic.{◌⊎◌, inl, inr}
use native.Mathlib.Decide.{dec_le}
use native.Mathlib.Omega.{arith}

pub lt_or_le : (a b : ℕ) → (a < b) ⊎ (b ≤ a)
lt_or_le a b = go (dec_le (suc a) b)
  where
    go : Dec (suc a ≤ b) → (a < b) ⊎ (b ≤ a)
    go (yes h) = inl h
    go (no h) = inr (omega arith)

pub eq_or_ne : (a b : ℕ) → (a ≡ b) ⊎ (a ≡ b → ⊥)
eq_or_ne a b = go (lt_or_le a b) (lt_or_le b a)
  where
    go : (a < b) ⊎ (b ≤ a) → (b < a) ⊎ (a ≤ b) → (a ≡ b) ⊎ (a ≡ b → ⊥)
    go (inl h) w = inr (omega arith)
    go (inr h) (inl l) = inr (omega arith)
    go (inr h) (inr l) = inl (omega arith)

-- lower, the same, or higher
pub data Compared (a b : ℕ) : Type 0 where
  lower : a < b → Compared a b
  same : a ≡ b → Compared a b
  higher : b < a → Compared a b

pub compared : (a b : ℕ) → Compared a b
compared a b = go (lt_or_le a b) (lt_or_le b a)
  where
    go : (a < b) ⊎ (b ≤ a) → (b < a) ⊎ (a ≤ b) → Compared a b
    go (inl h) w = lower h
    go (inr h) (inl l) = higher l
    go (inr h) (inr l) = same (omega arith)

-- a bit is 0 or 1
pub zero_or_one : (n : ℕ) → n < 2 → (n ≡ 0) ⊎ (n ≡ 1)
zero_or_one n h = go (lt_or_le n 1)
  where
    go : (n < 1) ⊎ (1 ≤ n) → (n ≡ 0) ⊎ (n ≡ 1)
    go (inl l) = inl (omega arith)
    go (inr l) = inr (omega arith)
