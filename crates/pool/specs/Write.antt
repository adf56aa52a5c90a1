-- Writes to the words, in order.
use Rattle.std.specs.Prelude.{ℕ, List, [], ◌∷◌, set}

-- An index and what is written there.
abbrev pub Write : Type 0
Write = ℕ × ℕ

-- The words after a row of writes, the first written first.
abbrev pub writes : List Write → List ℕ → List ℕ
writes [] ws = ws
writes (x ∷ xs) ws = writes xs (set ws x.0 x.1)
