-- The words of a line: what stands between blanks.
use Rattle.std.specs.Prelude.{ℕ, suc, ◌≤◌, ◌<◌, ◌≡◌, ◌⊎◌, Bool, true, false, cond, ◌||◌, eqb, List, [], ◌∷◌, length, take, drop}
use Rattle.std.specs.Prelude.{Option, Some, None, Result, Ok, Err}
use Rattle.std.specs.Bool.{beq}
use Rattle.numeral.specs.declared.wrong.Fault as fault

-- How many elements stand before the first that equals b, or how many there are where none does.
unfoldable pub index_of : ℕ → List ℕ → ℕ
index_of b [] = 0
index_of b (x ∷ rest) = cond (eqb x b) 0 (suc (index_of b rest))

-- A blank is a space or a tab.
abbrev pub is_blank : ℕ → Bool
is_blank b = eqb b 32 || eqb b 9

-- The byte is blank, or it is not, as is wanted.
abbrev pub fits : Bool → ℕ → Bool
fits blank b = beq (is_blank b) blank

-- How many bytes at the front are blank, or how many are not.
abbrev pub leading : Bool → List ℕ → ℕ
leading blank [] = 0
leading blank (b ∷ rest) = cond (fits blank b) (suc (leading blank rest)) 0

-- What stands from the next word on, from a place on.
abbrev pub from_word : List ℕ → ℕ → List ℕ
from_word line from = drop (leading true (drop from line)) (drop from line)

-- That word: none where there is no further one.
abbrev pub word_at : List ℕ → ℕ → List ℕ
word_at line from = take (leading false (from_word line from)) (from_word line from)

-- A place of the line, from which on there stands what stands behind that word.
abbrev pub Behind : List ℕ → ℕ → ℕ → Type 0
Behind line from place = (place ≤ length line) × (drop place line ≡ drop (leading false (from_word line from)) (from_word line from))

-- The line up to its first '#', byte 35.
abbrev pub uncommented_of : List ℕ → List ℕ
uncommented_of line = take (index_of 35 line) line

-- The next word was read, and the place is behind it. Else the place is the old one: there is no word, or it says nothing of the kind.
abbrev pub TakenAs : (List ℕ → Option ℕ → Type 0) → fault.Fault → List ℕ → ℕ → Result ℕ fault.Fault → ℕ → Type 0
TakenAs Read bad line from (Ok n) place = Read (word_at line from) (Some n) × Behind line from place
TakenAs Read bad line from (Err f) place =
    (place ≡ from) × (((length (word_at line from) ≡ 0) × (f ≡ fault.Fault.TooFewWords))
    ⊎ ((0 < length (word_at line from)) × Read (word_at line from) None × (f ≡ bad)))
