-- Words and bit fields (01, "The table"). A table is given by its bytes.
-- Assumes nothing.
use Rattle.std.specs.Prelude.{ℕ, ◌+◌, ◌*◌, ◌-◌, ◌/◌, ◌%◌, ◌^◌, List, [], ◌∷◌, get_or}

-- "Bytes make words of 32 bits, high byte first." Bytes that make no whole word are left out.
unfoldable pub words_of : List ℕ → List ℕ
words_of [] = []
words_of (a ∷ []) = []
words_of (a ∷ b ∷ []) = []
words_of (a ∷ b ∷ c ∷ []) = []
words_of (a ∷ b ∷ c ∷ d ∷ rest) = (((a * 256 + b) * 256 + c) * 256 + d) ∷ words_of rest

-- The bytes of a word, "high byte first".
abbrev pub bytes_of : ℕ → List ℕ
bytes_of w = (w / 2 ^ 24) ∷ (w / 2 ^ 16 % 256) ∷ (w / 2 ^ 8 % 256) ∷ (w % 256) ∷ []

-- "Words count from 0": the word `n` of a list of words.
abbrev pub word : List ℕ → ℕ → ℕ
word ws n = get_or ws n 0

-- "Bit 31 is the top bit": the number in the bits `high`..`low` of a word.
abbrev pub bits : ℕ → ℕ → ℕ → ℕ
bits w high low = w / 2 ^ low % 2 ^ (high + 1 - low)
