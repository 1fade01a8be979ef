-- Numbers, fields and lines as text (01, "Listing program"): bytes of ASCII.
-- Assumes nothing.
use Rattle.std.specs.Prelude.{ℕ, zero, suc, ◌+◌, ◌/◌, ◌%◌, cond, ltb}
use mathlib.Core.List.{List, [], ◌∷◌, ◌++◌, flat_map}
use Rattle.lists.specs.Appending.{Appended}

abbrev pub space : ℕ
space = 32

abbrev pub newline : ℕ
newline = 10

-- A digit below 16: `0` to `9`, then `a` to `f`.
abbrev pub digit : ℕ → ℕ
digit d = cond (ltb d 10) (48 + d) (87 + d)

-- The last `k` digits of `n` to a base, the highest first.
unfoldable pub digits_of : ℕ → ℕ → ℕ → List ℕ
digits_of base zero n = []
digits_of base (suc k) n = digits_of base k (n / base) ++ (digit (n % base) ∷ [])

-- How many decimal digits a number has: one, and one more for each time that it can be divided by 10, `more` at most.
unfoldable pub places : ℕ → ℕ → ℕ
places zero n = 1
places (suc more) n = cond (ltb n 10) 1 (suc (places more (n / 10)))

-- "Fields are decimal": a number of 32 bits has 10 digits at most.
unfoldable pub decimal_of : ℕ → List ℕ
decimal_of n = digits_of 10 (places 9 n) n

-- "addresses, which have 12 lower-case digits".
abbrev pub address : ℕ → List ℕ
address a = digits_of 16 12 a

abbrev pub field_text : ℕ → List ℕ
field_text n = space ∷ decimal_of n

-- Fields are separated by single spaces.
abbrev pub fields : List ℕ → List ℕ
fields ns = flat_map field_text ns

-- A line: a word, its fields, the newline.
abbrev pub line : List ℕ → List ℕ → List ℕ
line w ns = w ++ (fields ns ++ (newline ∷ []))

-- `path`, the word of a path's line
abbrev pub path_word : List ℕ
path_word = 112 ∷ 97 ∷ 116 ∷ 104 ∷ []

-- The text was written from the place `at` on, and `next` is the place after it; every other place is as before.
abbrev pub WrittenAt : ℕ → List ℕ → List ℕ → List ℕ → ℕ → Type 0
WrittenAt at before after text next = Appended before at text after next
