-- Numbers appended to a lent list: what a function that appends has written. Assumes nothing.
use Rattle.std.specs.Prelude.{ℕ, ◌+◌, ◌≤◌, ◌≡◌, length}
use mathlib.Core.List.{List, flat_map}
use Rattle.lists.specs.Lists.{rising, spliced}

-- From the place `at` on the list `lent` got the words of `part`, and nothing else changed; `end` is the place after them.
pub record Appended (lent : List ℕ) (at : ℕ) (part written : List ℕ) (end : ℕ) : Type 0 where
  pub words_are : written ≡ spliced lent at part
  pub end_is : end ≡ at + length part

-- The list has room for the words of `part` from the place `at` on.
abbrev pub Room : List ℕ → ℕ → List ℕ → Type 0
Room lent at part = at + length part ≤ length lent

-- What a loop appends: for each number below `n` the words that `f` gives.
abbrev pub each_of : (ℕ → List ℕ) → ℕ → List ℕ
each_of f n = flat_map f (rising 0 n)
