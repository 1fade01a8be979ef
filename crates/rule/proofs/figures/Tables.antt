-- Tables written as words, a row for each record: how the figures give them.
-- Assumes nothing.
use Rattle.std.specs.Prelude.{ℕ}
use mathlib.Core.List.{List, flat_map}
use Rattle.rule.specs.Words.{bytes_of}

-- The table of the rows, as bytes.
abbrev pub table : List (List ℕ) → List ℕ
table rows = flat_map (λ row. flat_map bytes_of row) rows
