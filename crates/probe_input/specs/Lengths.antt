-- How many bytes the next table of an input has. Assumes nothing.
use Rattle.std.specs.Prelude.{ℕ, Option, Some, None}

abbrev pub length_of : Option ℕ → ℕ
length_of (Some length) = length
length_of None = 0
