-- Tables whose records are all there (01, "The table"). Assumes nothing.
use Rattle.std.specs.Prelude.{ℕ, ◌*◌, ◌≤◌, List, length}
use Rattle.rule.specs.Check.{longest_table}
use Rattle.table.specs.declared.shape.Shape.{Shape}
use Rattle.table.specs.Positions.{words_read}

-- The records of the shape `s` are within the table's bytes, which are no more than the longest table has.
pub record Whole (t : List ℕ) (s : Shape) : Type 0 where
  pub within : 4 * words_read s ≤ length t
  pub bounded : length t ≤ longest_table
