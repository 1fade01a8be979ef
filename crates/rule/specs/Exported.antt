-- The numbers that the functions exported to C give (01, "Calls").
-- Assumes nothing.
use Rattle.std.specs.Prelude.{ℕ, ◌+◌, List}
use Rattle.rule.specs.Outcome.{Outcome, answered, refused, Written}
use Rattle.rule.specs.Answers.{CostAndHops}
use Rattle.rule.specs.Calls.{check_outcome, path_answer}
use Rattle.rule.specs.declared.answer.Counts.{Counts}

-- "Exported check gives 0 or the refusal number."
abbrev pub check_number : Outcome Counts → ℕ
check_number (answered c) = 0
check_number (refused number kind at) = number

unfoldable pub exported_check : List ℕ → ℕ
exported_check t = check_number (check_outcome t)

-- "Exported path cost gives the cost as a 64-bit number, or 4,294,967,296 plus the refusal number; it takes no list and never
-- gives 13."
abbrev pub cost_number : Outcome (Written CostAndHops) → ℕ
cost_number (answered w) = w.values.cost
cost_number (refused number kind at) = 4294967296 + number

unfoldable pub exported_path_cost : List ℕ → ℕ → ℕ → ℕ → ℕ
exported_path_cost t vid a b = cost_number (path_answer t vid a b)
