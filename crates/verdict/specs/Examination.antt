-- What the examination of a table answers, and what the layers above need of a table that it accepts. Assumes nothing.
use Rattle.std.specs.Prelude.{ℕ, ◌≤◌, ◌<◌, ◌≡◌, List, Result, Ok, Err, true}
use Rattle.rule.specs.Words.{words_of}
use Rattle.rule.specs.declared.refusal.Refusal.{Refusal}
use Rattle.rule.specs.Outcome.{Outcome, answered}
use Rattle.rule.specs.Refusals.{refused_by}
use Rattle.rule.specs.Plan.{Plan}
use Rattle.rule.specs.PlanLaws.{PlanLaws}
use Rattle.table.specs.declared.shape.Shape.{Shape}
use Rattle.table.specs.Positions.{words_read, last_kind, plan_at}
use Rattle.table.specs.Whole.{Whole}
use Rattle.runs.specs.Runs.{is_kind, Numbers, Before}

-- What the answer stands for.
abbrev pub examined_values : List ℕ → Result Shape Refusal → Outcome Plan
examined_values ws (Ok s) = answered (plan_at ws s)
examined_values ws (Err r) = refused_by r

-- A record that stands next has the kind 15, an unknown one, or one lower than that of the record before.
abbrev pub LowerOnly : List ℕ → Shape → Type 0
LowerOnly ws s = (kind : ℕ) → 1 ≤ kind → kind ≤ 5 → is_kind ws kind (words_read s) ≡ true → kind < last_kind s

-- What is accepted are the records of `s`.
abbrev pub AcceptedAs : Shape → Result Shape Refusal → Type 0
AcceptedAs s r = (t : Shape) → r ≡ Ok t → t ≡ s

-- What is accepted are records after which all kinds are read.
abbrev pub AcceptedAfterAll : List ℕ → List ℕ → Result Shape Refusal → Type 0
AcceptedAfterAll ws links r = (t : Shape) → r ≡ Ok t → Before ws links 6 t

-- A checked table: its records are those of the shape `s`, and none of the faults 1 to 10 applies to them.
pub record Checked (t : List ℕ) (s : Shape) : Type 0 where
  pub whole : Whole t s
  pub laws : PlanLaws (plan_at (words_of t) s)

-- The list is the index of the link numbers of its half-links.
abbrev pub LinkIndex : List ℕ → List ℕ → Shape → Type 0
LinkIndex index t s = Numbers (words_of t) index s

-- A table that is accepted is a checked one, and the list is its link index.
abbrev pub Passed : List ℕ → List ℕ → Result Shape Refusal → Type 0
Passed t index r = (s : Shape) → r ≡ Ok s → Checked t s × LinkIndex index t s
