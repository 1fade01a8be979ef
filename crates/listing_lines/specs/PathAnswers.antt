-- What the path call answers, by its answer and the later contents of the list that it was lent. Assumes nothing.
use Rattle.std.specs.Prelude.{ℕ, ◌+◌, List, take}
use Rattle.rule.specs.Outcome.{Outcome, answered, refused, Written}
use Rattle.rule.specs.Answers.{CostAndHops}

-- How many bridges the answer gives.
abbrev pub bridges_given : Outcome CostAndHops → ℕ
bridges_given (answered v) = v.hops + 1
bridges_given (refused number kind at) = 0

-- The answer with its bridges, which the front of the list has.
abbrev pub given_path : Outcome CostAndHops → List ℕ → Outcome (Written CostAndHops)
given_path (answered v) list = answered (record { values = v; words = take (v.hops + 1) list })
given_path (refused number kind at) list = refused number kind at
