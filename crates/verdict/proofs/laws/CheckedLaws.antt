-- What a checked table has: its bridges by count, and no more than there may be. Assumes nothing.
use Rattle.std.specs.Prelude.{ℕ, ◌≤◌, ◌≡◌, List, length}
use Rattle.std.proofs.Common.{arith}
use Rattle.rule.specs.Words.{words_of}
use Rattle.rule.specs.Records.{bridge_of}
use Rattle.table.specs.declared.shape.Shape.{Shape}
use Rattle.table.specs.Positions.{plan_at}
use Rattle.table.proofs.laws.PositionLaws.{how_many}
use Rattle.verdict.specs.Examination.{Checked}

module _ {t : List ℕ} {s : Shape} (C : Checked t s) where
  pub bridges-counted : length (plan_at (words_of t) s).bridges ≡ s.bridges
  bridges-counted = how_many bridge_of 3 0 (words_of t) s.bridges

  pub few-bridges : s.bridges ≤ 64
  few-bridges = omega (arith, bridges-counted, C.laws.bridges.few)
