-- What the loops of `loads::traffic::write_traffic` keep true.
use mathlib.Core.Path.{◌≡◌}
use lib.ListN.{length}
use Rattle.rule.specs.Words.{words_of}
use Rattle.table.specs.Positions.{plan_at}
use Rattle.loads.proofs.laws.TrafficLaws.{WrittenSoFar}
use Rattle.loads.proofs.traffic.write_traffic.Given as goal

abbrev pub invariant-loop-i : goal.invariant-loop-i
invariant-loop-i l = WrittenSoFar (plan_at (words_of l.table) l.s) l.i l.words × (length l.words ≡ length l.initial.words)
