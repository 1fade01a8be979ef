-- What the loops of `loads::traffic::write_indexes` keep true.
use mathlib.Core.Path.{◌≡◌}
use lib.ListN.{length}
use Rattle.rule.specs.Words.{words_of}
use Rattle.loads.proofs.laws.TrafficLaws.{IndexesSoFar}
use Rattle.loads.proofs.traffic.write_indexes.Given as goal

abbrev pub invariant-loop-k : goal.invariant-loop-k
invariant-loop-k l = IndexesSoFar (words_of l.table) l.s l.k l.indexes × (length l.indexes ≡ length l.initial.indexes)
