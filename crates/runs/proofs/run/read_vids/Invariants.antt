-- What the loops of `runs::run::read_vids` keep true.
use Prim.Native.Nat.{◌-◌}
use lib.ListN.{length}
use Rattle.rule.specs.Words.{words_of}
use Rattle.table.specs.Positions.{words_read}
use Rattle.runs.proofs.laws.RunLaws.{Running}
use Rattle.runs.proofs.run.read_vids.Given as goal

abbrev pub invariant-loop-t : goal.invariant-loop-t
invariant-loop-t l = Running (words_of l.table) 3 l.initial.t l.t

abbrev pub decreases-loop-t : goal.decreases-loop-t
decreases-loop-t l = length (words_of l.table) - words_read l.t
