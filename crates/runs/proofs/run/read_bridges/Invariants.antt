-- What the loops of `runs::run::read_bridges` keep true.
use Prim.Native.Nat.{◌-◌}
use lib.ListN.{length}
use Rattle.rule.specs.Words.{words_of}
use Rattle.table.specs.Positions.{words_read}
use Rattle.earlier.specs.Keys.{BridgeIndexes}
use Rattle.runs.proofs.laws.RunLaws.{Running}
use Rattle.runs.proofs.run.read_bridges.Given as goal

abbrev pub invariant-loop-source_index : goal.invariant-loop-source_index
invariant-loop-source_index l = Running (words_of l.table) 1 l.initial.t l.t × BridgeIndexes l.source_index l.address_index (words_of l.table) l.t.bridges

abbrev pub decreases-loop-source_index : goal.decreases-loop-source_index
decreases-loop-source_index l = length (words_of l.table) - words_read l.t
