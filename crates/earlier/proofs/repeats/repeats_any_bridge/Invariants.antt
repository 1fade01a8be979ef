-- What the loops of `earlier::repeats::repeats_any_bridge` keep true.
use Rattle.rule.specs.Words.{words_of}
use Rattle.rule.specs.Records.{bridge_of}
use Rattle.rule.specs.Check.{repeats_bridge}
use Rattle.readers.specs.Readers.{bridge_values}
use Rattle.table.proofs.laws.PositionLaws.{SearchingRecords}
use Rattle.earlier.proofs.repeats.repeats_any_bridge.Given as goal

abbrev pub invariant-loop-i : goal.invariant-loop-i
invariant-loop-i l = SearchingRecords bridge_of 3 0 (words_of l.table) (repeats_bridge (bridge_values l.b)) l.bridges l.i
