-- What the loops of `earlier::traffic::repeats_any_traffic` keep true.
use Rattle.rule.specs.Words.{words_of}
use Rattle.rule.specs.Records.{traffic_of}
use Rattle.rule.specs.Check.{repeats_traffic}
use Rattle.readers.specs.Readers.{traffic_values}
use Rattle.table.proofs.laws.PositionLaws.{SearchingRecords}
use Rattle.earlier.proofs.traffic.repeats_any_traffic.Given as goal

abbrev pub invariant-loop-i : goal.invariant-loop-i
invariant-loop-i l = SearchingRecords traffic_of 2 l.from (words_of l.table) (repeats_traffic (traffic_values l.t)) l.count l.i
