-- What the loops of `earlier::repeats::is_vid_known` keep true.
use Rattle.rule.specs.Words.{words_of}
use Rattle.rule.specs.Records.{vid_of}
use Rattle.rule.specs.Plan.{has_vid}
use Rattle.table.proofs.laws.PositionLaws.{SearchingRecords}
use Rattle.earlier.proofs.repeats.is_vid_known.Given as goal

abbrev pub invariant-loop-i : goal.invariant-loop-i
invariant-loop-i l = SearchingRecords vid_of 1 l.from (words_of l.table) (has_vid l.vid) l.vids l.i
