-- What the loops of `table::records::index_of` keep true.
use Rattle.rule.specs.Words.{words_of}
use Rattle.table.proofs.laws.NumberedLaws.{SeekingVid}
use Rattle.table.proofs.records.index_of.Given as goal

abbrev pub invariant-loop-k : goal.invariant-loop-k
invariant-loop-k l = SeekingVid (words_of l.table) l.fn.s l.vid l.k
