-- What the loops of `earlier::repeats::repeats_any_member` keep true.
use Rattle.rule.specs.Words.{words_of}
use Rattle.rule.specs.Records.{member_of}
use Rattle.rule.specs.Check.{repeats_member}
use Rattle.readers.specs.Readers.{member_values}
use Rattle.table.proofs.laws.PositionLaws.{SearchingRecords}
use Rattle.earlier.proofs.repeats.repeats_any_member.Given as goal

abbrev pub invariant-loop-i : goal.invariant-loop-i
invariant-loop-i l = SearchingRecords member_of 2 l.from (words_of l.table) (repeats_member (member_values l.m)) l.members l.i
