-- What the loops of `entries::parts::group_part` keep true.
use Rattle.rule.specs.Words.{words_of}
use Rattle.readers.specs.Readers.{vid_values}
use Rattle.lists.proofs.laws.AppendingLaws.{Appending}
use Rattle.entries.specs.Parts.{member_part}
use Rattle.entries.proofs.parts.group_part.Given as goal

abbrev pub invariant-loop-j : goal.invariant-loop-j
invariant-loop-j l = Appending (member_part (words_of l.table) l.s l.egress_rows l.ports (vid_values l.v)) l.s.members l.initial.words l.at l.j l.words l.end
