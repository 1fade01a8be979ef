-- What the loops of `entry_words::group::ports_behind` keep true.
use Rattle.rule.specs.Words.{words_of}
use Rattle.readers.specs.Readers.{member_values}
use Rattle.entry_words.specs.Words.{behind_at}
use Rattle.lists.proofs.laws.AppendingLaws.{Appending}
use Rattle.entry_words.proofs.group.ports_behind.Given as goal

abbrev pub invariant-loop-j : goal.invariant-loop-j
invariant-loop-j l = Appending (behind_at (words_of l.table) l.s l.egress_row (member_values l.m)) l.s.members l.initial.behind 0 l.j l.behind l.at
