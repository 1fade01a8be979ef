-- What the loops of `entry_words::individual::individual_words` keep true.
use Rattle.rule.specs.Words.{words_of}
use Rattle.entry_words.specs.Words.{individual_to}
use Rattle.lists.proofs.laws.AppendingLaws.{Appending}
use Rattle.entry_words.proofs.individual.individual_words.Given as goal

abbrev pub invariant-loop-d : goal.invariant-loop-d
invariant-loop-d l = Appending (individual_to (words_of l.table) l.egress_row l.vid) l.s.bridges l.initial.words l.at l.d l.words l.end
