-- What the loops of `service_reading::read::write_members` keep true.
use Rattle.lists.proofs.laws.AppendingLaws.{Appending}
use Rattle.rule.specs.Words.{words_of}
use Rattle.service_reading.proofs.laws.ReadingLaws.{record_at}
use lib.ListN.{length}
use Rattle.service_reading.proofs.read.write_members.Given as goal

abbrev pub invariant-loop-n : goal.invariant-loop-n
invariant-loop-n l = Appending (record_at l.bridge l.vid (words_of l.services)) (length (words_of l.services)) l.initial.words 0 l.n l.words l.at
