-- What the loops of `service_reading::judged::is_repeated` keep true.
use Rattle.rule.specs.Words.{words_of}
use Rattle.service_reading.proofs.laws.ReadingLaws.{SeekingIsid}
use Rattle.service_reading.proofs.judged.is_repeated.Given as goal

abbrev pub invariant-loop-k : goal.invariant-loop-k
invariant-loop-k l = SeekingIsid (words_of l.services) l.isid l.n l.k
