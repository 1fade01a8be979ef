-- What the loops of `service_reading::judged::judge_services` keep true.
use Prim.Native.Nat.{ℕ, ◌*◌}
use Rattle.rule.specs.Outcome.{answered}
use Rattle.rule.specs.Words.{words_of}
use Rattle.service_reading.proofs.laws.ReadingLaws.{Judging}
use lib.ListN.{length}
use Rattle.service_reading.proofs.judged.judge_services.Given as goal

abbrev pub invariant-loop-n : goal.invariant-loop-n
invariant-loop-n l = Judging {A = ℕ} (words_of l.services) (answered (2 * length (words_of l.services))) l.n
