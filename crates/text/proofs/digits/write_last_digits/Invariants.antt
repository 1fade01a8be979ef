-- What the loops of `text::digits::write_last_digits` keep true.
use Rattle.text.proofs.laws.DigitLaws.{Spelling}
use Rattle.text.proofs.digits.write_last_digits.Given as goal

abbrev pub invariant-loop-left : goal.invariant-loop-left
invariant-loop-left l = Spelling 10 l.n l.count l.initial.out l.at l.out l.rest l.left
