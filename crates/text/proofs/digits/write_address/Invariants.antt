-- What the loops of `text::digits::write_address` keep true.
use Rattle.text.proofs.laws.DigitLaws.{Spelling}
use Rattle.text.proofs.digits.write_address.Given as goal

abbrev pub invariant-loop-left : goal.invariant-loop-left
invariant-loop-left l = Spelling 16 l.a 12 l.initial.out l.at l.out l.rest l.left
