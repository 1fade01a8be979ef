-- `text::digits::hexadecimal_digit` gives a digit below 16. Assumes nothing.
use Rattle.text.proofs.laws.DigitLaws.{low_digit, high_digit}
use Rattle.text.proofs.digits.hexadecimal_digit.Goals as goal

pub returns-then-d-lt10 : goal.returns-then-d-lt10
returns-then-d-lt10 c = low_digit _ c.if-d-lt10.true

pub returns : goal.returns
returns c = high_digit _ c.if-d-lt10.false
