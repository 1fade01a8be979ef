-- `text::digits::decimal_digit` gives a digit below 10. Assumes nothing.
use Rattle.text.proofs.laws.DigitLaws.{low_digit}
use Rattle.text.proofs.digits.decimal_digit.Goals as goal

pub returns : goal.returns
returns c = low_digit _ c.requires
