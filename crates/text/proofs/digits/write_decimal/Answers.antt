-- `text::digits::write_decimal` writes as many digits as the number has places. Assumes nothing.
use Rattle.text.proofs.laws.DigitLaws.{decimal_of-written}
use mathlib.Core.Path.{refl}
use Rattle.text.proofs.digits.write_decimal.Goals as goal

pub returns : goal.returns
returns c =
    let (decimal-places-is, _) = c.decimal_places-count.ensures in
    decimal_of-written _ _ _ decimal-places-is c.write_last_digits.ensures refl
