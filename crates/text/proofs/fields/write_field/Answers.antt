-- `text::fields::write_field` writes a space and the number. Assumes nothing.
use Rattle.text.proofs.laws.DigitLaws.{length-decimal_of}
use Rattle.text.proofs.laws.TextLaws.{written_on}
use native.Mathlib.Omega.{arith}
use Rattle.text.proofs.fields.write_field.Goals as goal

pub returns : goal.returns
returns c =
    let write-byte-ensures = c.write_byte-after_space.ensures in (
      written_on write-byte-ensures c.write_decimal.ensures (omega (arith, write-byte-ensures.end_is, c.requires)),
      omega (arith, write-byte-ensures.end_is, c.write_decimal.ensures.end_is, length-decimal_of c.args.n),
    )
