-- `text::fields::write_line` writes the word, the fields and the newline one after the other. Assumes nothing.
use Rattle.text.proofs.laws.TextLaws.{written_on}
use native.Mathlib.Omega.{arith}
use Rattle.text.proofs.fields.write_line.Goals as goal

pub returns : goal.returns
returns c =
    let (written, write-fields-bound) = c.write_fields-after_fields.ensures in
    let end_is = c.write_word-after_word.ensures.end_is in (
      written_on c.write_word-after_word.ensures
          (written_on written c.write_byte.ensures (omega (arith, end_is, write-fields-bound, c.requires)))
          (omega (arith, end_is, c.requires)),
      omega (arith, end_is, write-fields-bound, c.write_byte.ensures.end_is),
    )
