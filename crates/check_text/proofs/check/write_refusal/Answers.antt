-- `check_text::check::write_refusal` writes the word, number, kind and word number one after the other. Assumes nothing.
use Rattle.text.proofs.laws.TextLaws.{written_on}
use native.Mathlib.Omega.{arith}
use Rattle.check_text.proofs.check.write_refusal.Goals as goal

pub returns : goal.returns
returns c =
    let (written, write-field-bound) = c.write_field-after_number.ensures in
    let (the_written, write-kind-bound) = c.write_kind-after_kind.ensures in
    let (written-3, write-field2-bound) = c.write_field.ensures in
    let end_is = c.write_word-after_word.ensures.end_is in (
      written_on c.write_word-after_word.ensures
          (written_on written (written_on the_written written-3 (omega (arith, end_is, write-field-bound, write-kind-bound, c.requires)))
          (omega (arith, end_is, write-field-bound, c.requires)))
          (omega (arith, end_is, c.requires)),
      omega (arith, end_is, write-field-bound, write-kind-bound, write-field2-bound),
    )
