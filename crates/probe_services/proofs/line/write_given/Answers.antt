-- `probe_services::line::write_given` writes the word and a number. Assumes nothing.
use native.Mathlib.Omega.{arith}
use Rattle.text.proofs.laws.TextLaws.{written_on}
use Rattle.probe_services.proofs.line.write_given.Goals as goal

pub write_field-requires : goal.write_field-requires
write_field-requires c = omega (arith, c.write_word-after_word.ensures.end_is, c.requires)

pub returns : goal.returns
returns c =
    let (written, write-field-bound) = c.write_field.ensures in
    let write-word-ensures = c.write_word-after_word.ensures in (
      written_on write-word-ensures written (omega (arith, write-word-ensures.end_is, c.requires)),
      omega (arith, write-word-ensures.end_is, write-field-bound, c.requires),
    )
