-- `probe_calls::line::write_given_tree` writes the word and the number of bridges. Assumes nothing.
use Rattle.text.proofs.laws.TextLaws.{written_on}
use native.Mathlib.Omega.{arith}
use Rattle.probe_calls.proofs.line.write_given_tree.Goals as goal

pub returns : goal.returns
returns c =
    let (written, write-field-bound) = c.write_field.ensures in
    let write-word-ensures = c.write_word-after_word.ensures in (
      written_on write-word-ensures written (omega (arith, write-word-ensures.end_is, c.requires)),
      omega (arith, write-word-ensures.end_is, write-field-bound),
    )
