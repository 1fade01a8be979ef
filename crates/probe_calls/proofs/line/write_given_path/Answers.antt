-- `probe_calls::line::write_given_path` writes the word, cost and hops one after the other. Assumes nothing.
use Rattle.text.proofs.laws.TextLaws.{written_on}
use native.Mathlib.Omega.{arith}
use Rattle.probe_calls.proofs.line.write_given_path.Goals as goal

pub returns : goal.returns
returns c =
    let (cost-written, write-field-bound) = c.write_field-after_cost.ensures in
    let (hops-written, write-field2-bound) = c.write_field.ensures in
    let end_is = c.write_word-after_word.ensures.end_is in (
      written_on c.write_word-after_word.ensures
          (written_on cost-written hops-written (omega (arith, end_is, write-field-bound, c.requires)))
          (omega (arith, end_is, c.requires)),
      omega (arith, end_is, write-field-bound, write-field2-bound),
    )
