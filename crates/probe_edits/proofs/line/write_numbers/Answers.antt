-- `probe_edits::line::write_numbers` writes four fields. Assumes nothing.
use native.Mathlib.Omega.{arith}
use Rattle.text.proofs.laws.TextLaws.{written_on}
use Rattle.probe_edits.proofs.line.write_numbers.Goals as goal

pub returns : goal.returns
returns c =
    let (first, first-bound) = c.write_field-after_length.ensures in
    let (second, second-bound) = c.write_field-after_bridge.ensures in
    let (third, third-bound) = c.write_field-after_vid.ensures in
    let (fourth, fourth-bound) = c.write_field.ensures in
    let room = c.requires in
    let two = written_on first second (omega (arith, first-bound, room)) in
    let three = written_on two third (omega (arith, first-bound, second-bound, room)) in (
      written_on three fourth (omega (arith, first-bound, second-bound, third-bound, room)),
      omega (arith, first-bound, second-bound, third-bound, fourth-bound),
    )
