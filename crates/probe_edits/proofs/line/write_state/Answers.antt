-- `probe_edits::line::write_state` writes the answer, the numbers, the lists and the newline. Assumes nothing.
use native.Mathlib.Omega.{arith}
use Rattle.text.proofs.laws.TextLaws.{written_on}
use Rattle.probe_edits.proofs.line.write_state.Goals as goal

pub returns : goal.returns
returns c =
    let (answer, answer-bound) = c.write_answer-after_answer.ensures in
    let (numbers, numbers-bound) = c.write_numbers-after_numbers.ensures in
    let (lists, lists-bound) = c.write_lists-after_lists.ensures in
    let newline-written = c.write_byte.ensures in
    let (_, room) = c.requires in
    let two = written_on answer numbers (omega (arith, answer-bound, room)) in
    let three = written_on two lists (omega (arith, answer-bound, numbers-bound, room)) in (
      written_on three newline-written (omega (arith, answer-bound, numbers-bound, lists-bound, room)),
      omega (arith, answer-bound, numbers-bound, lists-bound, newline-written.end_is, room),
    )
