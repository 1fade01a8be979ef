-- `probe_check::answer_table` writes the bytes of the line, which lie within its array. Assumes nothing.
use lib.ListN.{length-take}
use native.Mathlib.Omega.{arith}
use Rattle.probe_check.proofs.answer_table.Goals as goal

pub slice_bounds-write_all-end : goal.slice_bounds-write_all-end
slice_bounds-write_all-end c =
    let (_, write-answer-bound) = c.write_answer-written.ensures in
    simp length-take (omega (arith, write-answer-bound))
