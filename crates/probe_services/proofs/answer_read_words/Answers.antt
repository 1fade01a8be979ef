-- `probe_services::answer_read_words` reads a sub-TLV into a part of its array. Assumes nothing.
use lib.ListN.{length-take}
use native.Mathlib.Omega.{arith}
use Rattle.probe_services.proofs.answer_read_words.Goals as goal

pub slice_bounds-answer_next_bytes-end : goal.slice_bounds-answer_next_bytes-end
slice_bounds-answer_next_bytes-end c = simp length-take (omega (arith, c.if-length-gt-LONGEST_SUB_TLV.false))
