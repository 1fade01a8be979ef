-- `probe_calls::answer_path` writes the bytes of the line, which lie within its array. Assumes nothing.
use lib.ListN.{length-take}
use native.Mathlib.Omega.{arith}
use Rattle.probe_calls.proofs.answer_path.Goals as goal

pub slice_bounds-write_all-end : goal.slice_bounds-write_all-end
slice_bounds-write_all-end c = simp length-take (omega (arith, c.write_asked_path-written.ensures))
