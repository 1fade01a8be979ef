-- `probe_edits::show_table` writes the bytes of the line, which lie within its array. Assumes nothing.
use lib.ListN.{length-take}
use native.Mathlib.Omega.{arith}
use Rattle.probe_edits.proofs.show_table.Goals as goal

pub slice_bounds-write_all-end : goal.slice_bounds-write_all-end
slice_bounds-write_all-end c = simp length-take (omega (arith, c.write_table-written.ensures))
