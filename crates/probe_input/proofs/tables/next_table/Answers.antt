-- `probe_input::tables::next_table` lends a part that lies within the lent bytes. Assumes nothing.
use lib.ListN.{length-take}
use native.Mathlib.Omega.{arith}
use Rattle.probe_input.proofs.tables.next_table.Goals as goal

pub slice_bounds-read_bytes-end-2 : goal.slice_bounds-read_bytes-end-2
slice_bounds-read_bytes-end-2 c = simp length-take (omega (arith, c.requires))
