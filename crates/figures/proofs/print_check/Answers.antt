-- `figures::print_check` writes the bytes of the line, which lie within its array. Assumes nothing.
use lib.ListN.{length-take}
use native.Mathlib.Omega.{arith}
use Rattle.figures.proofs.print_check.Goals as goal

pub slice_bounds-write_all-end : goal.slice_bounds-write_all-end
slice_bounds-write_all-end c =
    let (_, write-check-bound) = c.write_check-end.ensures in
    simp length-take (omega (arith, c.write_word-after_name.ensures.end_is, write-check-bound, c.requires))
