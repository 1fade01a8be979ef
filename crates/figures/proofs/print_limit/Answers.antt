-- `figures::print_limit` hands on a part that lies within its array. Assumes nothing.
use lib.ListN.{length-take}
use native.Mathlib.Omega.{arith}
use Rattle.figures.proofs.print_limit.Goals as goal

pub slice_bounds-print_check-end : goal.slice_bounds-print_check-end
slice_bounds-print_check-end c = simp length-take (omega (arith, c.words_read.ensures, c.requires))
