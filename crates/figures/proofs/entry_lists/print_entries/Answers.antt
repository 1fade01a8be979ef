-- `figures::entry_lists::print_entries` hands on a part that lies within its array. Assumes nothing.
use native.Mathlib.Omega.{arith}
use lib.ListN.{length-take}
use Rattle.figures.proofs.entry_lists.print_entries.Goals as goal

pub slice_bounds-write_all-end : goal.slice_bounds-write_all-end
slice_bounds-write_all-end c =
    simp length-take (omega (arith, c.write_answer-end.ensures, c.write_word-after_name.ensures.end_is, c.requires))
