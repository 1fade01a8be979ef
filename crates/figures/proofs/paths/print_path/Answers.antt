-- `figures::paths::print_path` hands on a part that lies within its array. Assumes nothing.
use native.Mathlib.Omega.{arith}
use lib.ListN.{length-take}
use Rattle.figures.proofs.paths.print_path.Goals as goal

pub slice_bounds-write_all-end : goal.slice_bounds-write_all-end
slice_bounds-write_all-end c =
    let (name-length, list_length) = c.requires in
    simp length-take
    (omega (arith, c.write_answer-end.ensures, c.write_word-after_name.ensures.end_is, name-length, list_length))
