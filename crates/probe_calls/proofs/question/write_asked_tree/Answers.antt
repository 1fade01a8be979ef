-- `probe_calls::question::write_asked_tree` lends parts of three lists whose places were set. Assumes nothing.
use lib.ListN.{length-take}
use native.Mathlib.Omega.{arith}
use Rattle.text.proofs.laws.TextLaws.{written_as}
use Rattle.probe_input.specs.Lent.{untouched_place}
use Rattle.probe_input.proofs.laws.LentLaws.{front-set}
use Rattle.probe_calls.proofs.laws.SameTexts.{same-tree_text}
use Rattle.probe_calls.proofs.question.write_asked_tree.Goals as goal

pub slice_bounds-write_tree-end : goal.slice_bounds-write_tree-end
slice_bounds-write_tree-end c = simp length-take (omega (arith, c.requires))

pub slice_bounds-write_tree-end-2 : goal.slice_bounds-write_tree-end-2
slice_bounds-write_tree-end-2 c = simp length-take (omega (arith, c.requires))

pub slice_bounds-write_tree-end-3 : goal.slice_bounds-write_tree-end-3
slice_bounds-write_tree-end-3 c = simp length-take (omega (arith, c.requires))

pub write_tree-requires : goal.write_tree-requires
write_tree-requires c = simp length-take (omega (arith, c.requires))

pub returns : goal.returns
returns c =
    let (written, write-tree-bound) = c.write_tree.ensures in
    let (cost-places-bound, hop-places-bound, last-places-bound, _) = c.requires in (
      written_as written _
          (same-tree_text c.args.table.now c.args.vid c.args.from
          (front-set untouched_place _ _ 80 c.set_untouched.ensures cost-places-bound)
          (front-set untouched_place _ _ 80 c.set_untouched-2.ensures hop-places-bound)
          (front-set untouched_place _ _ 80 c.set_untouched-3.ensures last-places-bound)),
      write-tree-bound,
    )
