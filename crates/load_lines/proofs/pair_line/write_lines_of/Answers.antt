-- `load_lines::pair_line::write_lines_of` writes line after line. Assumes nothing.
use native.Mathlib.Omega.{arith}
use Rattle.lists.proofs.laws.AppendingLaws.{few-starts, few-room, few_goes_on, few-ends}
use Rattle.load_lines.proofs.pair_line.write_lines_of.Goals as goal

pub loop-v-init : goal.loop-v-init
loop-v-init c = few-starts _ 38 _ _ _

pub write_pair_line-next-requires : goal.write_pair_line-next-requires
write_pair_line-next-requires c =
    let (hops-room, loads-room, u-bound, n-bound, out-room) = c.requires in (
      hops-room,
      loads-room,
      u-bound,
      omega (arith, n-bound, c.loop-v-test.true),
      few-room c.loop-v.invariant out-room c.loop-v-test.true,
    )

pub loop-v-preserved : goal.loop-v-preserved
loop-v-preserved c =
    let (_, _, _, _, out-room) = c.requires in
    let (written, write-pair-line-bound) = c.write_pair_line-next.ensures in
    few_goes_on c.loop-v.invariant out-room c.loop-v-test.true written write-pair-line-bound

pub shape_of-out : goal.shape_of-out
shape_of-out c = c.loop-v.invariant.same_length

pub returns : goal.returns
returns c =
    let (_, _, _, _, out-room) = c.requires in
    few-ends c.loop-v.invariant out-room c.loop-v-test.false
