-- `load_lines::pair_lines::write_pair_lines` writes the lines of bridge after bridge. Assumes nothing.
use native.Mathlib.Omega.{arith}
use Rattle.load_lines.proofs.laws.PairTextLaws.{pair_lines_start, pair_lines_length, pair_lines_room, pair_lines_on, pair_lines_end}
use Rattle.load_lines.proofs.pair_lines.write_pair_lines.Goals as goal

pub bridges-n-requires : goal.bridges-n-requires
bridges-n-requires c =
    let (is-network, _, _) = c.requires in
    is-network.network.size

pub loop-u-init : goal.loop-u-init
loop-u-init c =
    let (is-network, _, _) = c.requires in
    pair_lines_start is-network _

pub write_lines_from-next-requires : goal.write_lines_from-next-requires
write_lines_from-next-requires c =
    let (is-network, loads-room, out-room) = c.requires in (
      is-network,
      loads-room,
      omega (arith, c.loop-u-test.true, c.bridges-n.ensures),
      pair_lines_room is-network c.loop-u.invariant out-room (omega (arith, c.loop-u-test.true, c.bridges-n.ensures)),
    )

pub loop-u-preserved : goal.loop-u-preserved
loop-u-preserved c =
    let (is-network, _, out-room) = c.requires in
    pair_lines_on is-network c.loop-u.invariant out-room (omega (arith, c.loop-u-test.true, c.bridges-n.ensures))
    c.write_lines_from-next.ensures

pub shape_of-out : goal.shape_of-out
shape_of-out c =
    let (is-network, _, _) = c.requires in
    pair_lines_length is-network c.loop-u.invariant

pub returns : goal.returns
returns c =
    let (is-network, _, out-room) = c.requires in
    pair_lines_end is-network c.loop-u.invariant out-room (omega (arith, c.loop-u-test.false, c.bridges-n.ensures))
