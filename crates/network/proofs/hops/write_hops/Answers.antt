-- `network::hops::write_hops` writes the cost and the port of each hop in turn. Assumes nothing.
use Prim.Native.Nat.{◌+◌, ◌≤◌, ◌<◌}
use native.Mathlib.Omega.{arith}
use lib.ListN.{length, get_or, length-set}
use Rattle.network.specs.Layout.{neighbours_at, marks_at}
use Rattle.network.proofs.laws.RowLaws.{writing-starts, hop-there, writing_goes_on, writing-ends}
use Rattle.network.proofs.hops.write_hops.Goals as goal

pub loop-k-init : goal.loop-k-init
loop-k-init c =
    let (in_order, _, _, _) = c.requires in
    (writing-starts c.args.row.now c.args.network.now c.args.from, in_order)

pub overflow_add-hop : goal.overflow_add-hop
overflow_add-hop c =
    let room : (c.loop-k.k < 512) × (marks_at ≤ length c.loop-k.network) =
    let (_, most, network-room, _) = c.requires in
    let (written, _) = c.loop-k.invariant in
    (omega (arith, most, c.loop-k-test.true), omega (arith, network-room, written.kept.same_length)) in omega (arith, room)

pub offset_bounds-network-k : goal.offset_bounds-network-k
offset_bounds-network-k c =
    let room : (c.loop-k.k < 512) × (marks_at ≤ length c.loop-k.network) =
    let (_, most, network-room, _) = c.requires in
    let (written, _) = c.loop-k.invariant in
    (omega (arith, most, c.loop-k-test.true), omega (arith, network-room, written.kept.same_length)) in omega (arith, room)

pub bounds-network-k : goal.bounds-network-k
bounds-network-k c =
    let room : (c.loop-k.k < 512) × (marks_at ≤ length c.loop-k.network) =
    let (_, most, network-room, _) = c.requires in
    let (written, _) = c.loop-k.invariant in
    (omega (arith, most, c.loop-k-test.true), omega (arith, network-room, written.kept.same_length)) in omega (arith, room)

pub overflow_cast-hop : goal.overflow_cast-hop
overflow_cast-hop c =
    let room : (c.loop-k.k < 512) × (marks_at ≤ length c.loop-k.network) =
    let (_, most, network-room, _) = c.requires in
    let (written, _) = c.loop-k.invariant in
    (omega (arith, most, c.loop-k-test.true), omega (arith, network-room, written.kept.same_length)) in
    let hop-of-turn : (get_or c.loop-k.network (neighbours_at + c.loop-k.k) 0 < 64) × (get_or c.args.row.now (get_or c.loop-k.network (neighbours_at + c.loop-k.k) 0) 0 < 4503599627370496) =
    let (_, _, network-room, have-hops) = c.requires in
    let (written, _) = c.loop-k.invariant in
    let (k-bound, _) = room in
    hop-there written k-bound network-room have-hops c.loop-k-test.true in omega (arith, hop-of-turn)

pub offset_bounds-row-network : goal.offset_bounds-row-network
offset_bounds-row-network c =
    let room : (c.loop-k.k < 512) × (marks_at ≤ length c.loop-k.network) =
    let (_, most, network-room, _) = c.requires in
    let (written, _) = c.loop-k.invariant in
    (omega (arith, most, c.loop-k-test.true), omega (arith, network-room, written.kept.same_length)) in
    let hop-of-turn : (get_or c.loop-k.network (neighbours_at + c.loop-k.k) 0 < 64) × (get_or c.args.row.now (get_or c.loop-k.network (neighbours_at + c.loop-k.k) 0) 0 < 4503599627370496) =
    let (_, _, network-room, have-hops) = c.requires in
    let (written, _) = c.loop-k.invariant in
    let (k-bound, _) = room in
    hop-there written k-bound network-room have-hops c.loop-k-test.true in omega (arith, hop-of-turn)

pub bounds-row-network : goal.bounds-row-network
bounds-row-network c =
    let room : (c.loop-k.k < 512) × (marks_at ≤ length c.loop-k.network) =
    let (_, most, network-room, _) = c.requires in
    let (written, _) = c.loop-k.invariant in
    (omega (arith, most, c.loop-k-test.true), omega (arith, network-room, written.kept.same_length)) in
    let hop-of-turn : (get_or c.loop-k.network (neighbours_at + c.loop-k.k) 0 < 64) × (get_or c.args.row.now (get_or c.loop-k.network (neighbours_at + c.loop-k.k) 0) 0 < 4503599627370496) =
    let (_, _, network-room, have-hops) = c.requires in
    let (written, _) = c.loop-k.invariant in
    let (k-bound, _) = room in
    hop-there written k-bound network-room have-hops c.loop-k-test.true in let (_, _, _, have-hops) = c.requires in
    omega (arith, hop-of-turn, have-hops.size)

pub cost_of_hop-requires : goal.cost_of_hop-requires
cost_of_hop-requires c =
    let room : (c.loop-k.k < 512) × (marks_at ≤ length c.loop-k.network) =
    let (_, most, network-room, _) = c.requires in
    let (written, _) = c.loop-k.invariant in
    (omega (arith, most, c.loop-k-test.true), omega (arith, network-room, written.kept.same_length)) in
    let hop-of-turn : (get_or c.loop-k.network (neighbours_at + c.loop-k.k) 0 < 64) × (get_or c.args.row.now (get_or c.loop-k.network (neighbours_at + c.loop-k.k) 0) 0 < 4503599627370496) =
    let (_, _, network-room, have-hops) = c.requires in
    let (written, _) = c.loop-k.invariant in
    let (k-bound, _) = room in
    hop-there written k-bound network-room have-hops c.loop-k-test.true in omega (arith, hop-of-turn)

pub overflow_add-network : goal.overflow_add-network
overflow_add-network c =
    let room : (c.loop-k.k < 512) × (marks_at ≤ length c.loop-k.network) =
    let (_, most, network-room, _) = c.requires in
    let (written, _) = c.loop-k.invariant in
    (omega (arith, most, c.loop-k-test.true), omega (arith, network-room, written.kept.same_length)) in omega (arith, room)

pub offset_bounds-network-k-in-loop-k : goal.offset_bounds-network-k-in-loop-k
offset_bounds-network-k-in-loop-k c =
    let room : (c.loop-k.k < 512) × (marks_at ≤ length c.loop-k.network) =
    let (_, most, network-room, _) = c.requires in
    let (written, _) = c.loop-k.invariant in
    (omega (arith, most, c.loop-k-test.true), omega (arith, network-room, written.kept.same_length)) in omega (arith, room)

pub bounds-network-k-in-loop-k : goal.bounds-network-k-in-loop-k
bounds-network-k-in-loop-k c =
    let room : (c.loop-k.k < 512) × (marks_at ≤ length c.loop-k.network) =
    let (_, most, network-room, _) = c.requires in
    let (written, _) = c.loop-k.invariant in
    (omega (arith, most, c.loop-k-test.true), omega (arith, network-room, written.kept.same_length)) in omega (arith, room)

pub overflow_add-network-in-loop-k : goal.overflow_add-network-in-loop-k
overflow_add-network-in-loop-k c =
    let room : (c.loop-k.k < 512) × (marks_at ≤ length c.loop-k.network) =
    let (_, most, network-room, _) = c.requires in
    let (written, _) = c.loop-k.invariant in
    (omega (arith, most, c.loop-k-test.true), omega (arith, network-room, written.kept.same_length)) in omega (arith, room)

pub offset_bounds-network-k-in-loop-k-2 : goal.offset_bounds-network-k-in-loop-k-2
offset_bounds-network-k-in-loop-k-2 c =
    let room : (c.loop-k.k < 512) × (marks_at ≤ length c.loop-k.network) =
    let (_, most, network-room, _) = c.requires in
    let (written, _) = c.loop-k.invariant in
    (omega (arith, most, c.loop-k-test.true), omega (arith, network-room, written.kept.same_length)) in omega (arith, room)

pub bounds-network-k-in-loop-k-2 : goal.bounds-network-k-in-loop-k-2
bounds-network-k-in-loop-k-2 c =
    let room : (c.loop-k.k < 512) × (marks_at ≤ length c.loop-k.network) =
    let (_, most, network-room, _) = c.requires in
    let (written, _) = c.loop-k.invariant in
    (omega (arith, most, c.loop-k-test.true), omega (arith, network-room, written.kept.same_length)) in simp length-set (omega (arith, room))

pub loop-k-preserved : goal.loop-k-preserved
loop-k-preserved c =
    let room : (c.loop-k.k < 512) × (marks_at ≤ length c.loop-k.network) =
    let (_, most, network-room, _) = c.requires in
    let (written, _) = c.loop-k.invariant in
    (omega (arith, most, c.loop-k-test.true), omega (arith, network-room, written.kept.same_length)) in let (_, _, network-room, _) = c.requires in
    let (written, _) = c.loop-k.invariant in
    let (k-bound, _) = room in (
      writing_goes_on written k-bound network-room _ _ c.cost_of_hop.ensures c.port_of_hop.ensures,
      omega (arith, c.loop-k-test.true),
    )

pub shape_of-network : goal.shape_of-network
shape_of-network c =
    let (written, _) = c.loop-k.invariant in
    written.kept.same_length

pub returns : goal.returns
returns c =
    let (written, within) = c.loop-k.invariant in
    writing-ends written within c.loop-k-test.false
