-- `network::hops::list_neighbours` lists the hops bridge after bridge. Assumes nothing.
use native.Mathlib.Omega.{arith}
use mathlib.Core.Path.{◌≡◌, ◌∙◌}
use lib.ListN.{length, length-set}
use Rattle.verdict.proofs.laws.CheckedLaws.{few-bridges}
use Rattle.network.specs.Layout.{starts_at}
use Rattle.network.proofs.laws.VisitLaws.{visited-few}
use Rattle.network.proofs.laws.NeighbourLaws.{filling_starts, filling_goes_on, filling_ends}
use Rattle.network.proofs.hops.list_neighbours.Goals as goal

pub bounds-network-1537 : goal.bounds-network-1537
bounds-network-1537 c =
    let (_, _, _, network-room) = c.requires in
    omega (arith, network-room)

pub loop-u-init : goal.loop-u-init
loop-u-init c =
    let (_, _, _, network-room) = c.requires in
    filling_starts c.args.table.now c.args.s c.args.network.now (omega (arith, network-room))

pub list_hops-at-requires : goal.list_hops-at-requires
list_hops-at-requires c =
    let network-length : length c.loop-u.network ≡ length c.args.network.now =
    c.loop-u.invariant.same_length ∙ length-set c.args.network.now starts_at _ in let (checked, link-index, near-index, network-room) = c.requires in (
      checked,
      link-index,
      near-index,
      c.loop-u-test.true,
      c.loop-u.invariant.visited,
      omega (arith, network-length, network-room),
    )

pub overflow_cast-network : goal.overflow_cast-network
overflow_cast-network c =
    let (_, _, near-index, _) = c.requires in
    let (_, visited, _) = c.list_hops-at.ensures in
    omega (arith, visited-few visited, near-index.keyed.indexed.few)

pub bounds-network-u : goal.bounds-network-u
bounds-network-u c =
    let network-length : length c.loop-u.network ≡ length c.args.network.now =
    c.loop-u.invariant.same_length ∙ length-set c.args.network.now starts_at _ in let (checked, _, _, network-room) = c.requires in
    let (_, _, kept) = c.list_hops-at.ensures in
    omega (arith, c.loop-u-test.true, kept.same_length, network-length, few-bridges checked, network-room)

pub loop-u-preserved : goal.loop-u-preserved
loop-u-preserved c =
    let network-length : length c.loop-u.network ≡ length c.args.network.now =
    c.loop-u.invariant.same_length ∙ length-set c.args.network.now starts_at _ in let (checked, _, near-index, network-room) = c.requires in
    let (hops, visited, kept) = c.list_hops-at.ensures in
    filling_goes_on c.loop-u.invariant c.loop-u-test.true (few-bridges checked) near-index.keyed.indexed.few
    (omega (arith, network-length, c.loop-u.invariant.same_length, network-room)) hops visited kept

pub shape_of-network : goal.shape_of-network
shape_of-network c =
    let network-length : length c.loop-u.network ≡ length c.args.network.now =
    c.loop-u.invariant.same_length ∙ length-set c.args.network.now starts_at _ in network-length

pub returns : goal.returns
returns c =
    let network-length : length c.loop-u.network ≡ length c.args.network.now =
    c.loop-u.invariant.same_length ∙ length-set c.args.network.now starts_at _ in let (_, _, near-index, _) = c.requires in
    (filling_ends c.loop-u.invariant c.loop-u-test.false near-index.keyed.indexed.few, network-length)
