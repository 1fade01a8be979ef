-- `network::hops::gather_hops` offers the half-links of the bridge from the last to the first. Assumes nothing.
use Prim.Native.Nat.{◌<◌}
use native.Mathlib.Omega.{arith}
use mathlib.Core.Path.{◌∙◌, sym}
use Rattle.verdict.proofs.laws.CheckedLaws.{few-bridges}
use Rattle.network.proofs.laws.RowLaws.{gathering_starts, gathering_room, gathering_less, gathering_goes_on, gathering_ends}
use Rattle.network.proofs.hops.gather_hops.Goals as goal

pub overflow_cast-u : goal.overflow_cast-u
overflow_cast-u c =
    let (checked, _, _, u-bound, _, _, _) = c.requires in
    omega (arith, u-bound, few-bridges checked)

pub last_place-place-requires : goal.last_place-place-requires
last_place-place-requires c =
    let (_, _, near-index, _, _, _, _) = c.requires in
    near-index.keyed.indexed

pub loop-place-init : goal.loop-place-init
loop-place-init c =
    let (_, _, near-index, _, visited, cleared, _) = c.requires in
    gathering_starts near-index cleared visited c.last_place-place.result c.last_place-place.ensures

pub offer_half_link-at-requires : goal.offer_half_link-at-requires
offer_half_link-at-requires c =
    let one_left : 0 < c.loop-place.place =
    omega (arith, c.loop-place-test.true) in let (checked, link-index, near-index, _, _, _, network-room) = c.requires in
    let gathering = c.loop-place.invariant in (
      checked,
      link-index,
      omega (arith, one_left, gathering.within),
      gathering.size,
      gathering_room near-index gathering one_left near-index.keyed.indexed.few,
      omega (arith, gathering.kept.same_length, network-room),
    )

pub place_before-place-requires : goal.place_before-place-requires
place_before-place-requires c =
    let one_left : 0 < c.loop-place.place =
    omega (arith, c.loop-place-test.true) in let (_, _, near-index, _, _, _, _) = c.requires in
    (near-index.keyed.indexed, one_left, c.loop-place.invariant.within)

pub loop-place-smaller : goal.loop-place-smaller
loop-place-smaller c =
    let one_left : 0 < c.loop-place.place =
    omega (arith, c.loop-place-test.true) in let (_, _, near-index, _, _, _, _) = c.requires in
    gathering_less near-index c.loop-place.invariant one_left
    c.place_before-place.result c.place_before-place.ensures

pub loop-place-preserved : goal.loop-place-preserved
loop-place-preserved c =
    let one_left : 0 < c.loop-place.place =
    omega (arith, c.loop-place-test.true) in let (checked, _, near-index, _, _, _, network-room) = c.requires in
    gathering_goes_on near-index c.loop-place.invariant one_left c.place_before-place.result
    c.place_before-place.ensures checked near-index.keyed.indexed.few network-room c.offer_half_link-at.ensures

pub shape_of-row : goal.shape_of-row
shape_of-row c =
    let (_, _, _, _, _, cleared, _) = c.requires in
    c.loop-place.invariant.size ∙ sym cleared.size

pub shape_of-network : goal.shape_of-network
shape_of-network c = c.loop-place.invariant.kept.same_length

pub returns : goal.returns
returns c = gathering_ends c.loop-place.invariant (omega (arith, c.loop-place-test.false))
