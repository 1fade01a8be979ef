-- `labels::nearest::next_waiting` raises the least bound until a bridge waits at it. Each turn the bounds can rise less.
-- Assumes nothing.
use native.Mathlib.Omega.{arith}
use lib.ListN.{length-set}
use Rattle.labels.proofs.laws.NearestLaws.{nearest-found, bounds_raised, room_falls}
use Rattle.labels.proofs.nearest.next_waiting.Goals as goal

pub loop-bounds-init : goal.loop-bounds-init
loop-bounds-init c =
    let (_, bounds_of) = c.requires in
    (bounds_of, c.least_place-group.ensures, c.least_place-u.ensures)

pub least_place-group-requires-in-loop-bounds : goal.least_place-group-requires-in-loop-bounds
least_place-group-requires-in-loop-bounds c =
    let (bounds_of, _, _) = c.loop-bounds.invariant in
    simp length-set (omega (arith, bounds_of.one_a_group))

pub loop-bounds-smaller : goal.loop-bounds-smaller
loop-bounds-smaller c =
    let (bounds_of, least-place-bounds, least-place-labels) = c.loop-bounds.invariant in
    room_falls bounds_of least-place-bounds least-place-labels c.loop-bounds-test.true
    (omega arith)

pub loop-bounds-preserved : goal.loop-bounds-preserved
loop-bounds-preserved c =
    let (bounds_of, least-place-bounds, least-place-labels) = c.loop-bounds.invariant in
    (bounds_raised bounds_of least-place-bounds least-place-labels, c.least_place-group-in-loop-bounds.ensures, c.least_place-u-in-loop-bounds.ensures)

pub returns : goal.returns
returns c =
    let (bounds_of, least-place-bounds, least-place-labels) = c.loop-bounds.invariant in
    (nearest-found bounds_of least-place-bounds least-place-labels c.loop-bounds-test.false, bounds_of)
