-- `listing::print_parts` prints part after part, until none is left. Assumes nothing.
use native.Mathlib.Omega.{arith}
use mathlib.Core.Path.{refl}
use lib.ListN.{length-take}
use Rattle.listing_progress.proofs.laws.RemainingLaws.{part_fits, part_goes_on}
use Rattle.listing.proofs.print_parts.Goals as goal

pub loop-part-init : goal.loop-part-init
loop-part-init c =
    let underway = c.requires.underway in
    (underway, refl, refl, refl, refl)

pub next_part-requires : goal.next_part-requires
next_part-requires c =
    let (underway, path-ids-length, _, words-length, out-length) = c.loop-part.invariant in
    let (path-ids-room, words-room, out-room) = c.requires.in_bounds in record {
      underway = underway;
      in_bounds = (omega (arith, path-ids-length, path-ids-room), omega (arith, words-length, words-room), omega (arith, out-length, out-room));
    }

pub slice_bounds-print-end : goal.slice_bounds-print-end
slice_bounds-print-end c =
    let next_of = c.next_part.ensures.next_of in
    part_fits _ _ c.in-Some.is _ next_of

pub slice_bounds-print-end-in-Some : goal.slice_bounds-print-end-in-Some
slice_bounds-print-end-in-Some c =
    simp length-take (omega (arith, part_fits _ _ c.in-Some.is _ c.next_part.ensures.next_of))

pub loop-part-smaller : goal.loop-part-smaller
loop-part-smaller c =
    let (_, fewer-left) = part_goes_on c.args.table.now c.loop-part.progress c.in-Some.is c.args.network.now c.next_part.new.store
    c.next_part.ensures.goes_on in
    fewer-left

pub loop-part-preserved : goal.loop-part-preserved
loop-part-preserved c =
    let (underway, _) = part_goes_on c.args.table.now c.loop-part.progress c.in-Some.is c.args.network.now c.next_part.new.store
    c.next_part.ensures.goes_on in
    let (_, path-ids-length, store_length, words-length, out-length) = c.loop-part.invariant in
    let lengths-kept = c.next_part.auto in (
      underway,
      omega (arith, lengths-kept, path-ids-length),
      omega (arith, lengths-kept, store_length),
      omega (arith, lengths-kept, words-length),
      omega (arith, lengths-kept, out-length),
    )
