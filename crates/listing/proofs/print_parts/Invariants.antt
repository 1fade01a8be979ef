-- What the loops of `listing::print_parts` keep true.
use mathlib.Core.Path.{◌≡◌}
use lib.ListN.{length}
use Rattle.listing_progress.specs.Remaining.{parts_left, Underway}
use Rattle.listing.proofs.print_parts.Given as goal

abbrev pub invariant-loop-part : goal.invariant-loop-part
invariant-loop-part l = Underway l.table l.progress l.network l.store × (length l.path_ids ≡ length l.initial.path_ids) × (length l.store ≡ length l.initial.store)
    × (length l.words ≡ length l.initial.words) × (length l.out ≡ length l.initial.out)

abbrev pub decreases-loop-part : goal.decreases-loop-part
decreases-loop-part l = parts_left l.table l.progress
