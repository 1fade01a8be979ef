-- What the loops of `labels::nearest::next_waiting` keep true.
use Prim.Native.Nat.{◌*◌}
use Rattle.labels.specs.Nearest.{LeastPlace, BoundsOf}
use Rattle.labels.proofs.laws.NearestLaws.{room_above}
use Rattle.labels.proofs.nearest.next_waiting.Given as goal

abbrev pub invariant-loop-bounds : goal.invariant-loop-bounds
invariant-loop-bounds l = BoundsOf l.labels l.bounds × LeastPlace l.bounds 0 8 l.group × LeastPlace l.labels (l.group * 8) 8 l.u

abbrev pub decreases-loop-bounds : goal.decreases-loop-bounds
decreases-loop-bounds l = room_above l.bounds
