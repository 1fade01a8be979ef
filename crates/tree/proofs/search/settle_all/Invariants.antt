-- What the loops of `tree::search::settle_all` keep true.
use mathlib.Core.Path.{◌≡◌}
use lib.ListN.{length}
use Rattle.labels.specs.Nearest.{BoundsOf, Nearest}
use Rattle.tree.specs.Tracked.{Underway, open_bridges, InOrder}
use Rattle.tree.proofs.search.settle_all.Given as goal

abbrev pub invariant-loop-bounds : goal.invariant-loop-bounds
invariant-loop-bounds l = Underway l.n l.starts l.neighbours l.costs l.keys l.root l.labels l.path_ids × BoundsOf l.labels l.bounds × Nearest l.labels l.u
    × InOrder l.n l.root l.labels l.order l.count × (length l.labels ≡ length l.initial.labels) × (length l.path_ids ≡ length l.initial.path_ids)

abbrev pub decreases-loop-bounds : goal.decreases-loop-bounds
decreases-loop-bounds l = open_bridges l.n l.labels
