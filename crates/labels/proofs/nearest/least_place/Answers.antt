-- `labels::nearest::least_place` compares the costs of a group one after the other. Assumes nothing.
use Rattle.labels.proofs.laws.NearestLaws.{comparing_starts, comparing_goes_on, comparing_ends}
use Rattle.labels.proofs.nearest.least_place.Goals as goal

pub loop-k-init : goal.loop-k-init
loop-k-init c = comparing_starts _ _

pub loop-k-preserved : goal.loop-k-preserved
loop-k-preserved c =
    comparing_goes_on c.loop-k.invariant c.loop-k-test.true c.place_of_lesser-least_at.ensures c.lesser-least.ensures

pub returns : goal.returns
returns c = comparing_ends c.loop-k.invariant c.loop-k-test.false
