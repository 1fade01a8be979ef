-- What the loops of `labels::nearest::least_place` keep true.
use Rattle.labels.proofs.laws.NearestLaws.{Comparing}
use Rattle.labels.proofs.nearest.least_place.Given as goal

abbrev pub invariant-loop-k : goal.invariant-loop-k
invariant-loop-k l = Comparing l.costs l.from l.k l.least.0 l.least_at
