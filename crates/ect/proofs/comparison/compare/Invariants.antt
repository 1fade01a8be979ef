-- What the loops of `ect::comparison::compare` keep true.
use Prim.Native.Nat.{◌-◌}
use lib.ListN.{length}
use Rattle.ect.proofs.laws.ComparisonLaws.{Comparing}
use Rattle.ect.proofs.comparison.compare.Given as goal

abbrev pub invariant-loop-agreeing : goal.invariant-loop-agreeing
invariant-loop-agreeing l = Comparing l.first l.second l.agreeing

abbrev pub decreases-loop-agreeing : goal.decreases-loop-agreeing
decreases-loop-agreeing l = length l.first - l.agreeing
