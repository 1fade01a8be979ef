-- What the loops of `labels::relax::relax_all` keep true.
use Rattle.labels.specs.Nearest.{BoundsOf}
use Rattle.labels.proofs.laws.RelaxingLaws.{Offering}
use Rattle.labels.proofs.relax.relax_all.Given as goal

abbrev pub invariant-loop-i : goal.invariant-loop-i
invariant-loop-i l = Offering l.starts l.neighbours l.costs l.path_ids l.initial.labels l.via l.labels l.i × BoundsOf l.labels l.bounds
