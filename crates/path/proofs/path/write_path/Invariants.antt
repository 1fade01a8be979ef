-- What the loops of `path::path::write_path` keep true.
use Rattle.path.proofs.laws.FollowedLaws.{Following}
use Rattle.path.proofs.path.write_path.Given as goal

abbrev pub invariant-loop-i : goal.invariant-loop-i
invariant-loop-i l = Following l.labels l.initial.list l.list l.from l.count l.i l.u
