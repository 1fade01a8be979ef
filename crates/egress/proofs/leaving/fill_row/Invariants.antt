-- What the loops of `egress::leaving::fill_row` keep true.
use Rattle.egress.proofs.laws.PassLaws.{Passing}
use Rattle.egress.proofs.leaving.fill_row.Given as goal

abbrev pub invariant-loop-k : goal.invariant-loop-k
invariant-loop-k l = Passing l.labels l.hops l.b l.n l.row l.k
