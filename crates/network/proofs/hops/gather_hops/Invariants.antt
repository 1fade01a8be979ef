-- What the loops of `network::hops::gather_hops` keep true.
use Rattle.network.specs.Rows.{Gathering}
use Rattle.network.proofs.hops.gather_hops.Given as goal

abbrev pub invariant-loop-place : goal.invariant-loop-place
invariant-loop-place l = Gathering l.table l.s l.u l.from l.initial.network l.row l.network l.place l.at

abbrev pub decreases-loop-place : goal.decreases-loop-place
decreases-loop-place l = l.place
