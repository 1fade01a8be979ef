-- What the loops of `network::near::enter_near_bridges` keep true.
use Rattle.network.proofs.laws.VisitLaws.{Entering}
use Rattle.network.proofs.near.enter_near_bridges.Given as goal

abbrev pub invariant-loop-i : goal.invariant-loop-i
invariant-loop-i l = Entering l.table l.s l.near_index l.i
