-- What the loops of `network::hops::list_neighbours` keep true.
use Prim.Native.Nat.{◌-◌}
use Rattle.network.proofs.laws.NeighbourLaws.{Filling}
use Rattle.network.proofs.hops.list_neighbours.Given as goal

abbrev pub invariant-loop-u : goal.invariant-loop-u
invariant-loop-u l = Filling l.table l.s l.initial.network l.network l.u l.at

abbrev pub decreases-loop-u : goal.decreases-loop-u
decreases-loop-u l = l.s.bridges - l.u
