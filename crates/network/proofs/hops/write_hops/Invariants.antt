-- What the loops of `network::hops::write_hops` keep true.
use Prim.Native.Nat.{◌≤◌}
use Rattle.network.specs.Rows.{HopsWritten}
use Rattle.network.proofs.hops.write_hops.Given as goal

abbrev pub invariant-loop-k : goal.invariant-loop-k
invariant-loop-k l = HopsWritten l.row l.initial.network l.network l.from l.k × (l.k ≤ l.to)
