-- What the loops of `network::bridges::write_keys` keep true.
use Rattle.network.proofs.laws.BridgeLaws.{Masking}
use Rattle.network.proofs.bridges.write_keys.Given as goal

abbrev pub invariant-loop-u : goal.invariant-loop-u
invariant-loop-u l = Masking l.network l.mask l.initial.keys l.keys l.u
