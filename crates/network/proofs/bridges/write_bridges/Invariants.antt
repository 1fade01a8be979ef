-- What the loops of `network::bridges::write_bridges` keep true.
use Rattle.rule.specs.Words.{words_of}
use Rattle.network.proofs.laws.BridgeLaws.{Writing}
use Rattle.network.proofs.bridges.write_bridges.Given as goal

abbrev pub invariant-loop-u : goal.invariant-loop-u
invariant-loop-u l = Writing (words_of l.table) l.s l.initial.words l.words l.u
