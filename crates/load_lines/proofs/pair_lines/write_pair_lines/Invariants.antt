-- What the loops of `load_lines::pair_lines::write_pair_lines` keep true.
use Rattle.load_lines.proofs.laws.PairTextLaws.{PairLines}
use Rattle.load_lines.proofs.pair_lines.write_pair_lines.Given as goal

abbrev pub invariant-loop-u : goal.invariant-loop-u
invariant-loop-u l = PairLines l.network l.loads l.u l.initial.out l.out l.next
