-- What the loops of `load_lines::pair_line::write_lines_of` keep true.
use Rattle.lists.proofs.laws.AppendingLaws.{AppendingFew}
use Rattle.load_lines.specs.PairTexts.{pair_text}
use Rattle.load_lines.proofs.pair_line.write_lines_of.Given as goal

abbrev pub invariant-loop-v : goal.invariant-loop-v
invariant-loop-v l = AppendingFew (pair_text l.hops l.loads l.u) 38 l.n l.initial.out l.at l.v l.out l.next
