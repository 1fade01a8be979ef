-- What the loops of `links::usable::count_usable` keep true.
use Rattle.rule.specs.Words.{words_of}
use Rattle.links.proofs.laws.CountLaws.{Counting}
use Rattle.links.proofs.usable.count_usable.Given as goal

abbrev pub invariant-loop-i : goal.invariant-loop-i
invariant-loop-i l = Counting (words_of l.table) l.s l.i l.count
