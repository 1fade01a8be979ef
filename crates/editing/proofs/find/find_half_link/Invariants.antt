-- What the loops of `editing::find::find_half_link` keep true.
use Rattle.rule.specs.Words.{words_of}
use Rattle.lists.proofs.laws.FirstPassing.{SeekingFirst}
use Rattle.editing.proofs.laws.FindLaws.{named_at}
use Rattle.editing.proofs.find.find_half_link.Given as goal

abbrev pub invariant-loop-i : goal.invariant-loop-i
invariant-loop-i l = SeekingFirst (named_at (words_of l.table) l.s l.name) l.s.half_links l.i
