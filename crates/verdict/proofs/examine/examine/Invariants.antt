-- What the loops of `verdict::examine::examine` keep true.
use Rattle.rule.specs.Words.{words_of}
use Rattle.verdict.proofs.laws.ExaminationLaws.{Examining}
use Rattle.verdict.proofs.examine.examine.Given as goal

abbrev pub invariant-loop-kind : goal.invariant-loop-kind
invariant-loop-kind l = Examining (words_of l.table) l.link_index l.s l.kind
