-- What the loops of `service_writing::write::gather_services` keep true.
use Rattle.lists.proofs.laws.AppendingLaws.{Appending}
use Rattle.rule.specs.Words.{words_of}
use Rattle.service_writing.specs.Gathered.{service_at}
use Rattle.service_writing.proofs.write.gather_services.Given as goal

abbrev pub invariant-loop-j : goal.invariant-loop-j
invariant-loop-j l = Appending (service_at (words_of l.table) l.s l.bridge l.vid) l.s.members l.initial.services 0 l.j l.services l.at
