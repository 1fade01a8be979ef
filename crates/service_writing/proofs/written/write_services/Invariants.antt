-- What the loops of `service_writing::written::write_services` keep true.
use Rattle.lists.proofs.laws.AppendingLaws.{Appending}
use Rattle.service_writing.proofs.laws.WritingLaws.{bytes_at}
use lib.ListN.{length}
use Rattle.service_writing.proofs.written.write_services.Given as goal

abbrev pub invariant-loop-service : goal.invariant-loop-service
invariant-loop-service l = Appending (bytes_at l.services) (length l.services) l.initial.bytes l.at l.service-index l.bytes l.end
