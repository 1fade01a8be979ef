-- What the loops of `probe_input::bytes::write_byte_fields` keep true.
use Rattle.text.proofs.laws.TextLaws.{Fielding}
use Rattle.probe_input.proofs.bytes.write_byte_fields.Given as goal

abbrev pub invariant-loop-b : goal.invariant-loop-b
invariant-loop-b l = Fielding l.bytes l.initial.out l.at l.out l.next l.b-index
