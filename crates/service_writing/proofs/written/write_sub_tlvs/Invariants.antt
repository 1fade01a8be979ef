-- What the loops of `service_writing::written::write_sub_tlvs` keep true.
use Rattle.lists.proofs.laws.AppendingLaws.{Appending}
use Rattle.rule.specs.Services.{sub_tlv_at, sub_tlv_count}
use Rattle.service_writing.proofs.written.write_sub_tlvs.Given as goal

abbrev pub invariant-loop-i : goal.invariant-loop-i
invariant-loop-i l = Appending (sub_tlv_at l.b_mac l.vid l.services) (sub_tlv_count l.services) l.initial.bytes 0 l.i l.bytes l.at
