-- `verdict::examine::read_rest` reads the traffic, then the end record. Assumes nothing.
use native.Mathlib.Omega.{arith}
use Rattle.rule.proofs.laws.RefusalLaws.{passed_on}
use Rattle.runs.proofs.laws.RunLaws.{whole-at}
use Rattle.verdict.proofs.laws.LastLaws.{lower_only}
use Rattle.verdict.proofs.laws.ExaminationLaws.{traffic-read, accepted-after-all}
use Rattle.verdict.proofs.examine.read_rest.Goals as goal

pub read_traffic_records-requires : goal.read_traffic_records-requires
read_traffic_records-requires c =
    let (whole, before) = c.requires in
    (whole, before.reached, before.no_traffic (omega arith))

pub returns-in_err-read_traffic_records-clause-result_value : goal.returns-in_err-read_traffic_records-clause-result_value
returns-in_err-read_traffic_records-clause-result_value c =
    rw (passed_on _ _ c.from_residual.ensures.1) (c.read_traffic_records.ensures.refuses _ c.in_err-read_traffic_records.was)

pub read_last-requires : goal.read_last-requires
read_last-requires c =
    let (whole, before) = c.requires in
    let read = traffic-read before c.read_traffic_records.ensures _ c.in_ok-read_traffic_records.was in
    (whole-at read.reached whole.bounded, read.reached, lower_only read)

pub returns : goal.returns
returns c =
    let (_, before) = c.requires in
    let read = traffic-read before c.read_traffic_records.ensures _ c.in_ok-read_traffic_records.was in record {
      result_value = c.read_last.ensures.result_value;
      accepted_after_all = accepted-after-all c.read_last.ensures.accepted_as read;
    }
