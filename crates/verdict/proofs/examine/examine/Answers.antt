-- `verdict::examine::examine` reads the records kind by kind, then the end record. Assumes nothing.
use native.Mathlib.Omega.{arith}
use Rattle.rule.specs.Words.{words_of}
use Rattle.rule.proofs.laws.RefusalLaws.{passed_on}
use Rattle.runs.proofs.laws.RunLaws.{whole-at}
use Rattle.verdict.proofs.laws.ExaminationLaws.{examining_starts, examining_next, members-read, accepted-passes, bad_length_lem, good_length, length-fits}
use Rattle.verdict.proofs.examine.examine.Goals as goal

pub returns-then-has_bad_length-clause-result_value : goal.returns-then-has_bad_length-clause-result_value
returns-then-has_bad_length-clause-result_value c =
    rw c.of_call.ensures (
    bad_length_lem c.args.table.now c.has_bad_length.result c.has_bad_length.ensures c.if-has_bad_length.true)

pub loop-kind-init : goal.loop-kind-init
loop-kind-init c = examining_starts (words_of c.args.table.now) c.args.link_index.now c.requires

pub read_kind-requires : goal.read_kind-requires
read_kind-requires c =
    let inv = c.loop-kind.invariant in (
      whole-at inv.before.reached (length-fits _ _ c.has_bad_length.ensures c.if-has_bad_length.false),
      inv.first,
      omega (arith, c.loop-kind-test.true),
      inv.before,
    )

pub loop-kind-preserved : goal.loop-kind-preserved
loop-kind-preserved c =
    examining_next c.loop-kind.invariant (omega (arith, c.loop-kind-test.true)) c.read_kind.ensures _ c.in_ok-s.was

pub returns-in_err-s-clause-result_value : goal.returns-in_err-s-clause-result_value
returns-in_err-s-clause-result_value c =
    rw (passed_on _ _ c.from_residual.ensures.1) (
    good_length c.args.table.now c.has_bad_length.result _ c.has_bad_length.ensures
    c.if-has_bad_length.false (c.read_kind.ensures.refuses _ c.in_err-s.was))

pub read_rest-requires : goal.read_rest-requires
read_rest-requires c =
    let inv = c.loop-kind.invariant in (
      whole-at inv.before.reached (length-fits _ _ c.has_bad_length.ensures c.if-has_bad_length.false),
      members-read inv (omega (arith, c.loop-kind-test.false)),
    )

pub returns : goal.returns
returns c =
    let read-rest-is = c.read_rest.ensures.result_value in
    let accepts =
    good_length c.args.table.now c.has_bad_length.result _ c.has_bad_length.ensures
    c.if-has_bad_length.false read-rest-is in record {
      result_value = accepts;
      passed = accepted-passes accepts c.read_rest.ensures.accepted_after_all
          (length-fits _ _ c.has_bad_length.ensures c.if-has_bad_length.false);
    }
