-- `service_reading::judged::judge_services` gives the fault of the first faulty service. Assumes nothing.
use Prim.Native.Nat.{ℕ, ◌*◌}
use Rattle.rule.specs.Outcome.{answered}
use Rattle.service_reading.proofs.laws.ReadingLaws.{judging_starts, judging_on, judging_refuses, judging_ends, service_count}
use mathlib.Core.Path.{ap, ◌∙◌}
use native.Mathlib.Omega.{arith}
use Rattle.service_reading.proofs.judged.judge_services.Goals as goal

pub loop-n-init : goal.loop-n-init
loop-n-init c = judging_starts _ _

pub service_fault-requires : goal.service_fault-requires
service_fault-requires c = omega (arith, c.loop-n-test.true)

pub overflow_cast-n : goal.overflow_cast-n
overflow_cast-n c = omega (arith, c.requires, c.loop-n-test.true)

pub returns-in-Err : goal.returns-in-Err
returns-in-Err c =
    c.from.ensures
    ∙ judging_refuses c.loop-n.invariant (omega (arith, c.loop-n-test.true, service_count c.args.services.now)) _
    c.in-Err.ensures _ c.number.ensures

pub loop-n-preserved : goal.loop-n-preserved
loop-n-preserved c =
    judging_on c.loop-n.invariant (omega (arith, c.loop-n-test.true, service_count c.args.services.now)) c.in_default.ensures

pub overflow_cast-result : goal.overflow_cast-result
overflow_cast-result c = omega (arith, c.requires)

pub overflow_mul-result : goal.overflow_mul-result
overflow_mul-result c = omega (arith, c.requires)

pub returns : goal.returns
returns c =
    ap (λ (n : ℕ). answered (2 * n)) (service_count c.args.services.now)
    ∙ judging_ends c.loop-n.invariant (omega (arith, c.loop-n-test.false, service_count c.args.services.now))
