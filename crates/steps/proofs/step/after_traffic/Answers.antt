-- `steps::step::after_traffic` refuses the record by its lowest fault, or takes it and enters its key. Assumes nothing.
use native.Mathlib.Omega.{arith}
use mathlib.Core.Path.{refl}
use lib.ListN.{drop}
use Rattle.rule.specs.declared.answer.RecordKind.{RecordKind}
use Rattle.rule.specs.Words.{words_of}
use Rattle.rule.specs.Records.{traffic_layout}
use Rattle.table.specs.Positions.{traffic_from}
use Rattle.readers.specs.Readers.{traffic_values}
use Rattle.earlier.specs.Keys.{TrafficIndex}
use Rattle.faults.proofs.laws.FaultLaws.{traffic-bits}
use Rattle.steps.specs.Steps.{with_traffic}
use Rattle.steps.proofs.laws.StepLaws.{refused-step, refused_keeps, record-there, traffic-room, traffic-taken, traffic_kept}
use Rattle.steps.proofs.step.after_traffic.Goals as goal

pub returns-in-Err : goal.returns-in-Err
returns-in-Err c =
    record {
      stepped = refused-step (words_of c.args.table.now) c.args.s traffic_layout (with_traffic c.args.s)
          c.in-Err.fault RecordKind.Traffic _ c.in-Err.ensures refl
          c.words_read-at.result c.words_read-at.ensures c.refusal.ensures;
      traffic_kept = refused_keeps (λ t. TrafficIndex _ (words_of c.args.table.now) (traffic_from t) t.traffic);
    }

pub traffic_at-t-requires : goal.traffic_at-t-requires
traffic_at-t-requires c =
    omega (
      arith,
      c.words_read-at.ensures,
      record-there c.args.table.now c.args.s traffic_layout (omega arith)
          c.in_default.ensures,
    )

pub traffic_key-requires : goal.traffic_key-requires
traffic_key-requires c =
    traffic-bits (traffic_values c.traffic_at-t.result)
    (drop c.words_read-at.result (words_of c.args.table.now)) c.traffic_at-t.ensures

pub enter-requires : goal.enter-requires
enter-requires c =
    let traffic-index = c.requires.traffic_index in (
      traffic-index.indexed,
      traffic-room (words_of c.args.table.now) c.args.s
          c.in_default.ensures,
    )

pub returns : goal.returns
returns c =
    let traffic-index = c.requires.traffic_index in record {
      stepped = traffic-taken (words_of c.args.table.now) c.args.s
          c.in_default.ensures;
      traffic_kept = traffic_kept (words_of c.args.table.now) c.args.s traffic-index (traffic_values c.traffic_at-t.result)
          c.words_read-at.result c.traffic_key.result c.words_read-at.ensures
          c.traffic_at-t.ensures c.traffic_key.ensures c.enter.ensures;
    }
