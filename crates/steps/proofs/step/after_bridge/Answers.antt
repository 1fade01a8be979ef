-- `steps::step::after_bridge` refuses the record by its lowest fault, or takes it and enters its keys. Assumes nothing.
use native.Mathlib.Omega.{arith}
use mathlib.Core.Path.{refl}
use Rattle.rule.specs.declared.answer.RecordKind.{RecordKind}
use Rattle.rule.specs.Words.{words_of}
use Rattle.rule.specs.Records.{bridge_layout}
use Rattle.readers.specs.Readers.{bridge_values}
use Rattle.earlier.specs.Keys.{BridgeIndexes}
use Rattle.steps.specs.Steps.{with_bridge}
use Rattle.steps.proofs.laws.StepLaws.{refused-step, refused_keeps, record-there, bridge-room, bridge-taken, bridges-kept}
use Rattle.steps.proofs.step.after_bridge.Goals as goal

pub returns-in-Err : goal.returns-in-Err
returns-in-Err c =
    record {
      stepped = refused-step (words_of c.args.table.now) c.args.s bridge_layout (with_bridge c.args.s)
          c.in-Err.fault RecordKind.Bridge _ c.in-Err.ensures refl
          c.words_read-at.result c.words_read-at.ensures c.refusal.ensures;
      bridges_kept = refused_keeps (λ t. BridgeIndexes _ _ (words_of c.args.table.now) t.bridges);
    }

pub bridge_at-b-requires : goal.bridge_at-b-requires
bridge_at-b-requires c =
    omega (
      arith,
      c.words_read-at.ensures,
      record-there c.args.table.now c.args.s bridge_layout (omega arith)
          c.in_default.ensures,
    )

pub enter-requires : goal.enter-requires
enter-requires c =
    let bridge-indexes = c.requires.bridge_indexes in (
      bridge-indexes.by_source.indexed,
      bridge-room (words_of c.args.table.now) c.args.s
          c.in_default.ensures,
    )

pub enter-requires-2 : goal.enter-requires-2
enter-requires-2 c =
    let bridge-indexes = c.requires.bridge_indexes in (
      bridge-indexes.by_address.indexed,
      bridge-room (words_of c.args.table.now) c.args.s
          c.in_default.ensures,
    )

pub returns : goal.returns
returns c =
    let bridge-indexes = c.requires.bridge_indexes in record {
      stepped = bridge-taken (words_of c.args.table.now) c.args.s
          c.in_default.ensures;
      bridges_kept = bridges-kept (words_of c.args.table.now) c.args.s bridge-indexes
          (bridge_values c.bridge_at-b.result) c.words_read-at.result c.address_key.result
          c.words_read-at.ensures c.bridge_at-b.ensures
          c.in_default.ensures c.address_key.ensures
          c.enter.ensures c.enter-2.ensures;
    }
