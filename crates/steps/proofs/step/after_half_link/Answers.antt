-- `steps::step::after_half_link` refuses the record by its lowest fault, or takes it and enters its keys. Assumes nothing.
use native.Mathlib.Omega.{arith}
use mathlib.Core.Path.{refl}
use lib.ListN.{drop}
use Rattle.rule.specs.declared.answer.RecordKind.{RecordKind}
use Rattle.rule.specs.Words.{words_of}
use Rattle.rule.specs.Records.{half_link_layout}
use Rattle.readers.specs.Readers.{half_link_values}
use Rattle.faults.proofs.laws.FaultLaws.{of_16_bits}
use Rattle.steps.specs.Steps.{with_half_link, HalfLinkIndexes}
use Rattle.steps.proofs.laws.StepLaws.{refused-step, refused_keeps, record-there, half_link-room, half_link-taken, half_links_kept}
use Rattle.steps.proofs.step.after_half_link.Goals as goal

pub returns-in-Err : goal.returns-in-Err
returns-in-Err c =
    record {
      stepped = refused-step (words_of c.args.table.now) c.args.s half_link_layout (with_half_link c.args.s)
          c.in-Err.fault RecordKind.HalfLink _ c.in-Err.ensures refl c.words_read-at.result c.words_read-at.ensures c.refusal.ensures;
      half_links_kept = refused_keeps (λ t. HalfLinkIndexes _ _ (words_of c.args.table.now) t);
    }

pub half_link_at-h-requires : goal.half_link_at-h-requires
half_link_at-h-requires c =
    omega (
      arith,
      c.words_read-at.ensures,
      record-there c.args.table.now c.args.s half_link_layout (omega arith)
          c.in_default.ensures,
    )

pub port_key-requires : goal.port_key-requires
port_key-requires c =
    of_16_bits (half_link_values c.half_link_at-h.result)
    (drop c.words_read-at.result (words_of c.args.table.now)) c.half_link_at-h.ensures

pub enter-requires : goal.enter-requires
enter-requires c =
    let half-link-indexes = c.requires.half_link_indexes in (
      half-link-indexes.by_port.indexed,
      half_link-room (words_of c.args.table.now) c.args.s
          c.in_default.ensures,
    )

pub enter-requires-2 : goal.enter-requires-2
enter-requires-2 c =
    let half-link-indexes = c.requires.half_link_indexes in (
      half-link-indexes.by_number.indexed,
      half_link-room (words_of c.args.table.now) c.args.s
          c.in_default.ensures,
    )

pub returns : goal.returns
returns c =
    let half-link-indexes = c.requires.half_link_indexes in record {
      stepped = half_link-taken (words_of c.args.table.now) c.args.s
          c.in_default.ensures;
      half_links_kept = half_links_kept (words_of c.args.table.now) c.args.s half-link-indexes
          (half_link_values c.half_link_at-h.result) c.words_read-at.result c.port_key.result
          c.words_read-at.ensures c.half_link_at-h.ensures
          c.in_default.ensures c.port_key.ensures
          c.enter.ensures c.enter-2.ensures;
    }
