-- `steps::step::after_member` refuses the record by its lowest fault, or takes it and enters its key. Assumes nothing.
use native.Mathlib.Omega.{arith}
use mathlib.Core.Path.{refl}
use lib.ListN.{drop}
use Rattle.rule.specs.declared.answer.RecordKind.{RecordKind}
use Rattle.rule.specs.Words.{words_of}
use Rattle.rule.specs.Records.{member_layout}
use Rattle.table.specs.Positions.{members_from}
use Rattle.readers.specs.Readers.{member_values}
use Rattle.earlier.specs.Keys.{MemberIndex}
use Rattle.faults.proofs.laws.FaultLaws.{member-bits}
use Rattle.steps.specs.Steps.{with_member}
use Rattle.steps.proofs.laws.StepLaws.{refused-step, refused_keeps, record-there, member-room, member-taken, members_kept}
use Rattle.steps.proofs.step.after_member.Goals as goal

pub returns-in-Err : goal.returns-in-Err
returns-in-Err c =
    record {
      stepped = refused-step (words_of c.args.table.now) c.args.s member_layout (with_member c.args.s)
          c.in-Err.fault RecordKind.Member _ c.in-Err.ensures refl
          c.words_read-at.result c.words_read-at.ensures c.refusal.ensures;
      members_kept = refused_keeps (λ t. MemberIndex _ (words_of c.args.table.now) (members_from t) t.members);
    }

pub member_at-m-requires : goal.member_at-m-requires
member_at-m-requires c =
    omega (
      arith,
      c.words_read-at.ensures,
      record-there c.args.table.now c.args.s member_layout (omega arith)
          c.in_default.ensures,
    )

pub member_key-requires : goal.member_key-requires
member_key-requires c =
    member-bits (member_values c.member_at-m.result)
    (drop c.words_read-at.result (words_of c.args.table.now)) c.member_at-m.ensures

pub enter-requires : goal.enter-requires
enter-requires c =
    let member-index = c.requires.member_index in (
      member-index.indexed,
      member-room (words_of c.args.table.now) c.args.s
          c.in_default.ensures,
    )

pub returns : goal.returns
returns c =
    let member-index = c.requires.member_index in
    let no-fault = c.in_default.ensures in record {
      stepped = member-taken (words_of c.args.table.now) c.args.s no-fault;
      members_kept = members_kept (words_of c.args.table.now) c.args.s member-index (member_values c.member_at-m.result)
          c.words_read-at.result c.member_key.result c.words_read-at.ensures
          c.member_at-m.ensures no-fault c.member_key.ensures c.enter.ensures;
    }
