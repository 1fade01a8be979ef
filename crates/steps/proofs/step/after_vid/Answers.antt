-- `steps::step::after_vid` refuses the record by its lowest fault, or takes it. Assumes nothing.
use mathlib.Core.Path.{refl}
use Rattle.rule.specs.declared.answer.RecordKind.{RecordKind}
use Rattle.rule.specs.Words.{words_of}
use Rattle.rule.specs.Records.{vid_layout}
use Rattle.steps.specs.Steps.{with_vid}
use Rattle.steps.proofs.laws.StepLaws.{refused-step, vid-taken}
use Rattle.steps.proofs.step.after_vid.Goals as goal

pub returns-in-Err : goal.returns-in-Err
returns-in-Err c =
    refused-step (words_of c.args.table.now) c.args.s vid_layout (with_vid c.args.s)
    c.in-Err.fault RecordKind.Vid _ c.in-Err.ensures refl
    c.words_read.result c.words_read.ensures c.refusal.ensures

pub returns : goal.returns
returns c =
    vid-taken (words_of c.args.table.now) c.args.s
    c.in_default.ensures
