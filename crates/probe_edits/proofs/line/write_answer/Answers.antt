-- `probe_edits::line::write_answer` writes the word, or the refusal. Assumes nothing.
use native.Mathlib.Omega.{arith}
use mathlib.Core.Path.{sym, ap}
use Rattle.edits.specs.declared.change.RunningAnswer.{RunningAnswer}
use Rattle.edits.specs.Running.{running_values}
use Rattle.text.proofs.laws.TextLaws.{written_as}
use Rattle.probe_edits.specs.EditText.{answer_text}
use Rattle.probe_edits.proofs.line.write_answer.Goals as goal

pub returns-in-Kept : goal.returns-in-Kept
returns-in-Kept c = (
  written_as c.write_word.ensures _
      (sym (ap (λ (a : RunningAnswer). answer_text c.args.word.now (running_values a)) c.in-Kept.is)),
  omega (arith, c.write_word.ensures.end_is, c.requires),
)

pub returns-in-Refused : goal.returns-in-Refused
returns-in-Refused c =
    let (written, bound) = c.write_refusal.ensures in (
      written_as written _
          (sym (ap (λ (a : RunningAnswer). answer_text c.args.word.now (running_values a)) c.in-Refused.is)),
      bound,
    )
