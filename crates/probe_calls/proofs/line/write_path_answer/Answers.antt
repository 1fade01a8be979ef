-- `probe_calls::line::write_path_answer` writes cost and hops, or the refusal. Assumes nothing.
use mathlib.Core.Path.{sym, ap}
use Rattle.rule.specs.declared.answer.PathAnswer.{PathAnswer}
use Rattle.rule.specs.Answers.{path_values}
use Rattle.text.proofs.laws.TextLaws.{written_as}
use Rattle.probe_calls.specs.AnswerText.{path_answer_text}
use Rattle.probe_calls.proofs.line.write_path_answer.Goals as goal

pub returns-in-Given : goal.returns-in-Given
returns-in-Given c =
    let (written, write-given-path-bound) = c.write_given_path.ensures in (
      written_as written _ (sym (ap (λ (a : PathAnswer). path_answer_text (path_values a)) c.in-Given.is)),
      write-given-path-bound,
    )

pub returns-in-Refused : goal.returns-in-Refused
returns-in-Refused c =
    let (written, write-refusal-bound) = c.write_refusal.ensures in (
      written_as written _ (sym (ap (λ (a : PathAnswer). path_answer_text (path_values a)) c.in-Refused.is)),
      write-refusal-bound,
    )
