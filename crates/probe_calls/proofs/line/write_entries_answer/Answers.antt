-- `probe_calls::line::write_entries_answer` writes the number of words, or the refusal. Assumes nothing.
use mathlib.Core.Path.{sym, ap}
use Rattle.rule.specs.declared.answer.EntriesAnswer.{EntriesAnswer}
use Rattle.rule.specs.Answers.{entries_values}
use Rattle.text.proofs.laws.TextLaws.{written_as}
use Rattle.probe_calls.specs.AnswerText.{entries_answer_text}
use Rattle.probe_calls.proofs.line.write_entries_answer.Goals as goal

pub returns-in-Written : goal.returns-in-Written
returns-in-Written c =
    let (written, write-given-entries-bound) = c.write_given_entries.ensures in (
      written_as written _ (sym (ap (λ (a : EntriesAnswer). entries_answer_text (entries_values a)) c.in-Written.is)),
      write-given-entries-bound,
    )

pub returns-in-Refused : goal.returns-in-Refused
returns-in-Refused c =
    let (written, write-refusal-bound) = c.write_refusal.ensures in (
      written_as written _ (sym (ap (λ (a : EntriesAnswer). entries_answer_text (entries_values a)) c.in-Refused.is)),
      write-refusal-bound,
    )
