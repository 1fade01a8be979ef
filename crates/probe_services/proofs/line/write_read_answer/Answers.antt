-- `probe_services::line::write_read_answer` writes how many there are, or the refusal. Assumes nothing.
use mathlib.Core.Path.{sym, ap}
use Rattle.rule.specs.declared.answer.ReadServicesAnswer.{ReadServicesAnswer}
use Rattle.rule.specs.Answers.{read_services_values}
use Rattle.text.proofs.laws.TextLaws.{written_as}
use Rattle.probe_services.specs.ServiceText.{read_word, answer_text}
use Rattle.probe_services.proofs.line.write_read_answer.Goals as goal

pub returns-in-Read : goal.returns-in-Read
returns-in-Read c =
    let (written, write-given-bound) = c.write_given.ensures in (
      written_as written _ (sym (ap (λ (a : ReadServicesAnswer). answer_text read_word (read_services_values a)) c.in-Read.is)),
      write-given-bound,
    )

pub returns-in-Refused : goal.returns-in-Refused
returns-in-Refused c =
    let (written, write-refusal-bound) = c.write_refusal.ensures in (
      written_as written _
          (sym (ap (λ (a : ReadServicesAnswer). answer_text read_word (read_services_values a)) c.in-Refused.is)),
      write-refusal-bound,
    )
