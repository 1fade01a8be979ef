-- `probe_services::line::write_written_answer` writes how many there are, or the refusal. Assumes nothing.
use mathlib.Core.Path.{sym, ap}
use Rattle.rule.specs.declared.answer.WriteServicesAnswer.{WriteServicesAnswer}
use Rattle.rule.specs.Answers.{write_services_values}
use Rattle.text.proofs.laws.TextLaws.{written_as}
use Rattle.probe_services.specs.ServiceText.{written_word, answer_text}
use Rattle.probe_services.proofs.line.write_written_answer.Goals as goal

pub returns-in-Written : goal.returns-in-Written
returns-in-Written c =
    let (written, write-given-bound) = c.write_given.ensures in (
      written_as written _
          (sym (ap (λ (a : WriteServicesAnswer). answer_text written_word (write_services_values a)) c.in-Written.is)),
      write-given-bound,
    )

pub returns-in-Refused : goal.returns-in-Refused
returns-in-Refused c =
    let (written, write-refusal-bound) = c.write_refusal.ensures in (
      written_as written _
          (sym (ap (λ (a : WriteServicesAnswer). answer_text written_word (write_services_values a)) c.in-Refused.is)),
      write-refusal-bound,
    )
