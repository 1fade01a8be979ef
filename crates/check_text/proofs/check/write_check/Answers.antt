-- `check_text::check::write_check` writes the line of each answer. Assumes nothing.
use mathlib.Core.Path.{sym, ap}
use Rattle.rule.specs.declared.answer.CheckAnswer.{CheckAnswer}
use Rattle.rule.specs.Answers.{check_values}
use Rattle.text.proofs.laws.TextLaws.{written_as}
use Rattle.check_text.specs.CheckText.{check_text}
use Rattle.check_text.proofs.check.write_check.Goals as goal

pub returns-in-Accepted : goal.returns-in-Accepted
returns-in-Accepted c =
    let (written, write-counts-bound) = c.write_counts.ensures in
    (written_as written _ (sym (ap (λ (a : CheckAnswer). check_text (check_values a)) c.in-Accepted.is)), write-counts-bound)

pub returns-in-Refused : goal.returns-in-Refused
returns-in-Refused c =
    let (written, write-refused-bound) = c.write_refused.ensures in
    (written_as written _ (sym (ap (λ (a : CheckAnswer). check_text (check_values a)) c.in-Refused.is)), write-refused-bound)
