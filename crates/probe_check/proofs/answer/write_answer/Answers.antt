-- `probe_check::answer::write_answer` writes the line of the check's answer. Assumes nothing.
use mathlib.Core.Path.{ap}
use Rattle.rule.specs.Outcome.{Outcome}
use Rattle.rule.specs.declared.answer.Counts.{Counts}
use Rattle.text.proofs.laws.TextLaws.{written_as}
use Rattle.check_text.specs.CheckText.{check_text}
use Rattle.probe_check.proofs.answer.write_answer.Goals as goal

pub returns : goal.returns
returns c =
    let (written, write-check-bound) = c.write_check.ensures in
    (written_as written _ (ap (λ (o : Outcome Counts). check_text o) c.check.ensures), write-check-bound)
