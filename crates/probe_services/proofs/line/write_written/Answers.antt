-- `probe_services::line::write_written` writes the answer, the list's later contents and the newline. Assumes nothing.
use native.Mathlib.Omega.{arith}
use Prim.Native.Nat.{ℕ}
use mathlib.Core.Path.{ap}
use mathlib.Core.List.{List}
use Rattle.rule.specs.Outcome.{Outcome}
use Rattle.text.proofs.laws.TextLaws.{written_as}
use Rattle.probe_input.proofs.laws.LineLaws.{list_line}
use Rattle.probe_services.specs.ServiceText.{written_word, line_text}
use Rattle.probe_services.proofs.line.write_written.Goals as goal

pub returns : goal.returns
returns c =
    let (written, end-inside) =
    list_line c.write_written_answer-after_answer.ensures _ c.write_byte_fields-after_list.ensures
    c.write_byte.ensures (omega (arith, c.requires, c.write_services-answer.auto)) in (
      written_as written _ (ap (λ (o : Outcome ℕ × List ℕ). line_text written_word o) c.write_services-answer.ensures),
      end-inside,
    )
