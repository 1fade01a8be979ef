-- `probe_calls::line::write_entries` writes the answer, the list's later contents and the newline. Assumes nothing.
use mathlib.Core.Path.{ap}
use mathlib.Core.List.{List}
use Prim.Native.Nat.{ℕ}
use Rattle.rule.specs.Outcome.{Outcome}
use Rattle.text.proofs.laws.TextLaws.{written_as}
use Rattle.probe_calls.specs.AnswerText.{entries_text}
use Rattle.probe_input.proofs.laws.LineLaws.{list_line}
use native.Mathlib.Omega.{arith}
use Rattle.probe_calls.proofs.line.write_entries.Goals as goal

pub returns : goal.returns
returns c =
    let (written, end-inside) =
    list_line c.write_entries_answer-after_answer.ensures _ c.write_fields-after_list.ensures
    c.write_byte.ensures (omega (arith, c.requires, c.entries-answer.auto)) in
    (written_as written _ (ap (λ (o : Outcome ℕ × List ℕ). entries_text o) c.entries-answer.ensures), end-inside)
