-- `probe_calls::line::write_path` writes the answer, the list's later contents and the newline. Assumes nothing.
use mathlib.Core.Path.{ap}
use mathlib.Core.List.{List}
use Prim.Native.Nat.{ℕ}
use Rattle.rule.specs.Outcome.{Outcome}
use Rattle.rule.specs.Answers.{CostAndHops}
use Rattle.text.proofs.laws.TextLaws.{written_as}
use Rattle.probe_calls.specs.AnswerText.{path_text}
use Rattle.probe_input.proofs.laws.LineLaws.{list_line}
use native.Mathlib.Omega.{arith}
use Rattle.probe_calls.proofs.line.write_path.Goals as goal

pub returns : goal.returns
returns c =
    let (written, end-inside) =
    list_line c.write_path_answer-after_answer.ensures _ c.write_fields-after_list.ensures
    c.write_byte.ensures (omega (arith, c.requires, c.path-answer.auto)) in
    (written_as written _ (ap (λ (o : Outcome CostAndHops × List ℕ). path_text o) c.path-answer.ensures), end-inside)
