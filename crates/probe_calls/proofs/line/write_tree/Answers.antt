-- `probe_calls::line::write_tree` writes the answer, the later contents of the three lists and the newline. Assumes nothing.
use mathlib.Core.Path.{ap}
use mathlib.Core.List.{List}
use Prim.Native.Nat.{ℕ}
use Rattle.rule.specs.Outcome.{Outcome}
use Rattle.text.proofs.laws.TextLaws.{written_as}
use Rattle.probe_calls.specs.AnswerText.{tree_text}
use Rattle.probe_calls.proofs.laws.LineLaws.{three-lists-line}
use native.Mathlib.Omega.{arith}
use Rattle.probe_calls.proofs.line.write_tree.Goals as goal

pub returns : goal.returns
returns c =
    let (written, end-inside) =
    three-lists-line c.write_tree_answer-after_answer.ensures _ _ _ c.write_fields-after_costs.ensures
    c.write_fields-after_hops.ensures c.write_fields-after_lasts.ensures c.write_byte.ensures
    (omega (arith, c.requires, c.tree-answer.auto)) in
    (written_as written _ (ap (λ (o : Outcome ℕ × List ℕ × List ℕ × List ℕ). tree_text o) c.tree-answer.ensures), end-inside)
