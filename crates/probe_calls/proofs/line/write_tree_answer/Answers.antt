-- `probe_calls::line::write_tree_answer` writes the number of bridges, or the refusal. Assumes nothing.
use mathlib.Core.Path.{sym, ap}
use Rattle.rule.specs.declared.answer.TreeAnswer.{TreeAnswer}
use Rattle.rule.specs.Answers.{tree_values}
use Rattle.text.proofs.laws.TextLaws.{written_as}
use Rattle.probe_calls.specs.AnswerText.{tree_answer_text}
use Rattle.probe_calls.proofs.line.write_tree_answer.Goals as goal

pub returns-in-Given : goal.returns-in-Given
returns-in-Given c =
    let (written, write-given-tree-bound) = c.write_given_tree.ensures in (
      written_as written _ (sym (ap (λ (a : TreeAnswer). tree_answer_text (tree_values a)) c.in-Given.is)),
      write-given-tree-bound,
    )

pub returns-in-Refused : goal.returns-in-Refused
returns-in-Refused c =
    let (written, write-refusal-bound) = c.write_refusal.ensures in (
      written_as written _ (sym (ap (λ (a : TreeAnswer). tree_answer_text (tree_values a)) c.in-Refused.is)),
      write-refusal-bound,
    )
