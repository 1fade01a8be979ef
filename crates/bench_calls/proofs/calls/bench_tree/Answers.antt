-- `bench_calls::calls::bench_tree` gives how many bridges the tree call answers for, or its refusal number. Assumes nothing.
use mathlib.Core.Path.{sym, ap}
use Rattle.rule.specs.declared.answer.TreeAnswer.{TreeAnswer}
use Rattle.rule.specs.Answers.{tree_values}
use Rattle.bench_calls.specs.BenchCalls.{number_or_refusal}
use Rattle.bench_calls.proofs.laws.BenchCallLaws.{tree-number}
use Rattle.bench_calls.proofs.calls.bench_tree.Goals as goal

pub returns-in-Given : goal.returns-in-Given
returns-in-Given c =
    tree-number c.args.table.now c.args.vid c.args.from c.tree-answer.result _ _ _
    c.tree-answer.ensures (sym (ap (λ (x : TreeAnswer). number_or_refusal (tree_values x)) c.in-Given.is))

pub returns-in-Refused : goal.returns-in-Refused
returns-in-Refused c =
    tree-number c.args.table.now c.args.vid c.args.from c.tree-answer.result _ _ _
    c.tree-answer.ensures (sym (ap (λ (x : TreeAnswer). number_or_refusal (tree_values x)) c.in-Refused.is))
