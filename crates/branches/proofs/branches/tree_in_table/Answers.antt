-- `branches::branches::tree_in_table` answers by the tree that the call names. Assumes nothing.
use Rattle.rule.specs.Refusals.{refused_by}
use native.Mathlib.Omega.{arith}
use mathlib.Core.Path.{sym, ap, ◌∙◌}
use Rattle.rule.specs.Words.{words_of}
use Rattle.rule.specs.Calls.{lent_to_three}
use Rattle.table.specs.Positions.{plan_at}
use Rattle.verdict.proofs.laws.CheckedLaws.{bridges-counted, few-bridges}
use Rattle.branches.proofs.laws.BranchCalls.{no_branches_named, named_branches}
use Rattle.branches.proofs.branches.tree_in_table.Goals as goal

pub returns-then-index-eq0 : goal.returns-then-index-eq0
returns-then-index-eq0 c =
    let (checked, _) = c.requires in
    no_branches_named (plan_at (words_of c.args.table.now) c.args.s) checked.laws c.args.vid
    c.args.from c.named_tree-index.ensures _ (c.from.ensures ∙ ap refused_by c.of_call.ensures) c.args.costs.now
    c.args.hops.now c.args.lasts.now c.if-index-eq0.true

pub labelled_branches-requires : goal.labelled_branches-requires
labelled_branches-requires c =
    let (checked, _) = c.requires in
    (omega arith, few-bridges checked)

pub returns : goal.returns
returns c =
    let (checked, _) = c.requires in
    c.labelled_branches.ensures
    ∙ ap (lent_to_three c.args.costs.now c.args.hops.now c.args.lasts.now)
    (named_branches (plan_at (words_of c.args.table.now) c.args.s) checked.laws c.args.vid
    c.args.from c.named_tree-index.ensures _ (sym (bridges-counted checked)) c.if-index-eq0.false)
