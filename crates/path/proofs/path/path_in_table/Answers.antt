-- `path::path::path_in_table` answers by the tree that the call names. Assumes nothing.
use Rattle.rule.specs.Refusals.{refused_by}
use native.Mathlib.Omega.{arith}
use mathlib.Core.Path.{ap, ◌∙◌}
use Rattle.rule.specs.Words.{words_of}
use Rattle.rule.specs.Outcome.{lent_to}
use Rattle.table.specs.Positions.{plan_at}
use Rattle.path.proofs.laws.PlanCalls.{nothing-named, named-followable, named-path}
use Rattle.path.proofs.path.path_in_table.Goals as goal

pub returns-then-index-eq0 : goal.returns-then-index-eq0
returns-then-index-eq0 c =
    let (checked, _) = c.requires in
    nothing-named (plan_at (words_of c.args.table.now) c.args.s) checked.laws c.args.vid
    c.args.from c.args.to c.named_tree-index.ensures _ (c.from.ensures ∙ ap refused_by c.of_call.ensures) c.args.list.now
    c.if-index-eq0.true

pub labelled_path-requires : goal.labelled_path-requires
labelled_path-requires c =
    let (checked, _) = c.requires in (
      omega arith,
      named-followable (plan_at (words_of c.args.table.now) c.args.s) checked.laws c.args.vid
          c.args.from c.args.to c.named_tree-index.ensures c.if-index-eq0.false,
    )

pub returns : goal.returns
returns c =
    let (checked, _) = c.requires in
    c.labelled_path.ensures
    ∙ ap (lent_to c.args.list.now)
    (named-path (plan_at (words_of c.args.table.now) c.args.s) checked.laws c.args.vid
    c.args.from c.args.to c.named_tree-index.ensures c.if-index-eq0.false)
