-- `path::path::path_cost_in_table` gives the number of the tree that the call names. Assumes nothing.
use native.Mathlib.Omega.{arith}
use mathlib.Core.Path.{◌∙◌}
use Rattle.rule.specs.Words.{words_of}
use Rattle.table.specs.Positions.{plan_at}
use Rattle.measures.proofs.laws.MeasureLaws.{no_path, a_path}
use Rattle.path.proofs.laws.PlanCalls.{nothing-named-number, no_path-number, path-number, named-followable}
use Rattle.path.proofs.path.path_cost_in_table.Goals as goal

pub returns-then-index-eq0 : goal.returns-then-index-eq0
returns-then-index-eq0 c =
    let (checked, _) = c.requires in
    nothing-named-number (plan_at (words_of c.args.table.now) c.args.s) checked.laws c.args.vid
    c.args.from c.args.to c.named_tree-index.ensures c.if-index-eq0.true

pub cost_at-cost-requires : goal.cost_at-cost-requires
cost_at-cost-requires c =
    let (checked, _) = c.requires in
    let walk =
    named-followable (plan_at (words_of c.args.table.now) c.args.s) checked.laws c.args.vid
    c.args.from c.args.to c.named_tree-index.ensures c.if-index-eq0.false in
    omega (arith, walk.place)

pub returns-then-is_no_path : goal.returns-then-is_no_path
returns-then-is_no_path c =
    let (checked, _) = c.requires in
    no_path-number (plan_at (words_of c.args.table.now) c.args.s) checked.laws c.args.vid
    c.args.from c.args.to c.named_tree-index.ensures c.if-index-eq0.false
    (no_path c.cost_at-cost.ensures c.is_no_path.ensures c.if-is_no_path.true)

pub returns : goal.returns
returns c =
    let (checked, _) = c.requires in
    c.exported.ensures
    ∙ c.cost_at-cost.ensures
    ∙ path-number (plan_at (words_of c.args.table.now) c.args.s) checked.laws c.args.vid
    c.args.from c.args.to c.named_tree-index.ensures c.if-index-eq0.false
    (a_path c.cost_at-cost.ensures c.is_no_path.ensures c.if-is_no_path.false)
