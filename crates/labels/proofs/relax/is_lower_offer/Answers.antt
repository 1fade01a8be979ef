-- `labels::relax::is_lower_offer` compares the costs, then the hops, then the rows of the two next hops. Assumes nothing.
use native.Mathlib.Omega.{arith}
use mathlib.Core.Path.{◌∙◌}
use Rattle.measures.proofs.laws.MeasureLaws.{differ, agree}
use Rattle.labels.specs.Labels.{label_at}
use Rattle.labels.proofs.laws.RelaxingLaws.{lower_by_cost, lower_by_hops, lower_by_rows}
use Rattle.labels.proofs.relax.is_lower_offer.Goals as goal

pub returns-then-differs : goal.returns-then-differs
returns-then-differs c =
    lower_by_cost c.args.path_ids.now c.args.via c.args.cost.0 c.args.hops.0
    (label_at c.args.labels.now c.args.v) c.cost_at-old_cost.ensures c.is_below.ensures
    (differ c.differs.ensures c.if-differs.true)

pub returns-then-differs-2 : goal.returns-then-differs-2
returns-then-differs-2 c =
    lower_by_hops c.args.path_ids.now c.args.via c.args.cost.0 c.args.hops.0
    (label_at c.args.labels.now c.args.v) c.cost_at-old_cost.ensures c.hops_at-old_hops.ensures
    (agree c.differs.ensures c.if-differs.false) c.is_below-then-differs-2.ensures
    (differ c.differs-2.ensures c.if-differs-2.true)

pub is_lower_row-requires : goal.is_lower_row-requires
is_lower_row-requires c =
    let next-in = c.requires.next_in (agree c.differs.ensures c.if-differs.false ∙ c.cost_at-old_cost.ensures) in
    (omega (arith, c.requires), omega (arith, c.requires), omega (arith, c.requires, next-in))

pub returns : goal.returns
returns c =
    lower_by_rows c.args.path_ids.now c.args.via c.args.cost.0 c.args.hops.0
    (label_at c.args.labels.now c.args.v) c.cost_at-old_cost.ensures c.hops_at-old_hops.ensures
    (agree c.differs.ensures c.if-differs.false) c.next_at.ensures c.count.ensures
    (agree c.differs-2.ensures c.if-differs-2.false) c.is_lower_row.ensures
