-- `loads::along::add_labelled` adds along the path of the labels, or to lost. Assumes nothing.
use native.Mathlib.Omega.{arith}
use mathlib.Core.Path.{◌∙◌}
use Rattle.measures.proofs.laws.MeasureLaws.{no_path, a_path}
use Rattle.loads.proofs.laws.AlongLaws.{no_path-lost, hops-once, few-carried, path_added}
use Rattle.loads.proofs.along.add_labelled.Goals as goal

pub returns-then-is_no_path : goal.returns-then-is_no_path
returns-then-is_no_path c =
    no_path-lost c.args.labels.now _ _ (no_path c.cost_at-cost.ensures c.is_no_path.ensures c.if-is_no_path.true)
    c.args.loads.now

pub add_along-requires : goal.add_along-requires
add_along-requires c =
    let (labels-room, passable, _) = c.requires.in_bounds in
    let (loads-room, room) = c.requires.in_bounds_2 in
    let found = a_path c.cost_at-cost.ensures c.is_no_path.ensures c.if-is_no_path.false in record {
      in_bounds = (
        labels-room,
        hops-once c.args.labels.now _ c.args.amount found passable
            (c.count-hops.ensures ∙ c.hops_at.ensures),
      );
      in_bounds_2 = (loads-room, room);
    }

pub overflow_mul-result : goal.overflow_mul-result
overflow_mul-result c =
    let (_, passable, amount-bound) = c.requires.in_bounds in
    let found = a_path c.cost_at-cost.ensures c.is_no_path.ensures c.if-is_no_path.false in
    omega (
      arith,
      few-carried c.args.labels.now _ _ found passable (c.count-hops.ensures ∙ c.hops_at.ensures) amount-bound,
    )

pub returns : goal.returns
returns c =
    let (_, passable, amount-bound) = c.requires.in_bounds in
    let found = a_path c.cost_at-cost.ensures c.is_no_path.ensures c.if-is_no_path.false in
    path_added c.args.labels.now _ _ found passable (c.count-hops.ensures ∙ c.hops_at.ensures) amount-bound
    c.add_along.ensures
