-- `path::path::labelled_path` answers by a label. Assumes nothing.
use Rattle.rule.specs.Refusals.{refused_by}
use mathlib.Core.Path.{ap, ◌∙◌}
use native.Mathlib.Omega.{arith}
use Rattle.measures.proofs.laws.MeasureLaws.{no_path, a_path}
use Rattle.path.proofs.laws.LabelledLaws.{no_path-labelled, bridges-inside, list_too_short, path-written}
use Rattle.path.proofs.path.labelled_path.Goals as goal

pub returns-then-is_no_path : goal.returns-then-is_no_path
returns-then-is_no_path c =
    no_path-labelled c.args.labels.now c.args.from c.args.list.now _ (c.from.ensures ∙ ap refused_by c.of_call.ensures)
    (no_path c.cost_at-cost.ensures c.is_no_path.ensures c.if-is_no_path.true)

pub returns-then-list-count : goal.returns-then-list-count
returns-then-list-count c =
    list_too_short c.args.labels.now c.args.from c.args.list.now
    (a_path c.cost_at-cost.ensures c.is_no_path.ensures c.if-is_no_path.false) c.hops_at-hops.ensures
    c.bridges-count.ensures _ (c.from-then-list-count.ensures ∙ ap refused_by c.of_call-then-list-count.ensures) (omega (arith, c.bridges-count.ensures, c.if-list-count.true))

pub write_path-requires : goal.write_path-requires
write_path-requires c =
    let (labels-room, followable) = c.requires in
    let found = a_path c.cost_at-cost.ensures c.is_no_path.ensures c.if-is_no_path.false in (
      labels-room,
      bridges-inside c.args.labels.now c.args.from c.args.list.now found c.hops_at-hops.ensures
          c.bridges-count.ensures followable,
      omega (arith, c.if-list-count.false),
    )

pub returns : goal.returns
returns c =
    path-written c.args.labels.now c.args.from c.args.list.now
    (a_path c.cost_at-cost.ensures c.is_no_path.ensures c.if-is_no_path.false) c.hops_at-hops.ensures
    c.bridges-count.ensures c.cost_at-cost.ensures _ c.if-list-count.false c.write_path.ensures
