-- `branches::branches::labelled_branches` writes the places where the lists have room for them. Assumes nothing.
use Rattle.rule.specs.Refusals.{refused_by}
use mathlib.Core.Path.{ap, ◌∙◌}
use Rattle.branches.proofs.laws.BranchLaws.{short-costs, short-hops, short_lasts, branches_written}
use Rattle.branches.proofs.branches.labelled_branches.Goals as goal

pub returns-then-costs-n : goal.returns-then-costs-n
returns-then-costs-n c =
    short-costs c.args.labels.now c.args.n c.args.costs.now c.args.hops.now
    c.args.lasts.now _ (c.from.ensures ∙ ap refused_by c.of_call.ensures) c.if-costs-n.true

pub returns-then-hops-n : goal.returns-then-hops-n
returns-then-hops-n c =
    short-hops c.args.labels.now c.args.n c.args.costs.now c.args.hops.now
    c.args.lasts.now _ (c.from-then-hops-n.ensures ∙ ap refused_by c.of_call-then-hops-n.ensures) c.if-costs-n.false c.if-hops-n.true

pub returns-then-lasts-n : goal.returns-then-lasts-n
returns-then-lasts-n c =
    short_lasts c.args.labels.now c.args.n c.args.costs.now c.args.hops.now
    c.args.lasts.now _ (c.from-then-lasts-n.ensures ∙ ap refused_by c.of_call-then-lasts-n.ensures) c.if-costs-n.false c.if-hops-n.false c.if-lasts-n.true

pub returns : goal.returns
returns c =
    branches_written c.args.labels.now c.args.n c.args.costs.now c.args.hops.now
    c.args.lasts.now _ _ _ c.if-costs-n.false c.if-hops-n.false c.if-lasts-n.false
    c.write_branches.ensures
