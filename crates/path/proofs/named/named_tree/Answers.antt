-- `path::named::named_tree` makes the tree of what a call names. Assumes nothing.
use native.Mathlib.Omega.{arith}
use mathlib.Core.Path.{sym, ◌∙◌}
use Rattle.rule.specs.Words.{words_of}
use Rattle.table.specs.Positions.{plan_at}
use Rattle.verdict.proofs.laws.CheckedLaws.{bridges-counted}
use Rattle.path.proofs.laws.NamedLaws.{no_tree, known-tree, no_from, no_root, both-known, named-fits}
use Rattle.path.proofs.named.named_tree.Goals as goal

pub returns-then-s-from : goal.returns-then-s-from
returns-then-s-from c =
    let (checked, _, _) = c.requires in
    no_tree _
    (no_from (plan_at (words_of c.args.table.now) c.args.s) c.args.vid c.args.from
    c.args.root (omega (arith, bridges-counted checked, c.if-s-from.true)))

pub returns-then-s-root : goal.returns-then-s-root
returns-then-s-root c =
    let (checked, _, _) = c.requires in
    no_tree _
    (no_root (plan_at (words_of c.args.table.now) c.args.s) c.args.vid c.args.from
    c.args.root (omega (arith, bridges-counted checked, c.if-s-root.true)))

pub returns-then-index-eq0 : goal.returns-then-index-eq0
returns-then-index-eq0 c =
    let (checked, _, _) = c.requires in
    no_tree _
    (sym c.if-index-eq0.true
    ∙ c.index_of-index.ensures
    ∙ both-known (plan_at (words_of c.args.table.now) c.args.s) c.args.vid c.args.from
    c.args.root (omega (arith, bridges-counted checked, c.if-s-from.false))
    (omega (arith, bridges-counted checked, c.if-s-root.false)))

pub tree_of_table-requires : goal.tree_of_table-requires
tree_of_table-requires c =
    let (checked, labels-room, link-index) = c.requires in (
      checked,
      (named-fits _ checked.laws c.args.vid _ c.index_of-index.ensures c.if-index-eq0.false).0,
      (named-fits _ checked.laws c.args.vid _ c.index_of-index.ensures c.if-index-eq0.false).1,
      omega (arith, c.if-s-root.false),
      labels-room,
      link-index,
    )

pub returns : goal.returns
returns c =
    let (checked, _, _) = c.requires in
    known-tree _ _ c.index_of-index.ensures (omega (arith, bridges-counted checked, c.if-s-from.false))
    (omega (arith, bridges-counted checked, c.if-s-root.false)) c.tree_of_table.ensures
