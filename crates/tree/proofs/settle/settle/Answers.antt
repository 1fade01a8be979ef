-- `tree::settle::settle` writes the row, the first hop, and that the bridge waits no more. Assumes nothing.
use native.Mathlib.Omega.{arith}
use lib.ListN.{length-set}
use Rattle.tree.proofs.laws.SettlingLaws.{read-insertable, row_settled, first-settled}
use Rattle.tree.proofs.settle.settle.Goals as goal

pub insert_row-requires : goal.insert_row-requires
insert_row-requires c =
    read-insertable c.args.labels.now _ _ c.next_at-next.ensures c.hops_at.ensures
    c.count.ensures c.requires.insertable

pub bounds-labels-u-2 : goal.bounds-labels-u-2
bounds-labels-u-2 c = simp length-set (omega (arith, c.requires.has_labels, c.requires.u_in))

pub returns : goal.returns
returns c = (
  first-settled c.args.labels.now c.args.root c.args.u c.next_at-next.ensures
      c.first_hop.ensures,
  row_settled c.args.labels.now _ _ c.next_at-next.ensures c.hops_at.ensures c.count.ensures
      _ c.insert_row.ensures,
)
