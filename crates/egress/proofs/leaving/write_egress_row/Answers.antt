-- `egress::leaving::write_egress_row` lends the part of the rows that the row is written to. Assumes nothing.
use native.Mathlib.Omega.{arith}
use lib.ListN.{length-take, length-drop}
use Rattle.egress.proofs.laws.PassLaws.{row_written}
use Rattle.egress.proofs.leaving.write_egress_row.Goals as goal

pub fill_row-requires : goal.fill_row-requires
fill_row-requires c =
    let (labels-walkable, labels-room, hops-room, egress-rows-room) = c.requires in
    (labels-walkable, labels-room, hops-room, simp (length-take, length-drop) (omega (arith, egress-rows-room)))

pub returns : goal.returns
returns c =
    let args = c.args in
    row_written args.egress_rows.now args.labels.now args.hops.now args.b args.n args.at
    c.fill_row.ensures
