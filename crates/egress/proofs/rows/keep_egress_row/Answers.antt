-- `egress::rows::keep_egress_row` makes the row of the kept tree where none is kept. Assumes nothing.
use native.Mathlib.Omega.{arith}
use Prim.Native.Nat.{ℕ, ◌+◌}
use mathlib.Core.List.{List}
use lib.ListN.{length-set, length-take, length-drop}
use Rattle.trees.proofs.laws.StoreLaws.{lent-tree}
use Rattle.egress.specs.Rows.{EgressRowsKept, Kept, HasEgressRow}
use Rattle.egress.proofs.laws.LeavingLaws.{walkable_by}
use Rattle.egress.proofs.laws.RowLaws.{kept-all, row_made}
use Rattle.egress.proofs.rows.keep_egress_row.Goals as goal

pub returns-then-egress_rows-slot-ne0 : goal.returns-then-egress_rows-slot-ne0
returns-then-egress_rows-slot-ne0 c =
    let (_, _, _, trees-kept) = c.requires.network in
    let (_, _, _, _, egress-rows-kept) = c.requires.le_index in record {
      egress_rows_kept = egress-rows-kept;
      kept = (kept-all _, record { there = omega (arith, c.if-egress_rows-slot-ne0.true) }, omega arith);
      trees_kept = trees-kept;
    }

pub kept_tree-from-requires : goal.kept_tree-from-requires
kept_tree-from-requires c =
    let (is-network, _, path-ids-room, trees-kept) = c.requires.network in
    let (index-least, index-bound, a-bound, _, _) = c.requires.le_index in record {
      network = (is-network, index-least, index-bound, omega (arith, a-bound));
      in_bounds = (path-ids-room, trees-kept);
    }

pub overflow_add-from : goal.overflow_add-from
overflow_add-from c = omega (arith, c.kept_tree-from.ensures, c.store-1.given, c.well_formed)

pub offset_bounds-store-from : goal.offset_bounds-store-from
offset_bounds-store-from c = omega (arith, c.kept_tree-from.ensures, c.store-1.given, c.well_formed)

pub bridges-requires : goal.bridges-requires
bridges-requires c =
    let (is-network, _, _, _) = c.requires.network in
    is-network.network.size

pub write_egress_row-requires : goal.write_egress_row-requires
write_egress_row-requires c =
    let (is-network, hops-room, _, _) = c.requires.network in
    let (_, _, _, count-bound, egress-rows-kept) = c.requires.le_index in
    let (kept-tree-bound, tree-in) = c.kept_tree-from.ensures.result_in_bounds in
    let network = is-network.network in (
      walkable_by network _ _ ((lent-tree _ c.kept_tree-from.result tree-in).of_plan is-network.plan network) _
          c.bridges.ensures,
      simp (length-take, length-drop) (omega (arith, kept-tree-bound)),
      hops-room,
      simp length-set (omega (arith, egress-rows-kept.size, count-bound, c.bridges.ensures, network.represents.most)),
    )

pub overflow_add-result : goal.overflow_add-result
overflow_add-result c = omega (arith, c.requires)

pub shape_of-egress_rows : goal.shape_of-egress_rows
shape_of-egress_rows c =
    let rows-after : List ℕ =
    c.write_egress_row.new.egress_rows in
    let row_kept : let args = c.args in EgressRowsKept args.network.now args.hops.now args.b (args.count + 1) rows-after × Kept args.egress_rows.now rows-after × HasEgressRow rows-after args.index args.a =
    let (is-network, _, _, _) = c.requires.network in
    let (index-least, index-bound, a-bound, count-bound, egress-rows-kept) = c.requires.le_index in
    let (_, tree-in) = c.kept_tree-from.ensures.result_in_bounds in
    row_made egress-rows-kept is-network.network.represents.most count-bound _ _ index-least index-bound a-bound
    (lent-tree _ c.kept_tree-from.result tree-in) _ c.bridges.ensures _ _ c.write_egress_row.ensures in let (_, kept, _) = row_kept in
    kept.same_length

pub returns : goal.returns
returns c =
    let rows-after : List ℕ =
    c.write_egress_row.new.egress_rows in
    let row_kept : let args = c.args in EgressRowsKept args.network.now args.hops.now args.b (args.count + 1) rows-after × Kept args.egress_rows.now rows-after × HasEgressRow rows-after args.index args.a =
    let (is-network, _, _, _) = c.requires.network in
    let (index-least, index-bound, a-bound, count-bound, egress-rows-kept) = c.requires.le_index in
    let (_, tree-in) = c.kept_tree-from.ensures.result_in_bounds in
    row_made egress-rows-kept is-network.network.represents.most count-bound _ _ index-least index-bound a-bound
    (lent-tree _ c.kept_tree-from.result tree-in) _ c.bridges.ensures _ _ c.write_egress_row.ensures in let (egress-rows-kept, kept, has-egress-row) = row_kept in
    let trees-kept = c.kept_tree-from.ensures.trees_kept in record {
      egress_rows_kept = egress-rows-kept;
      kept = (kept, has-egress-row, omega arith);
      trees_kept = trees-kept;
    }
