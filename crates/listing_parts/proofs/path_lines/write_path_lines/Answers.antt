-- `listing_parts::path_lines::write_path_lines` writes the line of each pair after those before it. Assumes nothing.
use native.Mathlib.Omega.{arith}
use mathlib.Core.Path.{refl}
use lib.ListN.{length-take, length-drop}
use Rattle.lists.proofs.laws.AppendingLaws.{few-starts, few-room, few_goes_on}
use Rattle.verdict.proofs.laws.CheckedLaws.{few-bridges}
use Rattle.network.proofs.laws.NetworkLaws.{bridges-in-table, is_network}
use Rattle.trees.proofs.laws.StoreLaws.{lent-tree}
use Rattle.listing_parts.proofs.laws.PathLineLaws.{one-bridge, index-fits, pair-followable, pair-written, pairs_written}
use Rattle.listing_parts.proofs.path_lines.write_path_lines.Goals as goal

pub vid-v-requires : goal.vid-v-requires
vid-v-requires c =
    let (table-network, k-bound, _) = c.requires.table_network in
    (table-network.checked.whole, k-bound)

pub loop-to-init : goal.loop-to-init
loop-to-init c =
    let (_, trees-kept, _) = c.requires.in_bounds in
    (few-starts _ 764 _ _ 0, trees-kept, refl, refl)

pub loop-to-preserved-then-to-from : goal.loop-to-preserved-then-to-from
loop-to-preserved-then-to-from c =
    let (appending-few, trees-kept, path-ids-length, store_length) = c.loop-to.invariant in
    let (_, _, out-room) = c.requires.in_bounds in (
      few_goes_on appending-few (omega (arith, out-room)) c.loop-to-test.true (one-bridge _ _ _ _ c.if-to-from.true _ _) (omega arith),
      trees-kept,
      path-ids-length,
      store_length,
    )

pub kept_tree-place-requires : goal.kept_tree-place-requires
kept_tree-place-requires c =
    let (table-network, k-bound, _) = c.requires.table_network in
    let (path-ids-room, _, _) = c.requires.in_bounds in
    let (_, trees-kept, path-ids-length, _) = c.loop-to.invariant in
    let (index-least, index-bound) = index-fits table-network _ k-bound _ c.vid-v.ensures in record {
      network = (is_network table-network, index-least, index-bound, omega (arith, c.loop-to-test.true, bridges-in-table table-network));
      in_bounds = (omega (arith, path-ids-room, path-ids-length), trees-kept);
    }

pub overflow_add-place : goal.overflow_add-place
overflow_add-place c =
    omega (arith, c.kept_tree-place.ensures, c.store-1.given, c.loop-to.invariant, c.well_formed)

pub offset_bounds-store-place : goal.offset_bounds-store-place
offset_bounds-store-place c =
    omega (arith, c.kept_tree-place.ensures, c.store-1.given, c.loop-to.invariant, c.well_formed)

pub overflow_cast-from : goal.overflow_cast-from
overflow_cast-from c =
    let (table-network, _, from-bound) = c.requires.table_network in
    omega (arith, from-bound, few-bridges table-network.checked)

pub overflow_cast-to : goal.overflow_cast-to
overflow_cast-to c =
    let (table-network, _, _) = c.requires.table_network in
    omega (arith, c.loop-to-test.true, few-bridges table-network.checked)

pub write_path_line-next-requires : goal.write_path_line-next-requires
write_path_line-next-requires c =
    let (kept-tree-bound, tree-in) = c.kept_tree-place.ensures.result_in_bounds in
    let (table-network, k-bound, from-bound) = c.requires.table_network in
    let (_, _, out-room) = c.requires.in_bounds in
    let (appending-few, _, _, _) = c.loop-to.invariant in (
      simp (length-take, length-drop) (omega (arith, kept-tree-bound)),
      pair-followable table-network _ k-bound _ c.vid-v.ensures _ _ from-bound c.loop-to-test.true
          (lent-tree _ c.kept_tree-place.result tree-in),
      few-room appending-few (omega (arith, out-room)) c.loop-to-test.true,
    )

pub loop-to-preserved : goal.loop-to-preserved
loop-to-preserved c =
    let (appending-few, _, path-ids-length, store_length) = c.loop-to.invariant in
    let (table-network, k-bound, from-bound) = c.requires.table_network in
    let (_, _, out-room) = c.requires.in_bounds in
    let trees-kept = c.kept_tree-place.ensures.trees_kept in
    let (_, tree-in) = c.kept_tree-place.ensures.result_in_bounds in
    let lengths-kept = c.kept_tree-place.auto in
    let (written, write-path-line-bound) = c.write_path_line-next.ensures in (
      few_goes_on appending-few (omega (arith, out-room)) c.loop-to-test.true
          (pair-written table-network _ k-bound _ c.vid-v.ensures _ _ from-bound c.loop-to-test.true
          (lent-tree _ c.kept_tree-place.result tree-in) c.if-to-from.false written)
          write-path-line-bound,
      trees-kept,
      omega (arith, lengths-kept, path-ids-length),
      omega (arith, lengths-kept, store_length),
    )

pub shape_of-out : goal.shape_of-out
shape_of-out c =
    let (appending-few, _, _, _) = c.loop-to.invariant in
    appending-few.same_length

pub returns : goal.returns
returns c =
    let (appending-few, trees-kept, _, _) = c.loop-to.invariant in
    let (table-network, _, _) = c.requires.table_network in
    let (_, _, out-room) = c.requires.in_bounds in record {
      trees_kept = trees-kept;
      written_at = pairs_written table-network _ _ appending-few out-room c.loop-to-test.false;
    }
