-- `entry_rows::needed::keep_own_egress_rows` keeps the rows VID after VID. Assumes nothing.
use native.Mathlib.Omega.{arith}
use mathlib.Core.Path.{refl, ap}
use Rattle.rule.specs.Records.{Vid}
use Rattle.verdict.proofs.laws.CheckedLaws.{few-bridges}
use Rattle.network.proofs.laws.NetworkLaws.{bridges-in-table, is_network}
use Rattle.entry_rows.proofs.laws.NeededLaws.{vid-fits, row_of, own-starts, own_room, own_goes_on, own-ends}
use Rattle.entry_rows.proofs.needed.keep_own_egress_rows.Goals as goal

pub loop-k-init : goal.loop-k-init
loop-k-init c =
    let (hops-ready, _, trees-kept, egress-rows-kept) = c.requires in
    (own-starts hops-ready egress-rows-kept, refl, refl, trees-kept)

pub vid-v-requires : goal.vid-v-requires
vid-v-requires c =
    let (hops-ready, _, _, _) = c.requires in
    (hops-ready.table_network.checked.whole, c.loop-k-test.true)

pub overflow_cast-b : goal.overflow_cast-b
overflow_cast-b c =
    let (hops-ready, _, _, _) = c.requires in
    omega (arith, hops-ready.known, few-bridges hops-ready.table_network.checked)

pub keep_egress_row-count-requires : goal.keep_egress_row-count-requires
keep_egress_row-count-requires c =
    let (hops-ready, path-ids-room, _, _) = c.requires in
    let (keeping-own, path-ids-length, _, trees-kept) = c.loop-k.invariant in
    let table-network = hops-ready.table_network in
    let fits = vid-fits table-network.checked _ c.loop-k-test.true in
    let index_is = ap (λ (v : Vid). v.index) c.vid-v.ensures in record {
      network = (is_network table-network, hops-ready.has_hops, omega (arith, path-ids-room, path-ids-length), trees-kept);
      le_index = (
        omega (arith, index_is, fits.least_index),
        omega (arith, index_is, fits.greatest_index),
        omega (arith, hops-ready.known, bridges-in-table table-network),
        own_room hops-ready keeping-own c.loop-k-test.true,
        keeping-own.held,
      );
    }

pub loop-k-preserved : goal.loop-k-preserved
loop-k-preserved c =
    let (hops-ready, _, _, _) = c.requires in
    let (keeping-own, path-ids-length, store_length, _) = c.loop-k.invariant in
    let egress-rows-kept = c.keep_egress_row-count.ensures.egress_rows_kept in
    let (kept, has-egress-row, keep-egress-row-bound) = c.keep_egress_row-count.ensures.kept in
    let trees-kept = c.keep_egress_row-count.ensures.trees_kept in
    let lengths-kept = c.keep_egress_row-count.auto in (
      own_goes_on hops-ready keeping-own c.loop-k-test.true egress-rows-kept kept
          (row_of (ap (λ (v : Vid). v.index) c.vid-v.ensures) refl has-egress-row) keep-egress-row-bound,
      omega (arith, lengths-kept, path-ids-length),
      omega (arith, lengths-kept, store_length),
      trees-kept,
    )

pub shape_of-egress_rows : goal.shape_of-egress_rows
shape_of-egress_rows c =
    let (keeping-own, _, _, _) = c.loop-k.invariant in
    keeping-own.kept.same_length

pub returns : goal.returns
returns c =
    let (keeping-own, _, _, trees-kept) = c.loop-k.invariant in
    let (hops-ready, _, _, _) = c.requires in
    let (own-egress-rows, count-bound) = own-ends hops-ready keeping-own c.loop-k-test.false in record {
      egress_rows_kept = keeping-own.held;
      kept = (keeping-own.kept, own-egress-rows, count-bound);
      trees_kept = trees-kept;
    }
