-- `entry_rows::needed::keep_egress_rows` keeps the bridge's own rows and then those of the transmitting members. Assumes nothing.
use native.Mathlib.Omega.{arith}
use mathlib.Core.Path.{refl, ap, ◌∙◌}
use Rattle.rule.specs.Records.{Member}
use Rattle.verdict.proofs.laws.CheckedLaws.{few-bridges}
use Rattle.network.proofs.laws.NetworkLaws.{bridges-in-table, is_network}
use Rattle.egress.proofs.laws.RowLaws.{kept-all}
use Rattle.entry_rows.proofs.laws.NeededLaws.{member-silent, member-index, member-known, row_of, transmitter_has, silent, members-start, members-room, members-go-on, members_end}
use Rattle.entry_rows.proofs.needed.keep_egress_rows.Goals as goal

pub keep_own_egress_rows-count-requires : goal.keep_own_egress_rows-count-requires
keep_own_egress_rows-count-requires c = c.requires

pub loop-j-init : goal.loop-j-init
loop-j-init c =
    let (hops-ready, _, _, _) = c.requires in
    let egress-rows-kept = c.keep_own_egress_rows-count.ensures.egress_rows_kept in
    let (_, own-egress-rows, keep-own-egress-rows-bound) = c.keep_own_egress_rows-count.ensures.kept in
    let trees-kept = c.keep_own_egress_rows-count.ensures.trees_kept in
    (members-start hops-ready egress-rows-kept own-egress-rows keep-own-egress-rows-bound, refl, refl, trees-kept)

pub member-m-requires : goal.member-m-requires
member-m-requires c =
    let (hops-ready, _, _, _) = c.requires in
    (hops-ready.table_network.checked.whole, c.loop-j-test.true)

pub transmitter_index-index-requires : goal.transmitter_index-index-requires
transmitter_index-index-requires c =
    let (hops-ready, _, _, _) = c.requires in
    hops-ready.table_network.checked.whole

pub loop-j-preserved-then-index-eq0 : goal.loop-j-preserved-then-index-eq0
loop-j-preserved-then-index-eq0 c =
    let (hops-ready, _, _, _) = c.requires in
    let (keeping-members, path-ids-length, store_length, trees-kept) = c.loop-j.invariant in (
      members-go-on hops-ready keeping-members c.loop-j-test.true keeping-members.held (kept-all _)
          (silent
          (member-silent hops-ready.table_network.checked _ c.loop-j-test.true _ c.member-m.ensures _
          c.transmitter_index-index.ensures c.if-index-eq0.true))
          (omega arith),
      path-ids-length,
      store_length,
      trees-kept,
    )

pub overflow_cast-b : goal.overflow_cast-b
overflow_cast-b c =
    let (hops-ready, _, _, _) = c.requires in
    omega (arith, hops-ready.known, few-bridges hops-ready.table_network.checked)

pub keep_egress_row-count-requires : goal.keep_egress_row-count-requires
keep_egress_row-count-requires c =
    let (hops-ready, path-ids-room, _, _) = c.requires in
    let (keeping-members, path-ids-length, _, trees-kept) = c.loop-j.invariant in
    let table-network = hops-ready.table_network in
    let (index-least, index-bound, bridge-bound) =
    member-known table-network.checked _ c.loop-j-test.true _ c.member-m.ensures _
    c.transmitter_index-index.ensures c.if-index-eq0.false in record {
      network = (
        is_network table-network,
        hops-ready.has_hops,
        omega (arith, path-ids-room, path-ids-length, c.keep_own_egress_rows-count.auto),
        trees-kept,
      );
      le_index = (
        index-least,
        index-bound,
        omega (arith, bridge-bound, bridges-in-table table-network),
        members-room hops-ready keeping-members c.loop-j-test.true,
        keeping-members.held,
      );
    }

pub loop-j-preserved : goal.loop-j-preserved
loop-j-preserved c =
    let (hops-ready, _, _, _) = c.requires in
    let (keeping-members, path-ids-length, store_length, _) = c.loop-j.invariant in
    let egress-rows-kept = c.keep_egress_row-count.ensures.egress_rows_kept in
    let (kept, has-egress-row, keep-egress-row-bound) = c.keep_egress_row-count.ensures.kept in
    let trees-kept = c.keep_egress_row-count.ensures.trees_kept in
    let lengths-kept = c.keep_egress_row-count.auto in
    let index_is =
    member-index hops-ready.table_network.checked _ c.loop-j-test.true _ c.member-m.ensures _
    c.transmitter_index-index.ensures c.if-index-eq0.false in (
      members-go-on hops-ready keeping-members c.loop-j-test.true egress-rows-kept kept
          (transmitter_has (row_of index_is (ap (λ (m : Member). m.bridge) c.member-m.ensures) has-egress-row))
          keep-egress-row-bound,
      omega (arith, lengths-kept, path-ids-length),
      omega (arith, lengths-kept, store_length),
      trees-kept,
    )

pub shape_of-egress_rows : goal.shape_of-egress_rows
shape_of-egress_rows c =
    let (keeping-members, _, _, _) = c.loop-j.invariant in
    let (kept, _, _) = c.keep_own_egress_rows-count.ensures.kept in
    keeping-members.kept.same_length ∙ kept.same_length

pub returns : goal.returns
returns c =
    let (hops-ready, _, _, _) = c.requires in
    let (keeping-members, _, _, trees-kept) = c.loop-j.invariant in record {
      egress_rows_ready = members_end hops-ready keeping-members c.loop-j-test.false;
      trees_kept = trees-kept;
    }
