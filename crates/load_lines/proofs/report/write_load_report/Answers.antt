-- `load_lines::report::write_load_report` writes the lines of all pairs, then those of total and lost. Assumes nothing.
use native.Mathlib.Omega.{arith}
use lib.ListN.{length-take}
use Rattle.load_lines.proofs.laws.LoadReportLaws.{few-traffic, few_vids, traffic-ready, report_written}
use Rattle.load_lines.proofs.report.write_load_report.Goals as goal

pub write_traffic-requires : goal.write_traffic-requires
write_traffic-requires c =
    let (table-network, _) = c.requires.table_network in
    (table-network.checked.whole, omega (arith, few-traffic table-network))

pub write_indexes-requires : goal.write_indexes-requires
write_indexes-requires c =
    let (table-network, _) = c.requires.table_network in
    (table-network.checked.whole, few_vids table-network)

pub slice_bounds-indexes-end : goal.slice_bounds-indexes-end
slice_bounds-indexes-end c =
    let (table-network, _) = c.requires.table_network in
    omega (arith, few_vids table-network, c.write_indexes.auto)

pub slice_bounds-write_loads-end : goal.slice_bounds-write_loads-end
slice_bounds-write_loads-end c =
    let (table-network, _) = c.requires.table_network in
    simp length-take (omega (arith, few_vids table-network, c.write_indexes.auto))

pub write_loads-sums-requires : goal.write_loads-sums-requires
write_loads-sums-requires c =
    let (table-network, _) = c.requires.table_network in
    let (path-ids-room, trees-kept) = c.requires.in_bounds in record {
      traffic_ready = (
        traffic-ready table-network c.write_traffic.ensures
            (omega (arith, few-traffic table-network, c.write_traffic.auto)) c.write_indexes.ensures,
        few-traffic table-network,
      );
      in_bounds = (path-ids-room, trees-kept, omega arith);
    }

pub write_sums-requires : goal.write_sums-requires
write_sums-requires c =
    let (_, out-room) = c.requires.table_network in
    omega (arith, out-room, c.write_pair_lines-after_pairs.ensures.few, c.write_pair_lines-after_pairs.auto)

pub returns : goal.returns
returns c =
    let (table-network, out-room) = c.requires.table_network in
    let trees-kept = c.write_loads-sums.ensures.trees_kept in
    let loads-in = c.write_loads-sums.ensures.loads_in in
    let (sums-written, write-sums-bound) = c.write_sums.ensures in
    let pair-lines = c.write_pair_lines-after_pairs.ensures in record {
      trees_kept = trees-kept;
      written_at = (
        report_written table-network c.write_traffic.ensures c.write_indexes.ensures loads-in
            pair-lines (omega (arith, pair-lines.few, out-room)) sums-written,
        omega (arith, write-sums-bound, pair-lines.few),
      );
    }
