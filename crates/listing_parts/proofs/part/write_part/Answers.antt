-- `listing_parts::part::write_part` writes the part that has this number. Assumes nothing.
use native.Mathlib.Omega.{arith}
use Prim.Native.Nat.{◌<◌}
use Rattle.rule.specs.Words.{words_of}
use Rattle.verdict.proofs.laws.CheckedLaws.{few-bridges}
use Rattle.entry_rows.proofs.laws.NeededLaws.{few_vids}
use Rattle.listing_parts.proofs.laws.TableParts.{few_pairs, counts_part, some-bridge, known-vid, known_from, path_lines_part, entry_lines_part, load_report_part}
use Rattle.listing_parts.proofs.part.write_part.Goals as goal

pub returns-then-part-eq0 : goal.returns-then-part-eq0
returns-then-part-eq0 c =
    let (_, counts-is, _) = c.requires.table_network in
    let (_, trees-kept, _, _) = c.requires.in_bounds in
    let (written, write-counts-bound) = c.write_counts.ensures in record {
      trees_kept = trees-kept;
      written_at = (counts_part _ _ c.if-part-eq0.true counts-is written, omega (arith, write-counts-bound));
    }

pub overflow_mul-pairs : goal.overflow_mul-pairs
overflow_mul-pairs c =
    let (table-network, _, _) = c.requires.table_network in
    let checked = table-network.checked in
    omega (arith, few_pairs c.args.s.vids c.args.s.bridges (few_vids checked) (few-bridges checked))

pub nonzero_div-pair : goal.nonzero_div-pair
nonzero_div-pair c =
    let has-bridge : 0 < c.args.s.bridges =
    some-bridge (words_of c.args.table.now) c.args.s c.args.part c.if-part-eq0.false c.if-pair-pairs.true in has-bridge

pub nonzero_rem-pair : goal.nonzero_rem-pair
nonzero_rem-pair c =
    let has-bridge : 0 < c.args.s.bridges =
    some-bridge (words_of c.args.table.now) c.args.s c.args.part c.if-part-eq0.false c.if-pair-pairs.true in has-bridge

pub write_path_lines-requires : goal.write_path_lines-requires
write_path_lines-requires c =
    let (table-network, _, _) = c.requires.table_network in
    let (path-ids-room, trees-kept, _, out-room) = c.requires.in_bounds in
    let words = words_of c.args.table.now in record {
      table_network = (
        table-network,
        known-vid words c.args.s c.args.part c.if-part-eq0.false c.if-pair-pairs.true,
        known_from words c.args.s c.args.part c.if-part-eq0.false c.if-pair-pairs.true,
      );
      in_bounds = (path-ids-room, trees-kept, omega (arith, few-bridges table-network.checked, out-room));
    }

pub returns-then-pair-pairs : goal.returns-then-pair-pairs
returns-then-pair-pairs c =
    let trees-kept = c.write_path_lines.ensures.trees_kept in
    let (written, write-path-lines-bound) = c.write_path_lines.ensures.written_at in
    let (table-network, _, _) = c.requires.table_network in record {
      trees_kept = trees-kept;
      written_at = (
        path_lines_part _ _ _ c.if-part-eq0.false c.if-pair-pairs.true written,
        omega (arith, write-path-lines-bound, few-bridges table-network.checked),
      );
    }

pub write_entry_lines_of-requires : goal.write_entry_lines_of-requires
write_entry_lines_of-requires c =
    let (table-network, _, _) = c.requires.table_network in
    let (path-ids-room, trees-kept, words-room, out-room) = c.requires.in_bounds in record {
      table_network = (table-network, c.if-bridge-s.true, words-room, out-room);
      in_bounds = (path-ids-room, trees-kept);
    }

pub returns-then-bridge-s : goal.returns-then-bridge-s
returns-then-bridge-s c =
    let trees-kept = c.write_entry_lines_of.ensures.trees_kept in
    let (written, write-entry-lines-of-bound) = c.write_entry_lines_of.ensures.written_at in record {
      trees_kept = trees-kept;
      written_at = (entry_lines_part _ _ _ c.if-part-eq0.false c.if-pair-pairs.false c.if-bridge-s.true written, write-entry-lines-of-bound);
    }

pub write_load_report-requires : goal.write_load_report-requires
write_load_report-requires c =
    let (table-network, _, _) = c.requires.table_network in
    let (path-ids-room, trees-kept, _, out-room) = c.requires.in_bounds in record {
      table_network = (table-network, omega (arith, out-room));
      in_bounds = (path-ids-room, trees-kept);
    }

pub returns : goal.returns
returns c =
    let trees-kept = c.write_load_report.ensures.trees_kept in
    let (written, write-load-report-bound) = c.write_load_report.ensures.written_at in record {
      trees_kept = trees-kept;
      written_at = (load_report_part _ _ _ c.if-part-eq0.false c.if-pair-pairs.false c.if-bridge-s.false written, omega (arith, write-load-report-bound));
    }
