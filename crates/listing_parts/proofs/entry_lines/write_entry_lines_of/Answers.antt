-- `listing_parts::entry_lines::write_entry_lines_of` writes the lines of the words of the bridge's list. Assumes nothing.
use native.Mathlib.Omega.{arith}
use lib.ListN.{length-take}
use Rattle.verdict.proofs.laws.CheckedLaws.{few-bridges}
use Rattle.listing_parts.proofs.laws.EntryLines.{few-listed, few_bytes, lines_listed}
use Rattle.listing_parts.proofs.entry_lines.write_entry_lines_of.Goals as goal

pub slice_bounds-write_entry_lines-end : goal.slice_bounds-write_entry_lines-end
slice_bounds-write_entry_lines-end c =
    let (table-network, b-bound, words-room, _) = c.requires.table_network in
    let appended = c.list_in_network-count.ensures.appended in
    omega (arith, few-listed table-network.checked _ b-bound appended, words-room)

pub slice_bounds-write_entry_lines-end-2 : goal.slice_bounds-write_entry_lines-end-2
slice_bounds-write_entry_lines-end-2 c =
    let (table-network, b-bound, words-room, _) = c.requires.table_network in
    let appended = c.list_in_network-count.ensures.appended in simp length-take (omega (arith, few-listed table-network.checked _ b-bound appended, words-room))

pub overflow_cast-b : goal.overflow_cast-b
overflow_cast-b c =
    let (table-network, b-bound, _, _) = c.requires.table_network in
    omega (arith, b-bound, few-bridges table-network.checked)

pub write_entry_lines-requires : goal.write_entry_lines-requires
write_entry_lines-requires c =
    let (table-network, b-bound, _, out-room) = c.requires.table_network in
    let appended = c.list_in_network-count.ensures.appended in
    omega (arith, few_bytes table-network.checked _ b-bound appended, out-room)

pub returns : goal.returns
returns c =
    let appended = c.list_in_network-count.ensures.appended in
    let trees-kept = c.list_in_network-count.ensures.trees_kept in
    let (table-network, b-bound, _, _) = c.requires.table_network in
    let (written, write-entry-lines-bound) = c.write_entry_lines.ensures in record {
      trees_kept = trees-kept;
      written_at = (
        lines_listed table-network.checked _ b-bound appended written,
        omega (arith, write-entry-lines-bound, few_bytes table-network.checked _ b-bound appended),
      );
    }
