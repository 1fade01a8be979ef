-- `listing_progress::progress::next_part` writes the part that comes next, or says that none is left. Assumes nothing.
use native.Mathlib.Omega.{arith}
use Prim.Native.Nat.{◌≤◌, ◌<◌}
use Rattle.rule.specs.Words.{words_of}
use Rattle.table.specs.Positions.{plan_at}
use Rattle.verdict.proofs.laws.CheckedLaws.{few-bridges}
use Rattle.entry_rows.proofs.laws.NeededLaws.{few_vids}
use Rattle.listing_parts.specs.Parts.{part_count}
use Rattle.listing_progress.specs.Remaining.{PartsReady}
use Rattle.listing_parts.proofs.laws.TableParts.{few-parts, parts_are}
use Rattle.listing_progress.proofs.laws.RemainingLaws.{accepted-ended, refused-ended, next-accepted, next-refused}
use Rattle.listing_progress.proofs.progress.next_part.Goals as goal

pub part_count-requires : goal.part_count-requires
part_count-requires c =
    let parts-ready : let args = c.args in PartsReady args.table.now args.progress c.in-Ok.s args.network.now args.store.now =
    let underway = c.requires.underway in
    underway.accepted _ c.in-Ok.is in
    let table-small : (c.in-Ok.s.bridges ≤ 64) × (c.in-Ok.s.vids ≤ 16) =
    let checked = parts-ready.table_network.checked in
    (few-bridges checked, few_vids checked) in table-small

pub returns-then-part_count-given : goal.returns-then-part_count-given
returns-then-part_count-given c =
    let underway = c.requires.underway in
    let parts = parts_are (words_of c.args.table.now) c.in-Ok.s in record {
      next_of = accepted-ended _ _ underway.of_table _ c.in-Ok.is
          (omega (arith, c.if-part_count-given.true, c.part_count.ensures, parts));
      goes_on = tt;
    }

pub write_part-written-requires : goal.write_part-written-requires
write_part-written-requires c =
    let parts-ready : let args = c.args in PartsReady args.table.now args.progress c.in-Ok.s args.network.now args.store.now =
    let underway = c.requires.underway in
    underway.accepted _ c.in-Ok.is in
    let part_left : let args = c.args in args.progress.given < part_count (plan_at (words_of args.table.now) c.in-Ok.s) =
    let words = words_of c.args.table.now in
    omega (arith, c.if-part_count-given.false, c.part_count.ensures, parts_are words c.in-Ok.s) in let (path-ids-room, words-room, out-room) = c.requires.in_bounds in
    let ready = parts-ready in record {
      table_network = (ready.table_network, ready.counted, part_left);
      in_bounds = (path-ids-room, ready.trees_kept, words-room, out-room);
    }

pub part_given-requires : goal.part_given-requires
part_given-requires c =
    let parts-ready : let args = c.args in PartsReady args.table.now args.progress c.in-Ok.s args.network.now args.store.now =
    let underway = c.requires.underway in
    underway.accepted _ c.in-Ok.is in
    let table-small : (c.in-Ok.s.bridges ≤ 64) × (c.in-Ok.s.vids ≤ 16) =
    let checked = parts-ready.table_network.checked in
    (few-bridges checked, few_vids checked) in let (bridges-few, vids-few) = table-small in
    omega (
      arith,
      c.if-part_count-given.false,
      c.part_count.ensures,
      few-parts c.in-Ok.s vids-few bridges-few,
    )

pub returns-then-given-ge1 : goal.returns-then-given-ge1
returns-then-given-ge1 c =
    let underway = c.requires.underway in record {
      next_of = refused-ended _ _ underway.of_table _ c.in-Err.is c.if-given-ge1.true;
      goes_on = tt;
    }

pub returns-else-part_count-given : goal.returns-else-part_count-given
returns-else-part_count-given c =
    let part_left : let args = c.args in args.progress.given < part_count (plan_at (words_of args.table.now) c.in-Ok.s) =
    let words = words_of c.args.table.now in
    omega (arith, c.if-part_count-given.false, c.part_count.ensures, parts_are words c.in-Ok.s) in let underway = c.requires.underway in
    let (_, _, out-room) = c.requires.in_bounds in
    let trees-kept = c.write_part-written.ensures.trees_kept in
    let (written, write-part-bound) = c.write_part-written.ensures.written_at in let both = next-accepted underway _ c.in-Ok.is part_left written
    (omega (arith, write-part-bound, c.write_part-written.auto, out-room)) trees-kept _ c.part_given.ensures in record {
      next_of = both.0;
      goes_on = both.1;
    }

pub returns-else-given-ge1 : goal.returns-else-given-ge1
returns-else-given-ge1 c =
    let underway = c.requires.underway in
    let (_, _, out-room) = c.requires.in_bounds in
    let (written, write-refused-bound) = c.write_refused-written.ensures in let both = next-refused underway _ c.in-Err.is (omega (arith, c.if-given-ge1.false)) written
    (omega (arith, write-refused-bound, c.write_refused-written.auto, out-room)) _ c.part_given-in-Err.ensures in record {
      next_of = both.0;
      goes_on = both.1;
    }
