-- `loads::report::write_loads` adds record after record. Assumes nothing.
use native.Mathlib.Omega.{arith}
use mathlib.Core.Path.{refl}
use Rattle.loads.proofs.laws.ReportLaws.{fewer-ready, adding_starts, adding_room, adding_on, adding_ends}
use Rattle.loads.proofs.report.write_loads.Goals as goal

pub clear_loads-requires : goal.clear_loads-requires
clear_loads-requires c =
    let (_, _, loads-room) = c.requires.in_bounds in
    loads-room

pub loop-i-init : goal.loop-i-init
loop-i-init c =
    let (_, trees-kept, _) = c.requires.in_bounds in
    (adding_starts _ _ _ c.clear_loads.ensures, trees-kept, refl, refl, refl, omega arith)

pub add_record-added-requires : goal.add_record-added-requires
add_record-added-requires c =
    let (ready, count-bound) = c.requires.traffic_ready in
    let (path-ids-room, _, loads-room) = c.requires.in_bounds in
    let (adding, trees-kept, path-ids-length, store_length, loads-length, _) = c.loop-i.invariant in record {
      traffic_ready = fewer-ready ready _ (omega (arith, c.loop-i-test.true));
      in_bounds = (omega (arith, path-ids-room, path-ids-length), trees-kept);
      in_bounds_2 = (
        omega (arith, loads-room, loads-length, c.clear_loads.auto),
        adding_room adding (omega (arith, count-bound, c.loop-i-test.true)),
      );
    }

pub overflow_add-total : goal.overflow_add-total
overflow_add-total c =
    let (_, count-bound) = c.requires.traffic_ready in
    let (adding, _, _, _, _, _) = c.loop-i.invariant in
    let added = c.add_record-added.ensures.traffic_added in
    omega (arith, adding.few_total, added.few_total, count-bound, c.loop-i-test.true)

pub overflow_add-lost : goal.overflow_add-lost
overflow_add-lost c =
    let (_, count-bound) = c.requires.traffic_ready in
    let (adding, _, _, _, _, _) = c.loop-i.invariant in
    let added = c.add_record-added.ensures.traffic_added in
    omega (arith, adding.few_lost, added.few_lost, count-bound, c.loop-i-test.true)

pub loop-i-preserved : goal.loop-i-preserved
loop-i-preserved c =
    let (adding, _, path-ids-length, store_length, loads-length, _) = c.loop-i.invariant in
    let trees-kept = c.add_record-added.ensures.trees_kept in
    let added = c.add_record-added.ensures.traffic_added in
    let lengths-kept = c.add_record-added.auto in (
      adding_on adding added,
      trees-kept,
      omega (arith, lengths-kept, path-ids-length),
      omega (arith, lengths-kept, store_length),
      omega (arith, lengths-kept, loads-length),
      omega (arith, c.loop-i-test.true),
    )

pub returns : goal.returns
returns c =
    let (adding, trees-kept, _, _, _, within) = c.loop-i.invariant in record {
      trees_kept = trees-kept;
      loads_in = adding_ends adding (omega (arith, within, c.loop-i-test.false));
    }
