-- `loads::report::add_record` adds a record by the tree that is rooted at its end. Assumes nothing.
use native.Mathlib.Omega.{arith}
use lib.ListN.{length-take, length-drop}
use Rattle.trees.proofs.laws.StoreLaws.{lent-tree}
use Rattle.loads.proofs.laws.ReportLaws.{index-fits, words_fit, record-passable, record_added}
use Rattle.loads.proofs.report.add_record.Goals as goal

pub overflow_cast-index : goal.overflow_cast-index
overflow_cast-index c =
    let ready = c.requires.traffic_ready in
    omega (arith, index-fits ready c.args.i (omega arith), c.well_formed)

pub offset_bounds-indexes-traffic : goal.offset_bounds-indexes-traffic
offset_bounds-indexes-traffic c =
    let ready = c.requires.traffic_ready in
    omega (arith, index-fits ready c.args.i (omega arith), c.well_formed)

pub bounds-indexes-traffic : goal.bounds-indexes-traffic
bounds-indexes-traffic c =
    let ready = c.requires.traffic_ready in
    let (assigned, _, _) = index-fits ready c.args.i (omega arith) in
    assigned

pub overflow_cast-from : goal.overflow_cast-from
overflow_cast-from c =
    let ready = c.requires.traffic_ready in
    omega (arith, words_fit ready c.args.i (omega arith))

pub overflow_cast-to : goal.overflow_cast-to
overflow_cast-to c =
    let ready = c.requires.traffic_ready in
    omega (arith, words_fit ready c.args.i (omega arith))

pub kept_tree-place-requires : goal.kept_tree-place-requires
kept_tree-place-requires c =
    let ready = c.requires.traffic_ready in
    let (path-ids-room, trees-kept) = c.requires.in_bounds in
    let (_, index-least, index-bound) = index-fits ready c.args.i (omega arith) in
    let (_, _, to-bound, _, _) = words_fit ready c.args.i (omega arith) in record {
      network = (ready.is_network, index-least, index-bound, to-bound);
      in_bounds = (path-ids-room, trees-kept);
    }

pub add_labelled-requires : goal.add_labelled-requires
add_labelled-requires c =
    let ready = c.requires.traffic_ready in
    let (loads-room, room) = c.requires.in_bounds_2 in
    let (kept-tree-bound, tree-in) = c.kept_tree-place.ensures.result_in_bounds in
    let (amount-bound, _, _, _, _) = words_fit ready c.args.i (omega arith) in record {
      in_bounds = (
        simp (length-take, length-drop) (omega (arith, kept-tree-bound)),
        record-passable ready c.args.i (omega arith) (lent-tree _ c.kept_tree-place.result tree-in),
        amount-bound,
      );
      in_bounds_2 = (loads-room, record { fits = λ q P. omega (arith, room.fits q P, amount-bound) });
    }

pub returns : goal.returns
returns c =
    let ready = c.requires.traffic_ready in
    let trees-kept = c.kept_tree-place.ensures.trees_kept in
    let (_, tree-in) = c.kept_tree-place.ensures.result_in_bounds in record {
      trees_kept = trees-kept;
      traffic_added = record_added ready c.args.i (omega arith) (lent-tree _ c.kept_tree-place.result tree-in)
          c.add_labelled.ensures;
    }
