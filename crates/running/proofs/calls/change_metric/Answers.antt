-- `running::calls::change_metric` makes the change that is permitted, and asks the tree of the edited table. Assumes nothing.
use native.Mathlib.Omega.{arith}
use mathlib.Core.Path.{refl, sym}
use lib.Seq.{length-take-le}
use Rattle.edits.specs.Running.{metric_change}
use Rattle.running.proofs.laws.CallLaws.{in-limits, small-metric, range_kept, may_change, front_length, word-within, whole, not_full, new-length, table_again, again_length, change-made, change-not-made}
use Rattle.running.proofs.calls.change_metric.Goals as goal

pub slice_bounds-permit-end-2 : goal.slice_bounds-permit-end-2
slice_bounds-permit-end-2 c =
    let (table-length-bound, _) = c.table_length-length.ensures in
    sym (length-take-le _ _ table-length-bound)

pub slice_bounds-write_metric-end-in-Ok : goal.slice_bounds-write_metric-end-in-Ok
slice_bounds-write_metric-end-in-Ok c =
    let (table-length-bound, _) = c.table_length-length.ensures in
    sym (length-take-le _ _ table-length-bound)

pub write_metric-requires : goal.write_metric-requires
write_metric-requires c =
    let m = may_change c.args.running (metric_change c.args.name c.args.metric) c.args.table.now c.table_length-length.result
    c.table_length-length.ensures c.is_in_range-fits.result (in-limits _ _ c.is_in_range-fits.ensures) c.room_of-room.result
    c.permit-permitted.result c.in-Ok.is c.permit-permitted.ensures in (
      omega (arith, word-within m),
      whole m,
      small-metric _ _ c.is_in_range-fits.ensures (range_kept m),
    )

pub slice_bounds-keep-end-in-Ok : goal.slice_bounds-keep-end-in-Ok
slice_bounds-keep-end-in-Ok c =
    let m = may_change c.args.running (metric_change c.args.name c.args.metric) c.args.table.now c.table_length-length.result
    c.table_length-length.ensures c.is_in_range-fits.result (in-limits _ _ c.is_in_range-fits.ensures) c.room_of-room.result
    c.permit-permitted.result c.in-Ok.is c.permit-permitted.ensures in
    again_length m c.write_metric.new.table c.write_metric.ensures _
    (omega (arith, new-length m, whole m, front_length m, word-within m))

pub overflow_add-running : goal.overflow_add-running
overflow_add-running c =
    let m = may_change c.args.running (metric_change c.args.name c.args.metric) c.args.table.now c.table_length-length.result
    c.table_length-length.ensures c.is_in_range-fits.result (in-limits _ _ c.is_in_range-fits.ensures) c.room_of-room.result
    c.permit-permitted.result c.in-Ok.is c.permit-permitted.ensures in
    omega (arith, not_full m)

pub returns-in-Ok : goal.returns-in-Ok
returns-in-Ok c =
    let m = may_change c.args.running (metric_change c.args.name c.args.metric) c.args.table.now c.table_length-length.result
    c.table_length-length.ensures c.is_in_range-fits.result (in-limits _ _ c.is_in_range-fits.ensures) c.room_of-room.result
    c.permit-permitted.result c.in-Ok.is c.permit-permitted.ensures in
    change-made m c.write_metric.new.table c.write_metric.ensures _ _ _ c.room_of-room.ensures _ _
    (table_again m c.write_metric.new.table c.write_metric.ensures c.table_length-length.result
    (omega (arith, new-length m, whole m, front_length m, word-within m)))
    refl _ _ _ _ c.keep.ensures

pub returns-in-Err : goal.returns-in-Err
returns-in-Err c =
    let (_, front_of) = c.table_length-length.ensures in
    change-not-made c.args.running (metric_change c.args.name c.args.metric) c.args.table.now
    c.table_length-length.result front_of c.is_in_range-fits.result
    (in-limits _ _ c.is_in_range-fits.ensures) c.room_of-room.result _ _ _ c.room_of-room.ensures
    c.permit-permitted.result _ c.in-Err.is c.permit-permitted.ensures _ c.from.ensures
