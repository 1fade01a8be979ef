-- `running::calls::withdraw` takes a half-link out, and asks the tree of the edited table. Assumes nothing.
use Prim.Native.Nat.{◌-◌}
use native.Mathlib.Omega.{arith}
use mathlib.Core.Path.{refl, sym}
use mathlib.Core.Bool.{true}
use lib.Seq.{length-take-le}
use Rattle.edits.specs.Running.{withdrawal}
use Rattle.running.proofs.laws.CallLaws.{high, may_change, front_length, word-within, whole, not_full, new-length, table_again, again_length, change-made, change-not-made}
use Rattle.running.proofs.calls.withdraw.Goals as goal

pub slice_bounds-permit-end-2 : goal.slice_bounds-permit-end-2
slice_bounds-permit-end-2 c =
    let (table-length-bound, _) = c.table_length-length.ensures in
    sym (length-take-le _ _ table-length-bound)

pub slice_bounds-withdraw_words-end-in-Ok : goal.slice_bounds-withdraw_words-end-in-Ok
slice_bounds-withdraw_words-end-in-Ok c =
    let (table-length-bound, _) = c.table_length-length.ensures in
    sym (length-take-le _ _ table-length-bound)

pub withdraw_words-requires : goal.withdraw_words-requires
withdraw_words-requires c =
    let m = may_change c.args.running (withdrawal c.args.name) c.args.table.now c.table_length-length.result
    c.table_length-length.ensures true refl c.room_of-room.result
    c.permit-permitted.result c.in-Ok.is c.permit-permitted.ensures in
    (word-within m, whole m, high m)

pub slice_bounds-keep-count : goal.slice_bounds-keep-count
slice_bounds-keep-count c =
    let m = may_change c.args.running (withdrawal c.args.name) c.args.table.now c.table_length-length.result
    c.table_length-length.ensures true refl c.room_of-room.result
    c.permit-permitted.result c.in-Ok.is c.permit-permitted.ensures in
    omega (arith, word-within m, front_length m)

pub slice_bounds-keep-length : goal.slice_bounds-keep-length
slice_bounds-keep-length c =
    let m = may_change c.args.running (withdrawal c.args.name) c.args.table.now c.table_length-length.result
    c.table_length-length.ensures true refl c.room_of-room.result
    c.permit-permitted.result c.in-Ok.is c.permit-permitted.ensures in
    again_length m c.withdraw_words.new.table c.withdraw_words.ensures _
    (omega (arith, new-length m, whole m, front_length m, word-within m))

pub overflow_add-running : goal.overflow_add-running
overflow_add-running c =
    let m = may_change c.args.running (withdrawal c.args.name) c.args.table.now c.table_length-length.result
    c.table_length-length.ensures true refl c.room_of-room.result
    c.permit-permitted.result c.in-Ok.is c.permit-permitted.ensures in
    omega (arith, not_full m)

pub returns-in-Ok : goal.returns-in-Ok
returns-in-Ok c =
    let m = may_change c.args.running (withdrawal c.args.name) c.args.table.now c.table_length-length.result
    c.table_length-length.ensures true refl c.room_of-room.result
    c.permit-permitted.result c.in-Ok.is c.permit-permitted.ensures in
    change-made m c.withdraw_words.new.table c.withdraw_words.ensures _ _ _ c.room_of-room.ensures _ _
    (table_again m c.withdraw_words.new.table c.withdraw_words.ensures (c.table_length-length.result - 12)
    (omega (arith, new-length m, whole m, front_length m, word-within m)))
    refl _ _ _ _ c.keep.ensures

pub returns-in-Err : goal.returns-in-Err
returns-in-Err c =
    let (_, front_of) = c.table_length-length.ensures in
    change-not-made c.args.running (withdrawal c.args.name) c.args.table.now
    c.table_length-length.result front_of true refl c.room_of-room.result _ _ _ c.room_of-room.ensures
    c.permit-permitted.result _ c.in-Err.is c.permit-permitted.ensures _ c.from.ensures
