-- `loads::traffic::write_traffic` writes record after record. Assumes nothing.
use native.Mathlib.Omega.{arith}
use mathlib.Core.Path.{refl}
use Rattle.rule.specs.Words.{words_of}
use Rattle.loads.proofs.laws.TrafficLaws.{none_written, one-more-written, all-written}
use Rattle.loads.proofs.traffic.write_traffic.Goals as goal

pub loop-i-init : goal.loop-i-init
loop-i-init c = (none_written _ _, refl)

pub write_record-requires : goal.write_record-requires
write_record-requires c =
    let (whole, room) = c.requires in
    let (_, same_length) = c.loop-i.invariant in
    (whole, c.loop-i-test.true, omega (arith, room, same_length, c.loop-i-test.true))

pub loop-i-preserved : goal.loop-i-preserved
loop-i-preserved c =
    let (so_far, same_length) = c.loop-i.invariant in
    (one-more-written so_far c.write_record.ensures, omega (arith, c.write_record.auto, same_length))

pub returns : goal.returns
returns c =
    let (so_far, _) = c.loop-i.invariant in
    all-written (words_of c.args.table.now) c.args.s so_far c.loop-i-test.false
