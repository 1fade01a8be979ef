-- `loads::traffic::vid_place` seeks the record of a VID. Assumes nothing.
use native.Mathlib.Omega.{arith}
use Rattle.rule.specs.Words.{words_of}
use Rattle.loads.proofs.laws.TrafficLaws.{place-starts, place-on, place_found, place_missing}
use Rattle.loads.proofs.traffic.vid_place.Goals as goal

pub loop-k-init : goal.loop-k-init
loop-k-init c = place-starts (words_of c.args.table.now) c.args.s c.args.number

pub returns-then-vid-number : goal.returns-then-vid-number
returns-then-vid-number c =
    place_found (words_of c.args.table.now) c.args.s c.args.number c.loop-k.invariant _
    c.vid.ensures c.loop-k-test.true c.if-vid-number.true

pub loop-k-preserved : goal.loop-k-preserved
loop-k-preserved c =
    place-on (words_of c.args.table.now) c.args.s c.args.number c.loop-k.invariant _
    c.vid.ensures c.loop-k-test.true c.if-vid-number.false

pub returns : goal.returns
returns c =
    let missing = place_missing (words_of c.args.table.now) c.args.s c.args.number c.loop-k.invariant c.loop-k-test.false in
    omega (arith, missing, c.loop-k.auto.k-end, c.loop-k-test.false)
