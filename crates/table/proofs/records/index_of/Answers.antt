-- `table::records::index_of` finds the record of a VID. Assumes nothing.
use native.Mathlib.Omega.{arith}
use Rattle.rule.specs.Words.{words_of}
use Rattle.table.proofs.laws.NumberedLaws.{vid-starts, vid-on, vid-found, vid_missing}
use Rattle.table.proofs.records.index_of.Goals as goal

pub vids_from-from-requires : goal.vids_from-from-requires
vids_from-from-requires c = omega (arith, c.requires)

pub loop-k-init : goal.loop-k-init
loop-k-init c = vid-starts (words_of c.args.table.now) c.args.s c.args.vid

pub overflow_add-from : goal.overflow_add-from
overflow_add-from c = omega (arith, c.requires, c.vids_from-from.ensures, c.loop-k-test.true)

pub vid_at-v-requires : goal.vid_at-v-requires
vid_at-v-requires c = omega (arith, c.requires, c.vids_from-from.ensures, c.loop-k-test.true)

pub returns-then-v-vid : goal.returns-then-v-vid
returns-then-v-vid c =
    vid-found (words_of c.args.table.now) c.args.s c.args.vid c.loop-k.k c.loop-k.invariant _ _
    c.loop-k-test.true c.vids_from-from.ensures c.vid_at-v.ensures c.if-v-vid.true

pub loop-k-preserved : goal.loop-k-preserved
loop-k-preserved c =
    vid-on (words_of c.args.table.now) c.args.s c.args.vid c.loop-k.k c.loop-k.invariant _ _
    c.loop-k-test.true c.vids_from-from.ensures c.vid_at-v.ensures c.if-v-vid.false

pub returns : goal.returns
returns c =
    vid_missing (words_of c.args.table.now) c.args.s c.args.vid c.loop-k.k c.loop-k.invariant
    c.loop-k-test.false
