-- `earlier::repeats::is_vid_known` searches the VIDs one after the other. Assumes nothing.
use Prim.Native.Nat.{◌+◌}
use native.Mathlib.Omega.{arith}
use mathlib.Core.Path.{refl}
use borrow.Author.Tests.{eq-eqb, ne_eqb}
use Rattle.lists.proofs.laws.Searching.{search_starts}
use Rattle.rule.specs.Words.{words_of}
use Rattle.rule.specs.Records.{vid_of}
use Rattle.rule.specs.Plan.{has_vid}
use Rattle.readers.specs.Readers.{vid_values}
use Rattle.table.proofs.laws.PositionLaws.{record-passed, record-found, no_record-found}
use Rattle.earlier.proofs.repeats.is_vid_known.Goals as goal

pub loop-i-init : goal.loop-i-init
loop-i-init c = search_starts _ _

pub returns-then-vid_at-vid : goal.returns-then-vid_at-vid
returns-then-vid_at-vid c =
    record-found vid_of 1 c.args.from (words_of c.args.table.now) (has_vid c.args.vid) c.loop-i.invariant
    (c.args.from + c.loop-i.i) (vid_values c.vid_at.result) _ c.loop-i-test.true (omega arith)
    c.vid_at.ensures refl (eq-eqb _ _ c.if-vid_at-vid.true)

pub loop-i-preserved : goal.loop-i-preserved
loop-i-preserved c =
    record-passed vid_of 1 c.args.from (words_of c.args.table.now) (has_vid c.args.vid) c.loop-i.invariant
    (c.args.from + c.loop-i.i) (vid_values c.vid_at.result) _ c.loop-i-test.true (omega arith)
    c.vid_at.ensures refl (ne_eqb _ _ c.if-vid_at-vid.false)

pub returns : goal.returns
returns c =
    no_record-found vid_of 1 c.args.from (words_of c.args.table.now) (has_vid c.args.vid)
    c.loop-i.invariant c.loop-i-test.false
