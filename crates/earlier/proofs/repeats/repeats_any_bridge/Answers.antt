-- `earlier::repeats::repeats_any_bridge` searches the bridges one after the other. Assumes nothing.
use Prim.Native.Nat.{◌*◌}
use native.Mathlib.Omega.{arith}
use Rattle.lists.proofs.laws.Searching.{search_starts}
use Rattle.rule.specs.Words.{words_of}
use Rattle.rule.specs.Records.{bridge_of}
use Rattle.rule.specs.Check.{repeats_bridge}
use Rattle.readers.specs.Readers.{bridge_values}
use Rattle.table.proofs.laws.PositionLaws.{record-passed, record-found, no_record-found}
use Rattle.earlier.proofs.repeats.repeats_any_bridge.Goals as goal

pub loop-i-init : goal.loop-i-init
loop-i-init c = search_starts _ _

pub returns-then-repeats_bridge : goal.returns-then-repeats_bridge
returns-then-repeats_bridge c =
    record-found bridge_of 3 0 (words_of c.args.table.now) (repeats_bridge (bridge_values c.args.b)) c.loop-i.invariant
    (3 * c.loop-i.i) (bridge_values c.bridge_at.result) c.repeats_bridge.result
    c.loop-i-test.true (omega arith) c.bridge_at.ensures c.repeats_bridge.ensures c.if-repeats_bridge.true

pub loop-i-preserved : goal.loop-i-preserved
loop-i-preserved c =
    record-passed bridge_of 3 0 (words_of c.args.table.now) (repeats_bridge (bridge_values c.args.b))
    c.loop-i.invariant (3 * c.loop-i.i) (bridge_values c.bridge_at.result) c.repeats_bridge.result
    c.loop-i-test.true (omega arith) c.bridge_at.ensures c.repeats_bridge.ensures c.if-repeats_bridge.false

pub returns : goal.returns
returns c =
    no_record-found bridge_of 3 0 (words_of c.args.table.now) (repeats_bridge (bridge_values c.args.b))
    c.loop-i.invariant c.loop-i-test.false
