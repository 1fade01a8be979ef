-- `earlier::traffic::repeats_any_traffic` searches the traffic records one after the other. Assumes nothing.
use Prim.Native.Nat.{◌+◌, ◌*◌}
use native.Mathlib.Omega.{arith}
use Rattle.lists.proofs.laws.Searching.{search_starts}
use Rattle.rule.specs.Words.{words_of}
use Rattle.rule.specs.Records.{traffic_of}
use Rattle.rule.specs.Check.{repeats_traffic}
use Rattle.readers.specs.Readers.{traffic_values}
use Rattle.table.proofs.laws.PositionLaws.{record-passed, record-found, no_record-found}
use Rattle.earlier.proofs.traffic.repeats_any_traffic.Goals as goal

pub loop-i-init : goal.loop-i-init
loop-i-init c = search_starts _ _

pub returns-then-repeats_traffic : goal.returns-then-repeats_traffic
returns-then-repeats_traffic c =
    record-found traffic_of 2 c.args.from (words_of c.args.table.now) (repeats_traffic (traffic_values c.args.t))
    c.loop-i.invariant (c.args.from + 2 * c.loop-i.i) (traffic_values c.traffic_at.result)
    c.repeats_traffic.result c.loop-i-test.true (omega arith) c.traffic_at.ensures
    c.repeats_traffic.ensures c.if-repeats_traffic.true

pub loop-i-preserved : goal.loop-i-preserved
loop-i-preserved c =
    record-passed traffic_of 2 c.args.from (words_of c.args.table.now)
    (repeats_traffic (traffic_values c.args.t)) c.loop-i.invariant (c.args.from + 2 * c.loop-i.i)
    (traffic_values c.traffic_at.result) c.repeats_traffic.result c.loop-i-test.true (omega arith)
    c.traffic_at.ensures c.repeats_traffic.ensures c.if-repeats_traffic.false

pub returns : goal.returns
returns c =
    no_record-found traffic_of 2 c.args.from (words_of c.args.table.now)
    (repeats_traffic (traffic_values c.args.t)) c.loop-i.invariant c.loop-i-test.false
