-- `earlier::repeats::repeats_any_member` searches the members one after the other. Assumes nothing.
use Prim.Native.Nat.{◌+◌, ◌*◌}
use native.Mathlib.Omega.{arith}
use Rattle.lists.proofs.laws.Searching.{search_starts}
use Rattle.rule.specs.Words.{words_of}
use Rattle.rule.specs.Records.{member_of}
use Rattle.rule.specs.Check.{repeats_member}
use Rattle.readers.specs.Readers.{member_values}
use Rattle.table.proofs.laws.PositionLaws.{record-passed, record-found, no_record-found}
use Rattle.earlier.proofs.repeats.repeats_any_member.Goals as goal

pub loop-i-init : goal.loop-i-init
loop-i-init c = search_starts _ _

pub returns-then-repeats_member : goal.returns-then-repeats_member
returns-then-repeats_member c =
    record-found member_of 2 c.args.from (words_of c.args.table.now) (repeats_member (member_values c.args.m))
    c.loop-i.invariant (c.args.from + 2 * c.loop-i.i) (member_values c.member_at.result)
    c.repeats_member.result c.loop-i-test.true (omega arith) c.member_at.ensures
    c.repeats_member.ensures c.if-repeats_member.true

pub loop-i-preserved : goal.loop-i-preserved
loop-i-preserved c =
    record-passed member_of 2 c.args.from (words_of c.args.table.now)
    (repeats_member (member_values c.args.m)) c.loop-i.invariant (c.args.from + 2 * c.loop-i.i)
    (member_values c.member_at.result) c.repeats_member.result c.loop-i-test.true (omega arith)
    c.member_at.ensures c.repeats_member.ensures c.if-repeats_member.false

pub returns : goal.returns
returns c =
    no_record-found member_of 2 c.args.from (words_of c.args.table.now)
    (repeats_member (member_values c.args.m)) c.loop-i.invariant c.loop-i-test.false
