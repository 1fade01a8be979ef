-- `service_reading::read::write_members` writes the record of each service. Assumes nothing.
use Rattle.lists.proofs.laws.AppendingLaws.{appending_starts, appending_room, appending_goes_on, appending_length, appending_ends}
use Rattle.rule.specs.Words.{words_of}
use Rattle.service_reading.proofs.laws.ReadingLaws.{records-room, records-written, service_count, member-at}
use native.Mathlib.Omega.{arith}
use Rattle.service_reading.proofs.read.write_members.Goals as goal

pub loop-n-init : goal.loop-n-init
loop-n-init c =
    let room = c.requires.room in
    appending_starts _ _ _ _
    (records-room c.args.bridge c.args.vid (words_of c.args.services.now) c.args.words.now
    room)

pub word_at-requires : goal.word_at-requires
word_at-requires c = omega (arith, c.loop-n-test.true)

pub write_member-at-requires : goal.write_member-at-requires
write_member-at-requires c =
    let (bridge-bound, vid-bound) = c.requires.bridge_bound in (
      appending_room c.loop-n.invariant (omega (arith, c.loop-n-test.true, service_count c.args.services.now)),
      bridge-bound,
      vid-bound,
    )

pub loop-n-preserved : goal.loop-n-preserved
loop-n-preserved c =
    let (word-at-is, _) = c.word_at.ensures in
    appending_goes_on c.loop-n.invariant (omega (arith, c.loop-n-test.true, service_count c.args.services.now))
    (member-at c.args.bridge c.args.vid (words_of c.args.services.now) c.loop-n.n _ word-at-is
    c.write_member-at.ensures)

pub shape_of-words : goal.shape_of-words
shape_of-words c = appending_length c.loop-n.invariant

pub returns : goal.returns
returns c =
    records-written c.args.bridge c.args.vid (words_of c.args.services.now)
    (appending_ends c.loop-n.invariant (omega (arith, c.loop-n-test.false, service_count c.args.services.now)))
