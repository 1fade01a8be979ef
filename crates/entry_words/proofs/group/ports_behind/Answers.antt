-- `entry_words::group::ports_behind` notes the receivers member after member. Assumes nothing.
use Rattle.readers.specs.Readers.{member_values}
use Rattle.entry_words.specs.Words.{ports_behind}
use Rattle.lists.proofs.laws.AppendingLaws.{appending_starts, appending_room, appending_goes_on, appending_length, appending_ends}
use Rattle.entry_words.proofs.laws.Receivers.{behind-room}
use Rattle.entry_words.proofs.group.ports_behind.Goals as goal

pub loop-j-init : goal.loop-j-init
unfolding ports_behind
loop-j-init c =
    let (checked, _, the-behind-room) = c.requires in
    appending_starts _ _ _ _
    (behind-room checked c.args.egress_row.now (member_values c.args.m) c.args.behind.now
    the-behind-room)

pub note_receiver-at-requires : goal.note_receiver-at-requires
note_receiver-at-requires c =
    let (checked, egress-row-room, _) = c.requires in record {
      checked = (checked, c.loop-j-test.true, egress-row-room);
      room = appending_room c.loop-j.invariant c.loop-j-test.true;
    }

pub loop-j-preserved : goal.loop-j-preserved
loop-j-preserved c = appending_goes_on c.loop-j.invariant c.loop-j-test.true c.note_receiver-at.ensures

pub shape_of-behind : goal.shape_of-behind
shape_of-behind c = appending_length c.loop-j.invariant

pub returns : goal.returns
unfolding ports_behind
returns c = appending_ends c.loop-j.invariant c.loop-j-test.false
