-- `entries::parts::group_part` writes the entries member after member. Assumes nothing.
use Rattle.lists.proofs.laws.AppendingLaws.{appending_starts, appending_room, appending_goes_on, appending_length, appending_ends}
use Rattle.entries.specs.Parts.{group_part}
use Rattle.entries.proofs.parts.group_part.Goals as goal

pub loop-j-init : goal.loop-j-init
unfolding group_part
loop-j-init c =
    let room = c.requires.room in
    appending_starts _ _ _ _ room

pub member_words-end-requires : goal.member_words-end-requires
member_words-end-requires c =
    let (checked, egress-rows-inside, index-least, index-bound, vid-bound) = c.requires.checked in record {
      checked = (checked, egress-rows-inside, index-least, index-bound, vid-bound, c.loop-j-test.true);
      room = appending_room c.loop-j.invariant c.loop-j-test.true;
    }

pub loop-j-preserved : goal.loop-j-preserved
loop-j-preserved c = appending_goes_on c.loop-j.invariant c.loop-j-test.true c.member_words-end.ensures

pub shape_of-words : goal.shape_of-words
shape_of-words c = appending_length c.loop-j.invariant

pub returns : goal.returns
unfolding group_part
returns c = appending_ends c.loop-j.invariant c.loop-j-test.false
