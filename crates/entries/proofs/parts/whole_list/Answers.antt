-- `entries::parts::whole_list` writes the parts VID after VID. Assumes nothing.
use Rattle.lists.proofs.laws.AppendingLaws.{appending_starts, appending_room, appending_goes_on, appending_length, appending_ends}
use Rattle.entries.specs.Parts.{whole_list}
use Rattle.entries.proofs.parts.whole_list.Goals as goal

pub loop-k-init : goal.loop-k-init
unfolding whole_list
loop-k-init c =
    let room = c.requires.room in
    appending_starts _ _ _ _ room

pub vid_part-end-requires : goal.vid_part-end-requires
vid_part-end-requires c =
    let (checked, egress-rows-inside, b-bound) = c.requires.checked in record {
      checked = (checked, egress-rows-inside, b-bound, c.loop-k-test.true);
      room = appending_room c.loop-k.invariant c.loop-k-test.true;
    }

pub loop-k-preserved : goal.loop-k-preserved
loop-k-preserved c = appending_goes_on c.loop-k.invariant c.loop-k-test.true c.vid_part-end.ensures

pub shape_of-words : goal.shape_of-words
shape_of-words c = appending_length c.loop-k.invariant

pub returns : goal.returns
unfolding whole_list
returns c = appending_ends c.loop-k.invariant c.loop-k-test.false
