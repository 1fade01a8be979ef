-- `entry_words::individual::individual_words` writes the entries bridge after bridge. Assumes nothing.
use Rattle.entry_words.specs.Words.{individual_words}
use Rattle.lists.proofs.laws.AppendingLaws.{appending_starts, appending_room, appending_goes_on, appending_length, appending_ends}
use Rattle.entry_words.proofs.individual.individual_words.Goals as goal

pub loop-d-init : goal.loop-d-init
unfolding individual_words
loop-d-init c =
    let room = c.requires.room in
    appending_starts _ _ _ _ room

pub write_individual-end-requires : goal.write_individual-end-requires
write_individual-end-requires c =
    let (checked, egress-row-room, vid-bound) = c.requires.checked in record {
      checked = (checked, c.loop-d-test.true, egress-row-room, vid-bound);
      room = appending_room c.loop-d.invariant c.loop-d-test.true;
    }

pub loop-d-preserved : goal.loop-d-preserved
loop-d-preserved c = appending_goes_on c.loop-d.invariant c.loop-d-test.true c.write_individual-end.ensures

pub shape_of-words : goal.shape_of-words
shape_of-words c = appending_length c.loop-d.invariant

pub returns : goal.returns
unfolding individual_words
returns c = appending_ends c.loop-d.invariant c.loop-d-test.false
