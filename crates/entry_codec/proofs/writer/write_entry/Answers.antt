-- `entry_codec::writer::write_entry` writes three words one after the other. Assumes nothing.
use native.Mathlib.Omega.{arith}
use lib.ListN.{length-set}
use Rattle.lists.proofs.laws.AppendingLaws.{three-words}
use Rattle.entry_codec.proofs.writer.write_entry.Goals as goal

pub bounds-words-at-2 : goal.bounds-words-at-2
bounds-words-at-2 c =
    let (words-room, _, _, _) = c.requires in
    simp length-set (omega (arith, words-room))

pub bounds-words-at-3 : goal.bounds-words-at-3
bounds-words-at-3 c =
    let (words-room, _, _, _) = c.requires in
    simp length-set (omega (arith, words-room))

pub returns : goal.returns
returns c =
    let (words-room, _, _, _) = c.requires in
    three-words _ _ _ _ _ words-room
