-- `service_reading::read::write_member` writes two words one after the other. Assumes nothing.
use Rattle.service_reading.proofs.laws.ReadingLaws.{member-written}
use lib.ListN.{length-set}
use native.Mathlib.Omega.{arith}
use Rattle.service_reading.proofs.read.write_member.Goals as goal

pub bounds-words-at-2 : goal.bounds-words-at-2
bounds-words-at-2 c =
    let (words-room, _, _) = c.requires in
    simp length-set (omega (arith, words-room))

pub returns : goal.returns
returns c =
    let (words-room, _, _) = c.requires in
    member-written _ _ c.args.bridge c.args.vid c.args.service _ words-room c.member_first.ensures
