-- `lookup::entry::is_match` tests the VID, then the address. Assumes nothing.
use borrow.Author.Tests.{eq-eqb, ne_eqb}
use Rattle.lookup.proofs.entry.is_match.Goals as goal

pub returns-then-vid_of-vid : goal.returns-then-vid_of-vid
returns-then-vid_of-vid c =
    let (vid-of-is, _) = c.vid_of.ensures in
    simp (← vid-of-is, ne_eqb _ _ c.if-vid_of-vid.true)

pub returns : goal.returns
returns c =
    let (vid-of-is, _) = c.vid_of.ensures in
    simp (← vid-of-is, eq-eqb _ _ c.if-vid_of-vid.false, c.address_of.ensures)
