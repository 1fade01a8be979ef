-- `service_writing::written::write_start` writes type and length. Assumes nothing.
use Rattle.lists.proofs.laws.AppendingLaws.{two-words}
use lib.ListN.{length-set}
use native.Mathlib.Omega.{arith}
use Rattle.service_writing.proofs.written.write_start.Goals as goal

pub bounds-bytes-at-2 : goal.bounds-bytes-at-2
bounds-bytes-at-2 c =
    let (bytes-room, _) = c.requires in
    simp length-set (omega (arith, bytes-room))

pub returns : goal.returns
returns c =
    let (bytes-room, _) = c.requires in
    two-words _ _ _ _ bytes-room
