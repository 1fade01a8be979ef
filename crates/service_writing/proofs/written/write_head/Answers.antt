-- `service_writing::written::write_head` writes type and length, then two words. Assumes nothing.
use Rattle.lists.proofs.laws.AppendingLaws.{appended-both}
use native.Mathlib.Omega.{arith}
use Rattle.service_writing.proofs.written.write_head.Goals as goal

pub returns : goal.returns
returns c =
    let (bytes-room, _, _, _) = c.requires in
    appended-both c.write_start-after_start.ensures
    (appended-both c.write_word-after_first.ensures c.write_word.ensures (omega (arith, bytes-room)))
    (omega (arith, bytes-room))
