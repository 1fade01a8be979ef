-- `probe_edits::line::write_table` writes a field for each byte, and the newline. Assumes nothing.
use native.Mathlib.Omega.{arith}
use Rattle.text.proofs.laws.TextLaws.{written_on}
use Rattle.probe_edits.proofs.line.write_table.Goals as goal

pub returns : goal.returns
returns c =
    let (bytes, bytes-bound) = c.write_byte_fields-after_bytes.ensures in
    let newline-written = c.write_byte.ensures in
    let room = c.requires in
    (written_on bytes newline-written (omega (arith, bytes-bound, room)), omega (arith, bytes-bound, newline-written.end_is, room))
