-- `probe_edits::line::write_lists` writes the fields of three lists. Assumes nothing.
use native.Mathlib.Omega.{arith}
use Rattle.text.proofs.laws.TextLaws.{written_on}
use Rattle.probe_edits.proofs.line.write_lists.Goals as goal

pub returns : goal.returns
returns c =
    let (first, first-bound) = c.write_fields-after_costs.ensures in
    let (second, second-bound) = c.write_fields-after_hops.ensures in
    let (third, third-bound) = c.write_fields.ensures in
    let room = c.requires in
    let two = written_on first second (omega (arith, first-bound, room)) in
    (written_on two third (omega (arith, first-bound, second-bound, room)), omega (arith, first-bound, second-bound, third-bound))
