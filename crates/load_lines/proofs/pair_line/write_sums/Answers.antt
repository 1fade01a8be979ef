-- `load_lines::pair_line::write_sums` writes the two lines one after the other. Assumes nothing.
use native.Mathlib.Omega.{arith}
use Rattle.text.proofs.laws.TextLaws.{written_on}
use Rattle.load_lines.proofs.pair_line.write_sums.Goals as goal

pub returns : goal.returns
returns c =
    let (total-written, total-bound) = c.write_line-after_total.ensures in
    let (lost-written, lost-bound) = c.write_line.ensures in
    (written_on total-written lost-written (omega (arith, total-bound, c.requires)), omega (arith, total-bound, lost-bound))
