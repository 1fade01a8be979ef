-- `check_text::check::write_refused` writes the refusal and the newline. Assumes nothing.
use Rattle.text.proofs.laws.TextLaws.{written_on}
use native.Mathlib.Omega.{arith}
use Rattle.check_text.proofs.check.write_refused.Goals as goal

pub returns : goal.returns
returns c =
    let (written, write-refusal-bound) = c.write_refusal-after_refusal.ensures in (
      written_on written c.write_byte.ensures (omega (arith, write-refusal-bound, c.requires)),
      omega (arith, write-refusal-bound, c.write_byte.ensures.end_is),
    )
