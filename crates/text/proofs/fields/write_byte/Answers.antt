-- `text::fields::write_byte` writes one byte. Assumes nothing.
use Rattle.lists.proofs.laws.AppendingLaws.{one_word}
use native.Mathlib.Omega.{arith}
use Rattle.text.proofs.fields.write_byte.Goals as goal

pub returns : goal.returns
returns c = one_word _ _ _ (omega (arith, c.requires))
