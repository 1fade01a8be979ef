-- `text::digits::write_last_digits` writes the digits from the last to the first. Assumes nothing.
use Rattle.text.proofs.laws.DigitLaws.{spelling_starts, spelling_goes_on, spelling_ends}
use native.Mathlib.Omega.{arith}
use mathlib.Core.Path.{refl}
use Rattle.text.proofs.digits.write_last_digits.Goals as goal

pub loop-left-init : goal.loop-left-init
loop-left-init c = spelling_starts _ _ _ _ _

pub loop-left-preserved : goal.loop-left-preserved
loop-left-preserved c =
    spelling_goes_on 10 _ _ _ _ c.requires c.loop-left.invariant _ _ _ (omega arith) c.decimal_digit.ensures refl

pub shape_of-out : goal.shape_of-out
shape_of-out c = c.loop-left.invariant.same_length

pub returns : goal.returns
returns c = spelling_ends 10 _ _ _ _ c.loop-left.invariant c.loop-left-test.false
