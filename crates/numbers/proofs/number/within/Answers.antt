-- `numbers::number::within` tests the limits, the lower first. Assumes nothing.
use borrow.Author.Tests.{lt-leb, le-leb}
use Rattle.numbers.proofs.number.within.Goals as goal

pub returns-then-value-least : goal.returns-then-value-least
returns-then-value-least c = simp (lt-leb _ _ c.if-value-least.true)

pub returns : goal.returns
returns c = simp (le-leb _ _ c.if-value-least.false)
