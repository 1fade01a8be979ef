-- `numbers::metric::Metric::is_in_range` tests the limits, the least first. Assumes nothing.
use borrow.Author.Tests.{lt-leb, le-leb}
use Rattle.numbers.proofs.metric.Metric.is_in_range.Goals as goal

pub returns-then-self : goal.returns-then-self
returns-then-self c = simp (lt-leb _ _ c.if-self.true)

pub returns : goal.returns
returns c = simp (le-leb _ _ c.if-self.false)
