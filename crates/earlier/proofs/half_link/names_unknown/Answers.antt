-- `earlier::half_link::names_unknown` tests near, far, and the two together. Assumes nothing.
use borrow.Author.Tests.{lt-ltb, le-ltb}
use Rattle.earlier.proofs.half_link.names_unknown.Goals as goal

pub returns-then-bridges-near : goal.returns-then-bridges-near
returns-then-bridges-near c = simp (le-ltb _ _ c.if-bridges-near.true)

pub returns-then-bridges-far : goal.returns-then-bridges-far
returns-then-bridges-far c = simp (lt-ltb _ _ c.if-bridges-near.false, le-ltb _ _ c.if-bridges-far.true)

pub returns : goal.returns
returns c = simp (lt-ltb _ _ c.if-bridges-near.false, lt-ltb _ _ c.if-bridges-far.false)
