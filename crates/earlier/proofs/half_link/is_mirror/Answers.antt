-- `earlier::half_link::is_mirror` compares near with far, then far with near. Assumes nothing.
use borrow.Author.Tests.{eq-eqb, ne_eqb}
use Rattle.earlier.proofs.half_link.is_mirror.Goals as goal

pub returns-then-h-earlier : goal.returns-then-h-earlier
returns-then-h-earlier c = simp (ne_eqb _ _ c.if-h-earlier.true)

pub returns : goal.returns
returns c = simp (eq-eqb _ _ c.if-h-earlier.false)
