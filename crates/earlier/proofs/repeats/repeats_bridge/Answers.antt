-- `earlier::repeats::repeats_bridge` compares addresses, then SPsourceIDs. Assumes nothing.
use borrow.Author.Tests.{eq-eqb, ne_eqb}
use Rattle.earlier.proofs.repeats.repeats_bridge.Goals as goal

pub returns-then-earlier-b : goal.returns-then-earlier-b
returns-then-earlier-b c = simp (eq-eqb _ _ c.if-earlier-b.true)

pub returns : goal.returns
returns c = simp (ne_eqb _ _ c.if-earlier-b.false)
