-- `steps::step::kind_concerned` leaves the kind out of 2. Assumes nothing.
use borrow.Author.Tests.{eq-eqb, ne_eqb}
use Rattle.steps.proofs.step.kind_concerned.Goals as goal

pub returns-then-number-eq2 : goal.returns-then-number-eq2
returns-then-number-eq2 c = simp (eq-eqb _ _ c.if-number-eq2.true)

pub returns : goal.returns
returns c = simp (ne_eqb _ _ c.if-number-eq2.false)
