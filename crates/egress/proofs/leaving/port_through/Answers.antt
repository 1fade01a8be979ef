-- `egress::leaving::port_through` tests the next hop. Assumes nothing.
use borrow.Author.Tests.{eq-eqb, ne_eqb}
use Rattle.egress.proofs.leaving.port_through.Goals as goal

pub returns-then-next-b : goal.returns-then-next-b
returns-then-next-b c = simp (eq-eqb _ _ c.if-next-b.true)

pub returns-else-next-b : goal.returns-else-next-b
returns-else-next-b c = simp (ne_eqb _ _ c.if-next-b.false)
