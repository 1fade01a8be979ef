-- `tree::settle::first_hop` tests the next hop. Assumes nothing.
use borrow.Author.Tests.{eq-eqb, ne_eqb}
use Rattle.tree.proofs.settle.first_hop.Goals as goal

pub returns-then-next-root : goal.returns-then-next-root
returns-then-next-root c = simp (eq-eqb _ _ c.if-next-root.true)

pub returns-else-next-root : goal.returns-else-next-root
returns-else-next-root c = simp (ne_eqb _ _ c.if-next-root.false)
