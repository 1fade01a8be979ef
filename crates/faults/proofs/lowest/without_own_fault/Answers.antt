-- `faults::lowest::without_own_fault` tests in the order of the numbers. Assumes nothing.
use borrow.Author.Tests.{lt-ltb, le-ltb, le-leb, lt-leb}
use Rattle.faults.specs.Faults.{without_own_fault}
use Rattle.faults.proofs.lowest.without_own_fault.Goals as goal

pub returns-then-kind-last : goal.returns-then-kind-last
unfolding without_own_fault
returns-then-kind-last g c = simp (lt-ltb _ _ c.if-kind-last.true)

pub returns-in-Err : goal.returns-in-Err
unfolding without_own_fault
returns-in-Err g c = simp (le-ltb _ _ c.if-kind-last.false, c.in-Err.is, c.fault_shown.ensures)

pub returns-then-full : goal.returns-then-full
unfolding without_own_fault
returns-then-full g c = simp (le-ltb _ _ c.if-kind-last.false, c.in-Ok.is, le-leb _ _ c.if-full.true)

pub returns : goal.returns
unfolding without_own_fault
returns g c = simp (le-ltb _ _ c.if-kind-last.false, c.in-Ok.is, lt-leb _ _ c.if-full.false)
