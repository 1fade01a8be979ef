-- `lookup::list::is_faulty_list` finds a fault anywhere in the list: no entry passed had one, and the words left decide. Assumes nothing.
use native.Mathlib.Omega.{arith}
use mathlib.Core.Path.{sym, ◌∙◌}
use Rattle.lookup.proofs.laws.EntryListLaws.{testing_starts, testing_on, testing_finds, testing_over}
use Rattle.lookup.proofs.list.is_faulty_list.Goals as goal

pub loop-i-init : goal.loop-i-init
loop-i-init c = testing_starts _

pub returns-then-is_faulty : goal.returns-then-is_faulty
returns-then-is_faulty c =
    sym (testing_finds c.loop-i.invariant (omega (arith, c.loop-i-test.true)) (sym c.is_faulty.ensures ∙ c.if-is_faulty.true))

pub loop-i-preserved : goal.loop-i-preserved
loop-i-preserved c =
    testing_on c.loop-i.invariant (omega (arith, c.loop-i-test.true)) (sym c.is_faulty.ensures ∙ c.if-is_faulty.false) (omega arith)

pub returns : goal.returns
returns c = sym (testing_over c.loop-i.invariant (omega (arith, c.loop-i-test.false)))
