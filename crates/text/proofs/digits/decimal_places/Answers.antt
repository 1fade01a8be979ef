-- `text::digits::decimal_places` counts the places: what is left of the number has the others. Assumes nothing.
use native.Mathlib.Omega.{arith}
use Rattle.text.proofs.laws.DigitLaws.{counting_starts, counting_goes_on, counting_finds, counting_ends}
use Rattle.text.proofs.digits.decimal_places.Goals as goal

pub loop-count-init : goal.loop-count-init
loop-count-init c = counting_starts _

pub returns-then-rest-lt10 : goal.returns-then-rest-lt10
returns-then-rest-lt10 c = (counting_finds c.loop-count.invariant c.if-rest-lt10.true, c.loop-count.invariant.most)

pub loop-count-preserved : goal.loop-count-preserved
loop-count-preserved c = counting_goes_on c.loop-count.invariant c.loop-count-test.true c.if-rest-lt10.false

pub returns : goal.returns
returns c =
    let counted = counting_ends c.loop-count.invariant c.loop-count-test.false in
    (omega (arith, counted, c.loop-count.invariant.most, c.loop-count-test.false), omega arith)
