-- `ect::comparison::compare` compares place by place: up to the place reached the lists agree. Assumes nothing.
use native.Mathlib.Omega.{arith}
use mathlib.Core.Path.{◌≡◌, ap, ◌∙◌}
use lib.ListN.{length}
use Rattle.ect.specs.declared.comparison.Order.{Order}
use Rattle.ect.proofs.laws.ComparisonLaws.{comparing_starts, comparing_goes_on, comparing_finds, comparing_ends}
use Rattle.ect.proofs.comparison.compare.Goals as goal

pub loop-agreeing-init : goal.loop-agreeing-init
loop-agreeing-init c = comparing_starts _ _

pub returns-then-x-y : goal.returns-then-x-y
returns-then-x-y c =
    c.decided.ensures
    ∙ comparing_finds c.requires c.loop-agreeing.invariant c.loop-agreeing-test.true c.if-x-y.true

pub loop-agreeing-preserved : goal.loop-agreeing-preserved
loop-agreeing-preserved c =
    comparing_goes_on c.requires c.loop-agreeing.invariant c.loop-agreeing-test.true c.if-x-y.false

pub returns : goal.returns
returns c =
    let all-agree : length c.args.first.now ≡ c.loop-agreeing.agreeing = omega (arith, c.loop-agreeing.auto.agreeing-end, c.loop-agreeing-test.false) in
    ap (λ n. record { order = Order.Equal; places = n }) all-agree
    ∙ comparing_ends c.requires c.loop-agreeing.invariant c.loop-agreeing-test.false
