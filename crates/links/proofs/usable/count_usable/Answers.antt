-- `links::usable::count_usable` adds what each half-link counts for. Assumes nothing.
use native.Mathlib.Omega.{arith}
use Rattle.rule.specs.Words.{words_of}
use Rattle.table.specs.Positions.{plan_at}
use Rattle.table.specs.Numbered.{half_link_number}
use Rattle.links.proofs.laws.CountLaws.{counting_starts, counting_goes_on, counting_ends, counted-most}
use Rattle.links.proofs.usable.count_usable.Goals as goal

pub loop-i-init : goal.loop-i-init
loop-i-init c = counting_starts (words_of c.args.table.now) c.args.s

pub overflow_add-count : goal.overflow_add-count
overflow_add-count c =
    let (checked, _) = c.requires in
    omega (
      arith,
      c.count_one-count.ensures,
      counted-most (plan_at (words_of c.args.table.now) c.args.s).half_links
          (half_link_number (words_of c.args.table.now) c.args.s c.loop-i.i),
      c.loop-i.invariant.most,
      checked.whole.bounded,
      checked.whole.within,
    )

pub loop-i-preserved : goal.loop-i-preserved
loop-i-preserved c =
    counting_goes_on (words_of c.args.table.now) c.args.s c.loop-i.invariant c.count_one-count.result
    c.loop-i-test.true c.count_one-count.ensures

pub returns : goal.returns
returns c =
    let (checked, _) = c.requires in
    counting_ends (words_of c.args.table.now) c.args.s c.loop-i.invariant checked.laws c.loop-i-test.false
