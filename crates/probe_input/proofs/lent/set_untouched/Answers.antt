-- `probe_input::lent::set_untouched` sets place after place. Assumes nothing.
use native.Mathlib.Omega.{arith}
use mathlib.Core.Path.{refl}
use Rattle.probe_input.specs.Lent.{untouched_place}
use Rattle.probe_input.proofs.laws.LentLaws.{setting_starts, setting_on, setting_length, all_set}
use Rattle.probe_input.proofs.lent.set_untouched.Goals as goal

pub loop-i-init : goal.loop-i-init
loop-i-init c = setting_starts untouched_place _

pub loop-i-preserved : goal.loop-i-preserved
loop-i-preserved c = setting_on untouched_place c.loop-i.invariant (omega (arith, c.loop-i.auto.list, c.loop-i-test.true)) _ refl

pub shape_of-list : goal.shape_of-list
shape_of-list c = setting_length untouched_place c.loop-i.invariant

pub returns : goal.returns
returns c = all_set untouched_place c.loop-i.invariant (omega (arith, c.loop-i.auto.list, c.loop-i-test.false))
