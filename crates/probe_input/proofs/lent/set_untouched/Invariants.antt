-- What the loops of `probe_input::lent::set_untouched` keep true.
use Rattle.probe_input.specs.Lent.{untouched_place}
use Rattle.probe_input.proofs.laws.LentLaws.{Setting}
use Rattle.probe_input.proofs.lent.set_untouched.Given as goal

abbrev pub invariant-loop-i : goal.invariant-loop-i
invariant-loop-i l = Setting untouched_place l.initial.list l.list l.i
