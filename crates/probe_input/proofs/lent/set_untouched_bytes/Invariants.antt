-- What the loops of `probe_input::lent::set_untouched_bytes` keep true.
use Rattle.probe_input.specs.Lent.{untouched_byte}
use Rattle.probe_input.proofs.laws.LentLaws.{Setting}
use Rattle.probe_input.proofs.lent.set_untouched_bytes.Given as goal

abbrev pub invariant-loop-i : goal.invariant-loop-i
invariant-loop-i l = Setting untouched_byte l.initial.list l.list l.i
