-- What the loops of `text::fields::write_fields` keep true.
use Prim.Native.Nat.{◌-◌}
use lib.ListN.{length}
use Rattle.text.proofs.laws.TextLaws.{Fielding}
use Rattle.text.proofs.fields.write_fields.Given as goal

abbrev pub invariant-loop-n : goal.invariant-loop-n
invariant-loop-n l = Fielding l.numbers l.initial.out l.at l.out l.next l.n-index
