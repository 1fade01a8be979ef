-- What the loops of `text::digits::decimal_places` keep true.
use Prim.Native.Nat.{◌-◌}
use Rattle.text.proofs.laws.DigitLaws.{Counting}
use Rattle.text.proofs.digits.decimal_places.Given as goal

abbrev pub invariant-loop-count : goal.invariant-loop-count
invariant-loop-count l = Counting l.n l.count l.rest

abbrev pub decreases-loop-count : goal.decreases-loop-count
decreases-loop-count l = 10 - l.count
