-- What the loops of `loads::along::add_along` keep true.
use Prim.Native.Nat.{ℕ, ◌+◌}
use mathlib.Core.Path.{◌≡◌}
use Rattle.loads.proofs.laws.AlongLaws.{Going}
use Rattle.loads.proofs.along.add_along.Given as goal

abbrev pub invariant-loop-passed : goal.invariant-loop-passed
invariant-loop-passed l =
    (left : ℕ) × (left + l._passed ≡ l.hops) × Going l.labels l.initial.loads l.loads l.amount l.from l.hops l.u left
