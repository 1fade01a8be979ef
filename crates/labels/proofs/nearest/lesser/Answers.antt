-- `labels::nearest::lesser` gives the cost that is below the other. Assumes nothing.
use Prim.Native.Nat.{◌≤◌, ◌<◌}
use native.Mathlib.Omega.{arith}
use Rattle.measures.proofs.laws.MeasureLaws.{below, not-below}
use Rattle.labels.proofs.nearest.lesser.Goals as goal

pub returns-then-is_below : goal.returns-then-is_below
returns-then-is_below c =
    let less : c.args.a.0 < c.args.b.0 = below c.is_below.ensures c.if-is_below.true in
    omega arith

pub returns-else-is_below : goal.returns-else-is_below
returns-else-is_below c =
    let not-less : c.args.b.0 ≤ c.args.a.0 = not-below c.is_below.ensures c.if-is_below.false in
    omega arith
