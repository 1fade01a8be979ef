-- What the loops of `figures::plan::write_table` keep true.
use Prim.Native.Nat.{◌≤◌}
use mathlib.Core.Path.{◌≡◌}
use lib.ListN.{length}
use Rattle.figures.proofs.plan.write_table.Given as goal

abbrev pub invariant-loop-n : goal.invariant-loop-n
invariant-loop-n l = (l.n ≤ l.words) × (length l.table ≡ length l.initial.table)
