-- What the loops of `figures::entry_lists::write_star` keep true.
use Prim.Native.Nat.{◌≤◌}
use mathlib.Core.Path.{◌≡◌}
use lib.ListN.{length}
use Rattle.figures.proofs.entry_lists.write_star.Given as goal

abbrev pub invariant-loop-n : goal.invariant-loop-n
invariant-loop-n l = (l.n ≤ 715) × (length l.table ≡ length l.initial.table)
