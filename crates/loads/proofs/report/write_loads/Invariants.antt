-- What the loops of `loads::report::write_loads` keep true.
use mathlib.Core.Path.{◌≡◌}
use Prim.Native.Nat.{◌≤◌}
use lib.ListN.{length}
use Rattle.trees.specs.Store.{TreesKept}
use Rattle.loads.proofs.laws.ReportLaws.{Adding}
use Rattle.loads.proofs.report.write_loads.Given as goal

abbrev pub invariant-loop-i : goal.invariant-loop-i
invariant-loop-i l = Adding l.network l.indexes l.traffic l.i l.loads l.total l.lost × TreesKept l.network l.store
    × (length l.path_ids ≡ length l.initial.path_ids) × (length l.store ≡ length l.initial.store) × (length l.loads ≡ length l.initial.loads) × (l.i ≤ l.count)
