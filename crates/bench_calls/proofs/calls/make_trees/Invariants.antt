-- What the loops of `bench_calls::calls::make_trees` keep true.
use Prim.Native.Nat.{◌-◌, ◌≤◌}
use mathlib.Core.Path.{◌≡◌}
use lib.ListN.{length}
use Rattle.bench_calls.specs.BenchCalls.{LastTree}
use Rattle.bench_calls.proofs.calls.make_trees.Given as goal

abbrev pub invariant-loop-root : goal.invariant-loop-root
invariant-loop-root l = (length l.labels ≡ length l.initial.labels) × (length l.path_ids ≡ length l.initial.path_ids) × (l.root ≤ l.count) × LastTree l.network l.root l.initial.labels l.labels
