-- `bench_calls::calls::make_trees` makes trees of a network that stays as it is. Assumes nothing.
use native.Mathlib.Omega.{arith}
use mathlib.Core.Path.{refl}
use Rattle.bench_calls.proofs.laws.BenchCallLaws.{next-tree, all_trees}
use Rattle.std.proofs.Common.{rules}
use Rattle.bench_calls.proofs.calls.make_trees.Goals as goal

pub loop-root-init : goal.loop-root-init
loop-root-init c = (refl, refl, omega arith, refl)

pub tree_in_network-requires : goal.tree_in_network-requires
tree_in_network-requires c =
    let (is-network, count-bound, labels-room, path-ids-room) = c.requires in
    let (labels_length, path-ids-length, _, _) = c.loop-root.invariant in (
      is-network,
      omega arith,
      omega arith,
      omega (arith, count-bound, c.loop-root-test.true),
      omega (arith, labels-room, labels_length),
      omega (arith, path-ids-room, path-ids-length),
    )

pub loop-root-preserved : goal.loop-root-preserved
loop-root-preserved c = (
  search rules,
  search rules,
  omega (arith, c.loop-root-test.true),
  next-tree _ _ _ _ c.tree_in_network.ensures,
)

pub returns : goal.returns
returns c =
    let (_, _, root-bound, last-tree) = c.loop-root.invariant in
    all_trees _ _ _ _ _ root-bound c.loop-root-test.false last-tree
