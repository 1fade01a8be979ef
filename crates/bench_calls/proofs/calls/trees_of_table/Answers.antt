-- `bench_calls::calls::trees_of_table` makes the network of the table and trees of it. Assumes nothing.
use native.Mathlib.Omega.{arith}
use mathlib.Core.Path.{◌∙◌}
use Rattle.network.proofs.laws.NetworkLaws.{bridges-in-table, is_network}
use Rattle.bench_calls.proofs.laws.BenchCallLaws.{last-label}
use Rattle.bench_calls.proofs.calls.trees_of_table.Goals as goal

pub make_trees-requires : goal.make_trees-requires
make_trees-requires c =
    let (_, count-bound, _) = c.requires in (
      is_network c.make_network.ensures,
      omega (arith, bridges-in-table c.make_network.ensures, count-bound),
      omega arith,
      omega arith,
    )

pub returns : goal.returns
returns c =
    let (_, count-bound, _) = c.requires in
    c.cost_at.ensures
    ∙ last-label _ c.make_network.ensures.network _ c.args.count
    (omega (arith, bridges-in-table c.make_network.ensures, count-bound)) c.make_trees.ensures
