-- `trees::plan_tree::tree_of_table` makes the network of the table and the tree in it. Assumes nothing.
use native.Mathlib.Omega.{arith}
use Rattle.network.proofs.laws.NetworkLaws.{bridges-in-table, is_network}
use Rattle.std.proofs.Common.{rules}
use Rattle.trees.proofs.plan_tree.tree_of_table.Goals as goal

pub tree_in_network-requires : goal.tree_in_network-requires
tree_in_network-requires c =
    let (_, index-least, index-bound, root-bound, labels-room, _) = c.requires in
    let made = c.make_network.ensures in
    (is_network made, index-least, index-bound, omega (arith, bridges-in-table made, root-bound), labels-room, search rules)

pub returns : goal.returns
returns c = c.tree_in_network.ensures.of_plan _ c.make_network.ensures.network
