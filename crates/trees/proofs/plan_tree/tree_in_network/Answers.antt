-- `trees::plan_tree::tree_in_network` makes the keys of the ECT index and searches. Assumes nothing.
use native.Mathlib.Omega.{arith}
use Rattle.network.proofs.laws.NetworkLaws.{network-represented, tree_in_network}
use Rattle.trees.proofs.plan_tree.tree_in_network.Goals as goal

pub tree-requires : goal.tree-requires
tree-requires c =
    let (is-network, _, _, root-bound, labels-room, path-ids-room) = c.requires in (
      network-represented c.args.index _ _ c.mask_of-mask.ensures c.write_keys.ensures _
          c.bridges-n.ensures is-network,
      omega (arith, c.bridges-n.ensures, root-bound),
      omega (arith, labels-room),
      omega (arith, path-ids-room),
    )

pub returns : goal.returns
returns c =
    tree_in_network _ _ _ c.mask_of-mask.ensures c.write_keys.ensures _ c.bridges-n.ensures _ _
    c.tree.ensures
