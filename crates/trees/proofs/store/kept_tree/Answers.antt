-- `trees::store::kept_tree` makes the tree and sets the mark where the line does not hold it. Assumes nothing.
use native.Mathlib.Omega.{arith}
use Rattle.trees.proofs.laws.StoreLaws.{tree-there, tree_added}
use Rattle.trees.proofs.store.kept_tree.Goals as goal

pub returns-then-store-at : goal.returns-then-store-at
returns-then-store-at c =
    let (_, index-least, index-bound, root-bound) = c.requires.network in
    let (_, trees-kept) = c.requires.in_bounds in
    let (line-of-is, line-of-bound) = c.line_of-line.ensures in record {
      trees_kept = trees-kept;
      result_in_bounds = (
        omega (arith, trees-kept.has_line, line-of-bound),
        tree-there trees-kept _ _ index-least index-bound root-bound _ line-of-is c.if-store-at.true,
      );
    }

pub returns : goal.returns
returns c =
    let (is-network, index-least, index-bound, root-bound) = c.requires.network in
    let (_, trees-kept) = c.requires.in_bounds in
    let (_, line-of-bound) = c.line_of-line.ensures in let both = tree_added trees-kept _ _ index-least index-bound root-bound is-network.network.represents.most _ line-of-bound _
    (omega (arith, c.tree_in_network.auto)) c.tree_in_network.ensures in record {
      trees_kept = both.0;
      result_in_bounds = both.1;
    }
