-- The place of each bridge in a tree by the tree's labels (the tree call: docs/DECISIONS.md). Assumes nothing.
use Rattle.std.specs.Prelude.{ℕ, ◌≡◌, List, map, cond, eqb}
use Rattle.lists.specs.Lists.{rising, spliced}
use Rattle.rule.specs.Calls.{Branch}
use Rattle.labels.specs.Labels.{no_cost, Label, label_at}

-- A number of a bridge's place: one of its label's, or `absent` where it has no path.
abbrev pub branch_number : Label → ℕ → ℕ → ℕ
branch_number b number absent = cond (eqb b.cost no_cost) absent number

abbrev pub branch_at : List ℕ → ℕ → Branch
branch_at labels u = record {
  cost = branch_number (label_at labels u) (label_at labels u).cost 0;
  hops = branch_number (label_at labels u) (label_at labels u).hops 0;
  last = branch_number (label_at labels u) (label_at labels u).next 65535;
}

-- The places of the first `n` bridges.
abbrev pub labelled_branches : List ℕ → ℕ → List Branch
labelled_branches labels n = map (branch_at labels) (rising 0 n)

-- The places of the first `n` bridges stand at the fronts of three lists, which hold what they held behind them.
pub record BranchesWritten (labels : List ℕ) (n : ℕ) (costs hop_counts lasts costs' hop_counts' lasts' : List ℕ) : Type 0 where
  pub costs_are : costs' ≡ spliced costs 0 (map (λ u. (branch_at labels u).cost) (rising 0 n))
  pub hops_are : hop_counts' ≡ spliced hop_counts 0 (map (λ u. (branch_at labels u).hops) (rising 0 n))
  pub lasts_are : lasts' ≡ spliced lasts 0 (map (λ u. (branch_at labels u).last) (rising 0 n))
