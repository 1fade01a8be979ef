-- `branches::branches::write_branches` writes the three numbers of one place after the other. Assumes nothing.
use Rattle.branches.proofs.laws.BranchLaws.{filling_starts, filling_on, filling_ends}
use Rattle.branches.proofs.branches.write_branches.Goals as goal

pub loop-u-init : goal.loop-u-init
loop-u-init c = (filling_starts _ _ _, filling_starts _ _ _, filling_starts _ _ _)

pub loop-u-preserved : goal.loop-u-preserved
loop-u-preserved c =
    let (filling-λ, the-filling-λ, filling-λ-3) = c.loop-u.invariant in
    let (_, _, costs-room, hops-room, lasts-room) = c.requires in
    let loop-test-taken = c.loop-u-test.true in (
      filling_on filling-λ _ costs-room loop-test-taken c.branch_cost.ensures,
      filling_on the-filling-λ _ hops-room loop-test-taken c.branch_hops.ensures,
      filling_on filling-λ-3 _ lasts-room loop-test-taken c.branch_last.ensures,
    )

pub returns : goal.returns
returns c =
    let (filling-λ, the-filling-λ, filling-λ-3) = c.loop-u.invariant in
    let loop-test-left = c.loop-u-test.false in
    record {
      costs_are = filling_ends filling-λ loop-test-left;
      hops_are = filling_ends the-filling-λ loop-test-left;
      lasts_are = filling_ends filling-λ-3 loop-test-left;
    }
