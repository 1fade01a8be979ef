-- What the loops of `branches::branches::write_branches` keep true.
use Rattle.branches.specs.Branches.{branch_at}
use Rattle.branches.proofs.laws.BranchLaws.{Filling}
use Rattle.branches.proofs.branches.write_branches.Given as goal

abbrev pub invariant-loop-u : goal.invariant-loop-u
invariant-loop-u l = Filling (λ u'. (branch_at l.labels u').cost) l.initial.costs l.costs l.n l.u × Filling (λ u'. (branch_at l.labels u').hops) l.initial.hops l.hops l.n l.u × Filling (λ u'. (branch_at l.labels u').last) l.initial.lasts l.lasts l.n l.u
