-- `branches::branches::branch_hops` gives the hops of a label, or 0. Assumes nothing.
use mathlib.Core.Path.{refl}
use borrow.Author.Tests.{eq-eqb, ne_eqb}
use Rattle.measures.specs.Measures.{no_path_cost}
use Rattle.measures.proofs.laws.MeasureLaws.{no_path, a_path}
use Rattle.branches.proofs.branches.branch_hops.Goals as goal

pub returns-then-is_no_path : goal.returns-then-is_no_path
returns-then-is_no_path c =
    rw (eq-eqb _ no_path_cost (no_path c.cost_at.ensures c.is_no_path.ensures c.if-is_no_path.true)) refl

pub returns : goal.returns
returns c =
    rw (ne_eqb _ no_path_cost (a_path c.cost_at.ensures c.is_no_path.ensures c.if-is_no_path.false))
    c.hops_at.ensures
