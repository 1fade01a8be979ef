-- `running::calls::keep` gives the numbers of a state, and asks the tree call for its tree. Assumes nothing.
use native.Mathlib.Omega.{arith}
use Rattle.edits.specs.Running.{watching}
use Rattle.running.proofs.laws.CallLaws.{given-short, kept-given, kept-refused}
use Rattle.running.proofs.calls.keep.Goals as goal

pub overflow_cast-result : goal.overflow_cast-result
overflow_cast-result c =
    omega (
      arith,
      given-short c.args.table.now _ _ _ _ _ c.tree-given.result _ _ _ _ c.in-Given.is
          c.tree-given.ensures,
    )

pub returns-in-Given : goal.returns-in-Given
returns-in-Given c =
    kept-given (watching c.args.table.now c.args.bridge c.args.vid c.args.changes) _ _ _
    c.tree-given.result _ _ _ _ c.in-Given.is c.tree-given.ensures

pub returns-in-Refused : goal.returns-in-Refused
returns-in-Refused c =
    kept-refused (watching c.args.table.now c.args.bridge c.args.vid c.args.changes) _ _ _
    c.tree-given.result _ _ _ _ _ _ c.in-Refused.is c.tree-given.ensures
