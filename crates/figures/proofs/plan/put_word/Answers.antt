-- `figures::plan::put_word` stores within the bytes. Assumes nothing.
use lib.ListN.{length-set}
use native.Mathlib.Omega.{arith}
use Rattle.figures.proofs.plan.put_word.Goals as goal

pub bounds-table-n-2 : goal.bounds-table-n-2
bounds-table-n-2 c = simp length-set (omega (arith, c.requires))

pub bounds-table-n-3 : goal.bounds-table-n-3
bounds-table-n-3 c = simp length-set (omega (arith, c.requires))

pub bounds-table-n-4 : goal.bounds-table-n-4
bounds-table-n-4 c = simp length-set (omega (arith, c.requires))
