-- `tree::settle::begin` clears the labels and settles the root. Assumes nothing.
use native.Mathlib.Omega.{arith}
use lib.ListN.{length-set}
use Rattle.tree.proofs.laws.SettlingLaws.{begun}
use Rattle.tree.proofs.settle.begin.Goals as goal

pub bounds-labels-root : goal.bounds-labels-root
bounds-labels-root c = omega (arith, c.requires, c.clear.ensures.same_length)

pub bounds-labels-root-2 : goal.bounds-labels-root-2
bounds-labels-root-2 c = simp length-set (omega (arith, c.requires, c.clear.ensures.same_length))

pub bounds-labels-root-3 : goal.bounds-labels-root-3
bounds-labels-root-3 c = simp length-set (omega (arith, c.requires, c.clear.ensures.same_length))

pub bounds-labels-root-4 : goal.bounds-labels-root-4
bounds-labels-root-4 c = simp length-set (omega (arith, c.requires, c.clear.ensures.same_length))

pub returns : goal.returns
returns c =
    let (root-bound, labels-room, path-ids-room, _) = c.requires in
    begun _ _ _ _ _ root-bound labels-room path-ids-room c.clear.ensures
