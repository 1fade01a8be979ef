-- `network::bridges::write_bridges` writes the mark of each bridge and the two words of its identifier without the extension. Assumes nothing.
use lib.ListN.{length-set}
use mathlib.Core.Path.{◌∙◌}
use native.Mathlib.Omega.{arith}
use Rattle.network.proofs.laws.BridgeLaws.{mark_of_flag, writing-starts, writing-on, writing-ends}
use Rattle.network.proofs.bridges.write_bridges.Goals as goal

pub loop-u-init : goal.loop-u-init
loop-u-init c = writing-starts _ _ _

pub bounds-words-u : goal.bounds-words-u
bounds-words-u c =
    let (_, bridges-bound, words-room) = c.requires in
    omega (arith, c.loop-u.invariant.same_length, c.loop-u-test.true, bridges-bound, words-room)

pub bounds-words-u-in-loop-u : goal.bounds-words-u-in-loop-u
bounds-words-u-in-loop-u c =
    let (_, _, words-room) = c.requires in
    simp length-set (omega (arith, c.loop-u.invariant.same_length, c.loop-u-test.true, words-room))

pub bounds-words-u-in-loop-u-2 : goal.bounds-words-u-in-loop-u-2
bounds-words-u-in-loop-u-2 c =
    let (_, _, words-room) = c.requires in
    simp length-set (omega (arith, c.loop-u.invariant.same_length, c.loop-u-test.true, words-room))

pub loop-u-preserved : goal.loop-u-preserved
loop-u-preserved c =
    let (_, bridges-bound, words-room) = c.requires in
    writing-on c.loop-u.invariant _ _ _ c.loop-u-test.true bridges-bound words-room c.bridge-b.ensures (c.from.ensures ∙ mark_of_flag _)
    c.without_extension-identifier.ensures

pub returns : goal.returns
returns c = writing-ends c.loop-u.invariant c.loop-u-test.false
