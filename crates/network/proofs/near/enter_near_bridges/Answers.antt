-- `network::near::enter_near_bridges` enters the near bridges one after the other. Assumes nothing.
use native.Mathlib.Omega.{arith}
use mathlib.Core.Path.{sym, ◌∙◌}
use Rattle.readers.specs.Readers.{half_link_values}
use Rattle.network.proofs.laws.VisitLaws.{entering_starts, entering_goes_on, entering_ends}
use Rattle.network.proofs.near.enter_near_bridges.Goals as goal

pub loop-i-init : goal.loop-i-init
loop-i-init c =
    let (_, _, indexed) = c.requires in
    entering_starts c.args.table.now c.args.s indexed

pub half_link-h-requires : goal.half_link-h-requires
half_link-h-requires c =
    let (whole, _, _) = c.requires in
    (whole, c.loop-i-test.true)

pub enter-requires : goal.enter-requires
enter-requires c =
    let (_, few, _) = c.requires in
    (c.loop-i.invariant.keyed.indexed, omega (arith, c.loop-i-test.true, few))

pub loop-i-preserved : goal.loop-i-preserved
loop-i-preserved c =
    entering_goes_on c.loop-i.invariant c.loop-i-test.true (half_link_values c.half_link-h.result)
    c.half_link-h.ensures c.enter.ensures

pub shape_of-near_index : goal.shape_of-near_index
shape_of-near_index c =
    let (_, _, indexed) = c.requires in
    c.loop-i.invariant.keyed.indexed.size ∙ sym indexed.size

pub returns : goal.returns
returns c = entering_ends c.loop-i.invariant c.loop-i-test.false
