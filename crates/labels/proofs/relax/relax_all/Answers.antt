-- `labels::relax::relax_all` offers the way to one neighbour after the other. Assumes nothing.
use native.Mathlib.Omega.{arith}
use mathlib.Core.Path.{sym, ◌∙◌}
use Rattle.labels.proofs.laws.RelaxingLaws.{offering_starts, offering_comparable, offering_goes_on, offering_ends}
use Rattle.labels.proofs.relax.relax_all.Goals as goal

pub plus-hops-requires : goal.plus-hops-requires
plus-hops-requires c =
    let (relaxable, _) = c.requires in
    omega (arith, c.hops_at.ensures, relaxable.hops_in)

pub loop-i-init : goal.loop-i-init
loop-i-init c =
    let (relaxable, bounds_of) = c.requires in
    (offering_starts _ _ _ _ _ _ relaxable, bounds_of)

pub plus-cost-requires : goal.plus-cost-requires
plus-cost-requires c =
    let (relaxable, _) = c.requires in
    let (offering, _) = c.loop-i.invariant in
    omega (arith, c.cost_at-via_cost.ensures, relaxable.cost_in c.loop-i.i offering.after c.loop-i-test.true)

pub overflow_cast-neighbours : goal.overflow_cast-neighbours
overflow_cast-neighbours c =
    let (relaxable, _) = c.requires in
    let (offering, _) = c.loop-i.invariant in
    omega (arith, relaxable.neighbour_in c.loop-i.i offering.after c.loop-i-test.true)

pub relax-requires : goal.relax-requires
relax-requires c =
    let (relaxable, _) = c.requires in
    let (offering, bounds_of) = c.loop-i.invariant in (
      offering_comparable _ _ _ _ _ _ relaxable offering c.loop-i-test.true c.cost_at-via_cost.ensures
          c.hops_at.ensures c.plus-cost.ensures c.plus-hops.ensures,
      bounds_of,
    )

pub loop-i-preserved : goal.loop-i-preserved
loop-i-preserved c =
    let (relaxable, _) = c.requires in
    let (offering, _) = c.loop-i.invariant in
    let (labels-is, bounds_of) = c.relax.ensures in (
      offering_goes_on _ _ _ _ _ _ relaxable offering c.loop-i-test.true c.cost_at-via_cost.ensures
          c.hops_at.ensures c.plus-cost.ensures c.plus-hops.ensures labels-is,
      bounds_of,
    )

pub shape_of-labels : goal.shape_of-labels
shape_of-labels c =
    let (offering, _) = c.loop-i.invariant in
    offering.same_length

pub shape_of-bounds : goal.shape_of-bounds
shape_of-bounds c =
    let (_, bounds_of) = c.loop-i.invariant in
    let (_, the-bounds-of) = c.requires in
    bounds_of.one_a_group ∙ sym the-bounds-of.one_a_group

pub returns : goal.returns
returns c =
    let (relaxable, _) = c.requires in
    let (offering, bounds_of) = c.loop-i.invariant in
    (offering_ends _ _ _ _ _ _ relaxable offering c.loop-i-test.false, bounds_of)
