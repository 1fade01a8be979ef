-- `labels::relax::relax` stores the offer where it is the lower, and lowers the bound. Assumes nothing.
use native.Mathlib.Omega.{arith}
use lib.ListN.{length-set}
use Rattle.labels.proofs.laws.NearestLaws.{bounds_lowered}
use Rattle.labels.proofs.laws.RelaxingLaws.{offer-refused, offer-taken}
use Rattle.std.proofs.Common.{ap}
use Rattle.std.specs.Prelude.{not}
use Rattle.labels.proofs.relax.relax.Goals as goal

pub returns-then-not-is_lower_offer : goal.returns-then-not-is_lower_offer
returns-then-not-is_lower_offer c =
    let (_, bounds_of) = c.requires in (
      offer-refused c.args.labels.now c.args.path_ids.now c.args.via c.args.v
          c.args.cost.0 c.args.hops.0 c.is_lower_offer.result c.is_lower_offer.ensures
          (ap not c.if-not-is_lower_offer.true),
      bounds_of,
    )

pub bounds-labels-v-2 : goal.bounds-labels-v-2
bounds-labels-v-2 c =
    let (comparable, _) = c.requires in
    simp length-set (omega (arith, comparable.has_labels, comparable.v_in))

pub bounds-labels-v-3 : goal.bounds-labels-v-3
bounds-labels-v-3 c =
    let (comparable, _) = c.requires in
    simp length-set (omega (arith, comparable.has_labels, comparable.v_in))

pub bounds-labels-v-4 : goal.bounds-labels-v-4
bounds-labels-v-4 c =
    let (comparable, _) = c.requires in
    simp length-set (omega (arith, comparable.has_labels, comparable.v_in))

pub returns : goal.returns
returns c =
    let (comparable, bounds_of) = c.requires in (
      offer-taken c.args.labels.now c.args.path_ids.now c.args.via c.args.v
          c.args.cost.0 c.args.hops.0 c.is_lower_offer.result
          c.is_lower_offer.ensures (ap not c.if-not-is_lower_offer.false),
      bounds_lowered bounds_of c.args.via c.args.v c.args.cost.0 c.args.hops.0
          comparable.v_in comparable.has_labels c.lower_bound.ensures,
    )
