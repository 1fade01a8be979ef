-- `tree::search::settle_all` starts with the root and goes on until no bridge waits. Assumes nothing.
use Prim.Native.Nat.{ℕ, ◌≤◌, ◌<◌}
use native.Mathlib.Omega.{arith}
use native.Mathlib.Nat.{le_trans, lt_of_lt_of_le}
use mathlib.Core.Path.{refl, sym, ◌∙◌, subst}
use Rattle.measures.proofs.laws.MeasureLaws.{below, not-below}
use Rattle.labels.specs.Labels.{no_cost}
use Rattle.labels.proofs.laws.NearestLaws.{bounds_start}
use Rattle.tree.proofs.laws.SearchLaws.{search_relaxable, search_starts, search_order, search_finishes}
use Rattle.std.proofs.Common.{rules}
use Rattle.tree.proofs.search.settle_all.Goals as goal

pub begin-requires : goal.begin-requires
begin-requires c =
    let (represented, root-bound, labels-room, path-ids-room, _) = c.requires in (
      omega (arith, root-bound, represented.represents.most),
      omega (arith, labels-room),
      omega (arith, path-ids-room),
      omega (arith, root-bound, represented.represents.size_is, represented.keyed.has_keys),
    )

pub relax_all-requires : goal.relax_all-requires
relax_all-requires c =
    let (represented, root-bound, labels-room, path-ids-room, _) = c.requires in (
      search_relaxable _ _ _ _ _ _ represented _ _ _ _ root-bound labels-room path-ids-room c.begin.ensures,
      bounds_start c.begin.ensures.none_waits,
    )

pub overflow_cast-order : goal.overflow_cast-order
overflow_cast-order c =
    let (represented, root-bound, _, _, _) = c.requires in
    omega (arith, root-bound, represented.represents.most)

pub bounds-order-0 : goal.bounds-order-0
bounds-order-0 c =
    let (_, _, _, _, order-size) = c.requires in
    omega (arith, order-size)

pub slice_bounds-next_waiting-end : goal.slice_bounds-next_waiting-end
slice_bounds-next_waiting-end c =
    let (_, bounds_of) = c.relax_all.ensures in
    sym bounds_of.one_a_group

pub next_waiting-u-requires : goal.next_waiting-u-requires
next_waiting-u-requires c =
    let (relaxed, bounds_of) = c.relax_all.ensures in
    let (_, _, labels-room, _, _) = c.requires in
    (omega (arith, relaxed.same_length, c.begin.ensures.same_labels, labels-room), bounds_of)

pub loop-bounds-init : goal.loop-bounds-init
loop-bounds-init c =
    let (represented, root-bound, labels-room, path-ids-room, order-size) = c.requires in
    let (relaxed, _) = c.relax_all.ensures in
    let (nearest, bounds_of) = c.next_waiting-u.ensures in (
      search_starts _ _ _ _ _ _ represented _ _ _ _ root-bound labels-room path-ids-room c.begin.ensures _ relaxed,
      bounds_of,
      nearest,
      search_order _ _ _ _ _ _ represented _ _ _ _ root-bound labels-room path-ids-room c.begin.ensures _ relaxed
          c.args.order.now order-size,
      refl,
      refl,
    )

pub waits_at-requires : goal.waits_at-requires
waits_at-requires c =
    let (underway, _, nearest, _, _, _) = c.loop-bounds.invariant in
    omega (arith, underway.has_labels, nearest.inside)

pub slice_bounds-advance-end : goal.slice_bounds-advance-end
slice_bounds-advance-end c =
    let (_, bounds_of, _, _, _, _) = c.loop-bounds.invariant in
    sym bounds_of.one_a_group

pub advance-requires : goal.advance-requires
advance-requires c =
    let (underway, bounds_of, nearest, _, _, _) = c.loop-bounds.invariant in (
      record {
        bridges = _;
        underway = underway;
        nearest = nearest;
        waits =
            subst (λ (k : ℕ). k < no_cost) c.waits_at.ensures
            (lt_of_lt_of_le (below c.is_below.ensures c.loop-bounds-test.true) (omega arith));
      },
      bounds_of,
    )

pub overflow_cast-order-in-loop-bounds : goal.overflow_cast-order-in-loop-bounds
overflow_cast-order-in-loop-bounds c =
    let (_, _, nearest, _, _, _) = c.loop-bounds.invariant in
    omega (arith, nearest.inside)

pub bounds-order-count : goal.bounds-order-count
bounds-order-count c =
    let (advanced, _) = c.advance.ensures in
    let (underway, _, _, in_order, _, _) = c.loop-bounds.invariant in
    omega (arith, in_order.size, in_order.room, underway.represented.represents.most, advanced.fewer_open _ underway)

pub overflow_add-count : goal.overflow_add-count
overflow_add-count c =
    let (underway, _, _, in_order, _, _) = c.loop-bounds.invariant in
    omega (arith, in_order.room, underway.represented.represents.most)

pub slice_bounds-next_waiting-end-in-loop-bounds : goal.slice_bounds-next_waiting-end-in-loop-bounds
slice_bounds-next_waiting-end-in-loop-bounds c =
    let (_, bounds_of) = c.advance.ensures in
    sym bounds_of.one_a_group

pub next_waiting-u-requires-in-loop-bounds : goal.next_waiting-u-requires-in-loop-bounds
next_waiting-u-requires-in-loop-bounds c =
    let (advanced, bounds_of) = c.advance.ensures in
    let (underway, _, _, _, _, _) = c.loop-bounds.invariant in
    (omega (arith, (advanced.goes_on _ underway).has_labels), bounds_of)

pub loop-bounds-smaller : goal.loop-bounds-smaller
loop-bounds-smaller c =
    let (advanced, _) = c.advance.ensures in
    let (underway, _, _, _, _, _) = c.loop-bounds.invariant in
    advanced.fewer_open _ underway

pub loop-bounds-preserved : goal.loop-bounds-preserved
loop-bounds-preserved c =
    let (underway, _, _, in_order, _, _) =
    c.loop-bounds.invariant in
    let (advanced, _) = c.advance.ensures in
    let (nearest, bounds_of) = c.next_waiting-u-in-loop-bounds.ensures in
    (advanced.goes_on _ underway, bounds_of, nearest, advanced.next_in_order _ underway _ _ in_order, search rules, search rules)

pub shape_of-labels : goal.shape_of-labels
shape_of-labels c =
    let (_, _, _, _, labels_length, _) = c.loop-bounds.invariant in
    let (relaxed, _) = c.relax_all.ensures in
    labels_length ∙ relaxed.same_length ∙ c.begin.ensures.same_labels

pub shape_of-path_ids : goal.shape_of-path_ids
shape_of-path_ids c =
    let (_, _, _, _, _, path-ids-length) = c.loop-bounds.invariant in
    path-ids-length ∙ c.begin.ensures.same_path_ids

pub shape_of-order : goal.shape_of-order
shape_of-order c =
    let (_, _, _, in_order, _, _) = c.loop-bounds.invariant in
    let (_, _, _, _, order-size) = c.requires in
    in_order.size ∙ sym order-size

pub returns : goal.returns
returns c =
    let (underway, _, nearest, in_order, _, _) = c.loop-bounds.invariant in
    search_finishes _ _ _ _ _ _ underway nearest in_order
    (subst (λ (k : ℕ). no_cost ≤ k) c.waits_at.ensures
    (le_trans (omega arith) (not-below c.is_below.ensures c.loop-bounds-test.false)))
