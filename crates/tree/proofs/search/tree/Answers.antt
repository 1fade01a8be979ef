-- `tree::search::tree` settles all bridges that have a path and leaves their order in the labels. Assumes nothing.
use native.Mathlib.Omega.{arith}
use mathlib.Core.Path.{sym}
use Rattle.tree.proofs.laws.SearchLaws.{search_ends}
use Rattle.tree.proofs.search.tree.Goals as goal

pub slice_bounds-note_order-end : goal.slice_bounds-note_order-end
slice_bounds-note_order-end c = sym c.settle_all-count.ensures.in_order.size

pub note_order-requires : goal.note_order-requires
note_order-requires c =
    let finished = c.settle_all-count.ensures in
    let most = finished.underway.represented.represents.most in (
      omega (arith, finished.in_order.size, finished.in_order.room, most),
      omega (arith, finished.underway.has_labels, finished.in_order.room, most),
    )

pub returns : goal.returns
returns c = search_ends _ _ _ _ _ _ c.settle_all-count.ensures c.note_order.ensures
