-- `tree::search::advance` settles the nearest bridge and relaxes its neighbours where it may lie between. Assumes nothing.
use Rattle.tree.proofs.laws.SearchLaws.{search_settleable, search_marked, search_relaxable_on, search_offers, search_keeps_back}
use Rattle.tree.proofs.search.advance.Goals as goal

pub settle-requires : goal.settle-requires
settle-requires c =
    let (advanceable, _) = c.requires in
    search_settleable advanceable

pub may_lie_between-requires : goal.may_lie_between-requires
may_lie_between-requires c =
    let (advanceable, _) = c.requires in
    search_marked advanceable

pub relax_all-requires : goal.relax_all-requires
relax_all-requires c =
    let (advanceable, bounds_of) = c.requires in
    let (labels-is, path-ids-is) = c.settle.ensures in
    search_relaxable_on advanceable labels-is path-ids-is bounds_of

pub returns-then-may_lie_between : goal.returns-then-may_lie_between
returns-then-may_lie_between c =
    let (advanceable, _) = c.requires in
    let (labels-is, path-ids-is) = c.settle.ensures in
    let (relaxed, bounds_of) = c.relax_all.ensures in (
      search_offers advanceable labels-is path-ids-is c.may_lie_between.ensures c.if-may_lie_between.true relaxed,
      bounds_of,
    )

pub returns-else-may_lie_between : goal.returns-else-may_lie_between
returns-else-may_lie_between c =
    let (advanceable, bounds_of) = c.requires in
    let (labels-is, path-ids-is) = c.settle.ensures in (
      search_keeps_back advanceable labels-is path-ids-is c.may_lie_between.ensures c.if-may_lie_between.false,
      (search_relaxable_on advanceable labels-is path-ids-is bounds_of).1,
    )
