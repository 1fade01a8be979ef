-- `network::hops::list_hops` gathers the hops of the bridge and writes their costs and ports. Assumes nothing.
use native.Mathlib.Omega.{arith}
use Rattle.network.proofs.laws.VisitLaws.{bridge-visited}
use Rattle.network.proofs.laws.RowLaws.{kept_on, no_hops}
use Rattle.network.proofs.laws.NeighbourLaws.{have_hops, row_few, hops_of_row}
use Rattle.network.proofs.hops.list_hops.Goals as goal

pub gather_hops-to-requires : goal.gather_hops-to-requires
gather_hops-to-requires c =
    let (checked, link-index, near-index, u-bound, visited, network-room) = c.requires in
    (checked, link-index, near-index, u-bound, visited, no_hops, network-room)

pub write_hops-requires : goal.write_hops-requires
write_hops-requires c =
    let (checked, _, near-index, _, _, network-room) = c.requires in
    let gathering = c.gather_hops-to.ensures in (
      gathering.in_order,
      row_few checked gathering near-index.keyed.indexed.few,
      omega (arith, gathering.kept.same_length, network-room),
      have_hops checked gathering,
    )

pub returns : goal.returns
returns c =
    let (checked, _, near-index, _, _, _) = c.requires in
    let gathering = c.gather_hops-to.ensures in
    let written = c.write_hops.ensures in (
      hops_of_row checked gathering near-index.keyed.indexed.few written,
      bridge-visited gathering.visited (omega arith) c.args.s.half_links,
      kept_on gathering.kept written.kept,
    )
