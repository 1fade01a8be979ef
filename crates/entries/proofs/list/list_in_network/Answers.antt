-- `entries::list::list_in_network` lists the ports, keeps the rows and writes the parts. Assumes nothing.
use native.Mathlib.Omega.{arith}
use Prim.Native.Nat.{ℕ}
use lib.ListN.{length-take, get_or-replicate}
use Rattle.verdict.proofs.laws.CheckedLaws.{few-bridges}
use Rattle.network.proofs.laws.NetworkLaws.{bridges-in-table, is_network}
use Rattle.egress.proofs.laws.RowLaws.{no_rows}
use Rattle.entries.proofs.laws.WholeLaws.{in-network, in_range, hops-ready, whole_room, whole-written}
use Rattle.entries.proofs.list.list_in_network.Goals as goal

pub hop_ports-requires : goal.hop_ports-requires
hop_ports-requires c =
    let (table-network, b-bound, _, _, _) = c.requires in (
      is_network table-network,
      in-network table-network _ b-bound,
      omega (arith, bridges-in-table table-network, few-bridges table-network.checked),
    )

pub rising_ports-count-requires : goal.rising_ports-count-requires
rising_ports-count-requires c =
    let (table-network, b-bound, _, _, _) = c.requires in
    let few = few-bridges table-network.checked in
    (in_range table-network _ b-bound c.hop_ports.ensures, few, omega (arith, few), omega (arith, few))

pub keep_egress_rows-requires : goal.keep_egress_rows-requires
keep_egress_rows-requires c =
    let (table-network, b-bound, path-ids-room, trees-kept, _) = c.requires in (
      hops-ready table-network _ b-bound c.hop_ports.ensures (omega arith),
      path-ids-room,
      trees-kept,
      no_rows _ _ _ _ (omega arith) (omega (arith, bridges-in-table table-network, few-bridges table-network.checked))
          (λ i l. get_or-replicate {A = ℕ} 6144 i 0 0 (omega arith)),
    )

pub slice_bounds-whole_list-end-2 : goal.slice_bounds-whole_list-end-2
slice_bounds-whole_list-end-2 c = simp length-take (omega (arith, c.rising_ports-count.ensures))

pub whole_list-requires : goal.whole_list-requires
whole_list-requires c =
    let (table-network, b-bound, _, _, words-room) = c.requires in
    let egress-rows-ready = c.keep_egress_rows.ensures.egress_rows_ready in
    let (rising-ports, _) = c.rising_ports-count.ensures in record {
      checked = (table-network.checked, egress-rows-ready.places, b-bound);
      room = whole_room table-network _ b-bound c.hop_ports.ensures rising-ports egress-rows-ready c.args.words.now
          words-room;
    }

pub returns : goal.returns
returns c =
    let (table-network, b-bound, _, _, _) = c.requires in
    let (rising-ports, _) = c.rising_ports-count.ensures in
    let egress-rows-ready = c.keep_egress_rows.ensures.egress_rows_ready in
    let trees-kept = c.keep_egress_rows.ensures.trees_kept in record {
      appended = whole-written table-network _ b-bound c.hop_ports.ensures rising-ports egress-rows-ready
          c.whole_list.ensures;
      trees_kept = trees-kept;
    }
