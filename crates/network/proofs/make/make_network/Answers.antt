-- `network::make::make_network` lists the hops, writes marks and identifiers behind them and the number of bridges in front. Assumes nothing.
use native.Mathlib.Omega.{arith}
use mathlib.Core.Path.{sym, ◌∙◌}
use lib.ListN.{length-take, length-drop}
use Rattle.key_index.proofs.laws.IndexLaws.{no_keys_yet}
use Rattle.verdict.proofs.laws.CheckedLaws.{few-bridges}
use Rattle.network.proofs.laws.NetworkLaws.{made-length, network_of_table}
use Rattle.network.proofs.make.make_network.Goals as goal

pub enter_near_bridges-requires : goal.enter_near_bridges-requires
enter_near_bridges-requires c =
    let (checked, link-index, _) = c.requires in
    (checked.whole, link-index.indexed.few, no_keys_yet)

pub write_bridges-requires : goal.write_bridges-requires
write_bridges-requires c =
    let (checked, _, network-length) = c.requires in
    let (_, same-length-listed) = c.list_neighbours.ensures in (
      checked.whole,
      few-bridges checked,
      simp (length-take, length-drop) (omega (arith, same-length-listed, network-length, few-bridges checked)),
    )

pub shape_of-network : goal.shape_of-network
shape_of-network c =
    let (checked, _, network-length) = c.requires in
    let (listed, same-length-listed) = c.list_neighbours.ensures in
    made-length checked listed (same-length-listed ∙ network-length) c.write_bridges.ensures
    (omega (arith, c.write_bridges.auto))
    ∙ sym network-length

pub returns : goal.returns
returns c =
    let (checked, _, network-length) = c.requires in
    let (listed, same-length-listed) = c.list_neighbours.ensures in
    record {
      checked = checked;
      network =
          network_of_table checked listed (same-length-listed ∙ network-length) c.write_bridges.ensures
          (omega (arith, c.write_bridges.auto));
    }
