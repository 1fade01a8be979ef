-- The rows that the entries of a bridge need: that of its own paths for each VID, and that of the paths from each transmitting member.
-- Assumes nothing.
use Rattle.std.specs.Prelude.{ℕ, ◌+◌, ◌≤◌, ◌<◌, ◌≡◌, List, true, cond, length, drop}
use Rattle.rule.specs.Words.{words_of}
use Rattle.rule.specs.Records.{Member}
use Rattle.rule.specs.Plan.{Plan, vid_record}
use Rattle.table.specs.declared.shape.Shape.{Shape}
use Rattle.table.specs.Positions.{plan_at}
use Rattle.network.specs.Layout.{bridges_in}
use Rattle.network.specs.Networks.{TableNetwork}
use Rattle.egress.specs.Leaving.{PlanHops, EgressRow}
use Rattle.egress.specs.Rows.{egress_row_at, HasEgressRow}
use Rattle.table.specs.Numbered.{vid_number, member_number, index_of}

-- What the entries of the bridge `b` are made from: the network of the table, and the ports of the bridge's hops.
pub record HopsReady (t : List ℕ) (s : Shape) (net hops : List ℕ) (b : ℕ) : Type 0 where
  pub table_network : TableNetwork t s net
  pub hop_ports : PlanHops (plan_at (words_of t) s) (bridges_in net) b hops
  pub has_hops : 64 ≤ length hops
  pub known : b < s.bridges

-- The bridge's own rows for the first `k` VIDs are kept.
pub record OwnEgressRows (t : List ℕ) (s : Shape) (b : ℕ) (rows : List ℕ) (k : ℕ) : Type 0 where
  pub own : (i : ℕ) → i < k → HasEgressRow rows (vid_number (words_of t) s i).index b

-- Every row of the first `n` bridges is inside the list.
pub record EgressRowsInside (n : ℕ) (rows : List ℕ) : Type 0 where
  pub inside : (index a : ℕ) → 1 ≤ index → index ≤ 16 → a < n → egress_row_at rows index a + 64 ≤ length rows
  pub has_slots : 1024 ≤ length rows

-- Every row that the entries of `b` need is kept.
pub record EgressRowsReady (t : List ℕ) (s : Shape) (b : ℕ) (rows : List ℕ) : Type 0 where
  pub places : EgressRowsInside s.bridges rows
  pub own : (k : ℕ) → k < s.vids
      → EgressRow (plan_at (words_of t) s) (vid_number (words_of t) s k).index b b (drop (egress_row_at rows (vid_number (words_of t) s k).index b) rows)
  pub others : (k j : ℕ) → k < s.vids → j < s.members → (member_number (words_of t) s j).transmits ≡ true
      → (member_number (words_of t) s j).vid ≡ (vid_number (words_of t) s k).vid
      → EgressRow (plan_at (words_of t) s) (vid_number (words_of t) s k).index (member_number (words_of t) s j).bridge b
      (drop (egress_row_at rows (vid_number (words_of t) s k).index (member_number (words_of t) s j).bridge) rows)

-- The ECT index of the VID of a member that transmits, 0 of one that does not.
abbrev pub transmitter_index : Plan → Member → ℕ
transmitter_index p m = cond m.transmits (index_of (vid_record p m.vid)) 0
