-- The records of a table by their numbers within their kind, and the ECT index of a VID (01, "The table"). Assumes nothing.
use Rattle.std.specs.Prelude.{ℕ, List}
use Rattle.std.proofs.Math.Option.{Option, none, some}
use Rattle.rule.specs.Records.{Bridge, HalfLink, Vid, Member, Traffic, bridge_of, half_link_of, vid_of, member_of, traffic_of}
use Rattle.table.specs.declared.shape.Shape.{Shape}
use Rattle.table.specs.Positions.{record_at, half_links_from, vids_from, members_from, traffic_from}

abbrev pub bridge_number : List ℕ → ℕ → Bridge
bridge_number ws d = record_at bridge_of 3 0 ws d

abbrev pub half_link_number : List ℕ → Shape → ℕ → HalfLink
half_link_number ws s i = record_at half_link_of 3 (half_links_from s) ws i

abbrev pub vid_number : List ℕ → Shape → ℕ → Vid
vid_number ws s k = record_at vid_of 1 (vids_from s) ws k

abbrev pub member_number : List ℕ → Shape → ℕ → Member
member_number ws s j = record_at member_of 2 (members_from s) ws j

abbrev pub traffic_number : List ℕ → Shape → ℕ → Traffic
traffic_number ws s i = record_at traffic_of 2 (traffic_from s) ws i

-- The ECT index of a VID's record, or 0 where it has none.
abbrev pub index_of : Option Vid → ℕ
index_of none = 0
index_of (some v) = v.index
