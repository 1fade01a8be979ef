-- The parts of a bridge's list by the rows kept: the group entries for one transmitter, the part of a VID, and the whole.
-- Assumes nothing.
use Rattle.std.specs.Prelude.{ℕ, List, [], ◌++◌, cond, ◌&&◌, eqb, drop}
use Rattle.lists.specs.Appending.{each_of}
use Rattle.rule.specs.Records.{Vid, Member}
use Rattle.rule.specs.Entries.{group_address}
use Rattle.table.specs.declared.shape.Shape.{Shape}
use Rattle.egress.specs.Rows.{egress_row_at}
use Rattle.table.specs.Numbered.{bridge_number, vid_number, member_number}
use Rattle.entry_words.specs.Words.{individual_words, ports_behind, group_words}

-- The words of the group entries for the transmitter `m`, of the group entries for the member `j`, and of all group entries.
unfoldable pub transmitter_part : List ℕ → Shape → List ℕ → List ℕ → Vid → Member → List ℕ
transmitter_part ws s rows ports v m =
    group_words ports (ports_behind ws s (drop (egress_row_at rows v.index m.bridge) rows) m) v.vid
    (group_address (bridge_number ws m.bridge).sp_source_id m.isid)

unfoldable pub member_part : List ℕ → Shape → List ℕ → List ℕ → Vid → ℕ → List ℕ
member_part ws s rows ports v j =
    cond ((member_number ws s j).transmits && eqb (member_number ws s j).vid v.vid) (transmitter_part ws s rows ports v (member_number ws s j)) []

unfoldable pub group_part : List ℕ → Shape → List ℕ → List ℕ → Vid → List ℕ
group_part ws s rows ports v = each_of (member_part ws s rows ports v) s.members

-- The words of the VID `k`, and of all VIDs.
unfoldable pub vid_part : List ℕ → Shape → List ℕ → List ℕ → ℕ → ℕ → List ℕ
vid_part ws s rows ports b k =
    individual_words ws s (drop (egress_row_at rows (vid_number ws s k).index b) rows) (vid_number ws s k).vid ++ group_part ws s rows ports (vid_number ws s k)

unfoldable pub whole_list : List ℕ → Shape → List ℕ → List ℕ → ℕ → List ℕ
whole_list ws s rows ports b = each_of (vid_part ws s rows ports b) s.vids
