-- The parts of a bridge's list by the rows kept are those of the definitions (01, "Entries"): the group entries for one transmitter, the
-- part of a VID, and the whole. Assumes nothing.
use Prim.Native.Nat.{ℕ, ◌+◌, ◌-◌, ◌≤◌, ◌<◌}
use Rattle.std.proofs.Common.{arith, ◌∙◌, subst, eqb→eq, length-take, length-drop, length-append, eq-eqb, ne_eqb}
use Rattle.std.specs.Prelude.{◌≡◌, Bool, ◌&&◌, T, length, take}
use Rattle.std.proofs.Math.Path.{refl, sym, ap}
use mathlib.Core.List.{List, [], ◌++◌, map, flat_map}
use Rattle.std.proofs.Math.Bool.{true, false, cond}
use Rattle.std.proofs.Math.Dec.{eqb}
use Rattle.std.proofs.Math.ListN.{drop}
use Rattle.lists.specs.Lists.{rising, selected}
use Rattle.lists.proofs.laws.NumberLaws.{first_of, last_of, is_true}
use Rattle.lists.proofs.laws.SelectedLaws.{rising-in}
use Rattle.lists.proofs.laws.GivenLaws.{flat_map-map, flat_map-flat_map, flat_map_append, flat_map-selected, flat_map-same}
use Rattle.lists.specs.Appending.{Appended, Room}
use Rattle.lists.proofs.laws.AppendingLaws.{front_is, appended_nothing, appended-both, appended-length}
use Rattle.rule.specs.Words.{words_of}
use Rattle.rule.specs.Records.{Bridge, Vid, Member}
use Rattle.rule.specs.Plan.{Plan, bridge_at}
use Rattle.rule.specs.Entries.{entry_words, individual_entries, group_address, receiver_ports, listed_ports, group_entry, group_entries, entries_of, entry_list_of}
use Rattle.rule.proofs.laws.OneRecord.{listed-bridge}
use Rattle.table.specs.declared.shape.Shape.{Shape}
use Rattle.table.specs.Positions.{records_at, plan_at}
use Rattle.readers.proofs.laws.WordLaws.{part_from}
use Rattle.egress.proofs.laws.PlanPortLaws.{PlanPorts}
use Rattle.egress.specs.Rows.{egress_row_at}
use Rattle.table.specs.Numbered.{bridge_number, vid_number, member_number}
use Rattle.verdict.specs.Examination.{Checked}
use Rattle.verdict.proofs.laws.CheckedLaws.{bridges-counted}
use Rattle.entry_words.specs.Words.{individual_words, ports_behind, group_words}
use Rattle.entries.proofs.laws.PlanWords.{vid_words, member_words, bridge_is, individual-words, group-words}
use Rattle.entry_rows.specs.Needed.{EgressRowsInside, EgressRowsReady}
use Rattle.entry_rows.proofs.laws.NeededLaws.{vid-fits, member-fits}
use Rattle.entries.specs.Parts.{transmitter_part, member_part, group_part, vid_part, whole_list}

module _ {t : List ℕ} {s : Shape} (R : Checked t s) {b : ℕ} {rows : List ℕ} (W : EgressRowsReady t s b rows) {ports : List ℕ}
    (P : PlanPorts (plan_at (words_of t) s) b ports) (known : b < s.bridges) where
  abbrev p : Plan
  p = plan_at (words_of t) s

  module _ (k : ℕ) (l : k < s.vids) where
    abbrev v : Vid
    v = vid_number (words_of t) s k

    transmitter_is : (j : ℕ) → j < s.members → T ((member_number (words_of t) s j).transmits && eqb (member_number (words_of t) s j).vid v.vid)
        → transmitter_part (words_of t) s rows ports v (member_number (words_of t) s j) ≡ member_words p b v (member_number (words_of t) s j)
    unfolding transmitter_part
    transmitter_is j h e =
        ap (λ (x : Bridge). group_words ports (ports_behind (words_of t) s (drop (egress_row_at rows v.index m.bridge) rows) m) v.vid (group_address x.sp_source_id m.isid))
        (sym (bridge_is R m.bridge (omega (arith, (member-fits R j h).bridge_known, bridges-counted R))))
        ∙ group-words R v b m
        (W.others k j l h (is_true m.transmits (first_of m.transmits (eqb m.vid v.vid) e)) (eqb→eq m.vid v.vid (last_of m.transmits (eqb m.vid v.vid) e))) P
      where
        m : Member
        m = member_number (words_of t) s j

    member_is : (j : ℕ) → j < s.members
        → member_part (words_of t) s rows ports v j
        ≡ cond ((member_number (words_of t) s j).transmits && eqb (member_number (words_of t) s j).vid v.vid) (member_words p b v (member_number (words_of t) s j)) []
    unfolding member_part
    member_is j h = go ((member_number (words_of t) s j).transmits && eqb (member_number (words_of t) s j).vid v.vid) (transmitter_is j h)
      where
        go : (c : Bool) → (T c → transmitter_part (words_of t) s rows ports v (member_number (words_of t) s j) ≡ member_words p b v (member_number (words_of t) s j))
            → cond c (transmitter_part (words_of t) s rows ports v (member_number (words_of t) s j)) [] ≡ cond c (member_words p b v (member_number (words_of t) s j)) []
        go true f = f tt
        go false f = refl

    group_is : group_part (words_of t) s rows ports v ≡ flat_map entry_words (group_entries p v b p.members)
    unfolding group_part group_entries records_at
    group_is =
        flat_map-same (member_part (words_of t) s rows ports v) (λ j. given (member_number (words_of t) s j)) (rising 0 s.members)
        (λ j i. member_is j (omega (arith, (rising-in 0 s.members j i).1)))
        ∙ sym (flat_map-map given (member_number (words_of t) s) (rising 0 s.members))
        ∙ sym (flat_map-selected (member_words p b v) (λ m. m.transmits && eqb m.vid v.vid) p.members)
        ∙ sym (flat_map-flat_map entry_words (λ m. map (group_entry p v m) (listed_ports (receiver_ports p v b p.members m)))
        (selected (λ m. m.transmits && eqb m.vid v.vid) p.members))
      where
        given : Member → List ℕ
        given m = cond (m.transmits && eqb m.vid v.vid) (member_words p b v m) []

    pub vid_is : vid_part (words_of t) s rows ports b k ≡ vid_words p b v
    unfolding vid_part
    vid_is =
        ap (λ (x : List ℕ). x ++ group_part (words_of t) s rows ports v) (individual-words R v b (W.own k l) known)
        ∙ ap (λ (x : List ℕ). flat_map entry_words (individual_entries p v b) ++ x) group_is
        ∙ sym (flat_map_append entry_words (individual_entries p v b) (group_entries p v b p.members))

  -- "VID by VID in record order".
  pub whole_is : whole_list (words_of t) s rows ports b ≡ entry_list_of p b
  unfolding whole_list entry_list_of entries_of records_at
  whole_is =
      flat_map-same (vid_part (words_of t) s rows ports b) (λ k. vid_words p b (vid_number (words_of t) s k)) (rising 0 s.vids)
      (λ k i. vid_is k (omega (arith, (rising-in 0 s.vids k i).1)))
      ∙ sym (flat_map-map (vid_words p b) (vid_number (words_of t) s) (rising 0 s.vids))
      ∙ sym (flat_map-flat_map entry_words (λ v. individual_entries p v b ++ group_entries p v b p.members) p.vids)

-- The bridge's SPsourceID fits its bits.
pub source_fits : {t : List ℕ} {s : Shape} → Checked t s → (d : ℕ) → d < s.bridges → (bridge_number (words_of t) d).sp_source_id < 1048576
source_fits {t} {s} R d l = omega (
  arith,
  (R.laws.bridges.fits (bridge_at (plan_at (words_of t) s) d) (listed-bridge (plan_at (words_of t) s) R.laws d (omega (arith, bridges-counted R)))).greatest_source,
  ap (λ (x : Bridge). x.sp_source_id) (bridge_is R d l),
)

-- The part of the rows that is lent has a place for every bridge.
pub row-lent : (rows : List ℕ) (place n : ℕ) → place + 64 ≤ length rows → n ≤ 64 → n ≤ length (take (length rows - place) (drop place rows))
row-lent rows place n h k = omega (arith, length-take (length rows - place) (drop place rows), length-drop place rows)

-- The row of a bridge for a VID is inside the list.
pub row-place-inside : {t : List ℕ} {s : Shape} {rows : List ℕ} → Checked t s → EgressRowsInside s.bridges rows → (k : ℕ) → k < s.vids
    → (b : ℕ) → b < s.bridges → (v : Vid) → v ≡ vid_number (words_of t) s k → (place : ℕ) → place ≡ egress_row_at rows v.index b → place + 64 ≤ length rows
row-place-inside R I k l b h v e place f =
    let g = vid-fits R k l
    in omega (
      arith,
      I.inside v.index b (omega (arith, g.least_index, ap (λ (w : Vid). w.index) e)) (omega (arith, g.greatest_index, ap (λ (w : Vid). w.index) e)) h,
    )

module _ (ws : List ℕ) (s : Shape) (rows ports : List ℕ) (v : Vid) (m : Member) (place : ℕ) (e : place ≡ egress_row_at rows v.index m.bridge)
    (lent behind : List ℕ) (count : ℕ) (A : Appended lent 0 (ports_behind ws s (take (length rows - place) (drop place rows)) m) behind count)
    (source : ℕ) (f : source ≡ (bridge_number ws m.bridge).sp_source_id) (addr : ℕ) (g : addr ≡ group_address source m.isid) where
  part_is : group_words ports (take count behind) v.vid addr ≡ transmitter_part ws s rows ports v m
  unfolding transmitter_part
  part_is =
      ap (λ (x : List ℕ). group_words ports x v.vid addr) (front_is A ∙ ap (λ (x : List ℕ). ports_behind ws s x m) (part_from place rows ∙ ap (λ (k : ℕ). drop k rows) e))
      ∙ ap (group_words ports (ports_behind ws s (drop (egress_row_at rows v.index m.bridge) rows) m) v.vid) (g ∙ ap (λ (x : ℕ). group_address x m.isid) f)

  pub transmitter_room : (words : List ℕ) (at : ℕ) → Room words at (transmitter_part ws s rows ports v m) → Room words at (group_words ports (take count behind) v.vid addr)
  transmitter_room words at r = omega (arith, ap (λ (x : List ℕ). length x) part_is)

  pub transmitter_written : {words written : List ℕ} {at end : ℕ} → Appended words at (group_words ports (take count behind) v.vid addr) written end
      → Appended words at (transmitter_part ws s rows ports v m) written end
  transmitter_written {words} {written} {at} {end} B = subst (λ (x : List ℕ). Appended words at x written end) part_is B

module _ (ws : List ℕ) (s : Shape) (rows ports : List ℕ) (v : Vid) (j : ℕ) (m : Member) (e : m ≡ member_number ws s j) where
  member_by : (c : Bool) → (m.transmits && eqb m.vid v.vid) ≡ c → member_part ws s rows ports v j ≡ cond c (transmitter_part ws s rows ports v m) []
  unfolding member_part
  member_by c f =
      ap (λ (x : Member). cond (x.transmits && eqb x.vid v.vid) (transmitter_part ws s rows ports v x) []) (sym e)
      ∙ ap (λ (c : Bool). cond c (transmitter_part ws s rows ports v m) []) f

  pub silent_part : m.transmits ≡ false → (words : List ℕ) (at : ℕ) → Appended words at (member_part ws s rows ports v j) words at
  silent_part f words at = rw (member_by false (ap (λ (c : Bool). c && eqb m.vid v.vid) f)) (appended_nothing words at)

  pub other_part : m.transmits ≡ true → (m.vid ≡ v.vid → ⊥) → (words : List ℕ) (at : ℕ) → Appended words at (member_part ws s rows ports v j) words at
  other_part f d words at =
      rw (member_by false (ap (λ (c : Bool). c && eqb m.vid v.vid) f ∙ ne_eqb m.vid v.vid d)) (appended_nothing words at)

  module _ (f : m.transmits ≡ true) (d : m.vid ≡ v.vid) where
    own_part : member_part ws s rows ports v j ≡ transmitter_part ws s rows ports v m
    own_part = member_by true (ap (λ (c : Bool). c && eqb m.vid v.vid) f ∙ eq-eqb m.vid v.vid d)

    pub member-room : (words : List ℕ) (at : ℕ) → Room words at (member_part ws s rows ports v j) → Room words at (transmitter_part ws s rows ports v m)
    member-room words at r = omega (arith, ap (λ (x : List ℕ). length x) own_part)

    pub member-written : {words written : List ℕ} {at end : ℕ} → Appended words at (transmitter_part ws s rows ports v m) written end
        → Appended words at (member_part ws s rows ports v j) written end
    member-written {words} {written} {at} {end} B = subst (λ (x : List ℕ). Appended words at x written end) (sym own_part) B

module _ (ws : List ℕ) (s : Shape) (rows ports : List ℕ) (b k : ℕ) (v : Vid) (e : v ≡ vid_number ws s k) (place : ℕ) (f : place ≡ egress_row_at rows v.index b) where
  two-parts : individual_words ws s (take (length rows - place) (drop place rows)) v.vid ++ group_part ws s rows ports v ≡ vid_part ws s rows ports b k
  unfolding vid_part
  two-parts =
      ap (λ (x : List ℕ). individual_words ws s x v.vid ++ group_part ws s rows ports v) (part_from place rows ∙ ap (λ (i : ℕ). drop i rows) f)
      ∙ ap (λ (w : Vid). individual_words ws s (drop (egress_row_at rows w.index b) rows) w.vid ++ group_part ws s rows ports w) e

  lengths : length (individual_words ws s (take (length rows - place) (drop place rows)) v.vid) + length (group_part ws s rows ports v) ≡ length (vid_part ws s rows ports b k)
  lengths =
      sym (length-append (individual_words ws s (take (length rows - place) (drop place rows)) v.vid) (group_part ws s rows ports v))
      ∙ ap (λ (x : List ℕ). length x) two-parts

  module _ (words : List ℕ) (at : ℕ) (r : Room words at (vid_part ws s rows ports b k)) where
    pub first-room : Room words at (individual_words ws s (take (length rows - place) (drop place rows)) v.vid)
    first-room = omega (arith, lengths)

    module _ (written : List ℕ) (end : ℕ) (A : Appended words at (individual_words ws s (take (length rows - place) (drop place rows)) v.vid) written end) where
      pub second-room : Room written end (group_part ws s rows ports v)
      second-room = omega (arith, lengths, A.end_is, appended-length A first-room)

      pub vid-written : {last : List ℕ} {end' : ℕ} → Appended written end (group_part ws s rows ports v) last end'
          → Appended words at (vid_part ws s rows ports b k) last end'
      vid-written {last} {end'} B = subst (λ (x : List ℕ). Appended words at x last end') two-parts (appended-both A B first-room)
