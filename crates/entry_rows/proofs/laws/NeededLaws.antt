-- The rows that the entries of a bridge need are all there: what the loops that keep them keep true. Assumes nothing.
use Rattle.std.specs.Prelude.{ℕ, ◌+◌, ◌≤◌, ◌<◌, ◌≡◌, refl, List, ◌⊎◌, Bool, true, false, cond, length}
use Rattle.std.proofs.Common.{arith, sym, ap, ◌∙◌, subst, inl, inr}
use Rattle.std.proofs.Math.Option.{some}
use Rattle.lists.specs.Members.{In}
use Rattle.lists.proofs.laws.NumberLaws.{same_or_not}
use Rattle.rule.specs.Words.{words_of}
use Rattle.rule.specs.Records.{Vid, Member, vid_of, member_of}
use Rattle.rule.specs.Plan.{Plan, vid_record}
use Rattle.rule.specs.PlanLaws.{PlanLaws, VidFits, MemberFits}
use Rattle.rule.proofs.laws.CallLaws.{vid-found}
use Rattle.table.specs.declared.shape.Shape.{Shape}
use Rattle.table.specs.Positions.{vids_from, members_from, plan_at}
use Rattle.table.proofs.laws.PositionLaws.{how_many, record-in}
use Rattle.trees.specs.Store.{slot_of}
use Rattle.network.proofs.laws.NetworkLaws.{bridges-in-table}
use Rattle.egress.specs.Rows.{egress_row_at, HasEgressRow, EgressRowsKept, Kept}
use Rattle.egress.proofs.laws.RowLaws.{kept-all, kept-both, plan-row}
use Rattle.table.specs.Numbered.{vid_number, member_number, index_of}
use Rattle.verdict.specs.Examination.{Checked}
use Rattle.verdict.proofs.laws.CheckedLaws.{bridges-counted, few-bridges}
use Rattle.entry_rows.specs.Needed.{HopsReady, OwnEgressRows, EgressRowsReady, transmitter_index}

-- The row for the member `j`, where it transmits.
pub record TransmitterEgressRow (t : List ℕ) (s : Shape) (rows : List ℕ) (j : ℕ) : Type 0 where
  pub there : (member_number (words_of t) s j).transmits ≡ true
      → HasEgressRow rows (index_of (vid_record (plan_at (words_of t) s) (member_number (words_of t) s j).vid)) (member_number (words_of t) s j).bridge

-- The rows for the first `j` members are kept.
pub record MemberEgressRows (t : List ℕ) (s : Shape) (rows : List ℕ) (j : ℕ) : Type 0 where
  pub of_member : (i : ℕ) → i < j → TransmitterEgressRow t s rows i

record_of_vid : (p : Plan) → PlanLaws p → (v : Vid) (n : ℕ) → In v p.vids → v.vid ≡ n → vid_record p n ≡ some v
record_of_vid p L v n i e = ap (vid_record p) (sym e) ∙ vid-found p L v i

-- A transmitter's index is not 0, and 0 says that a member does not transmit.
transmitter_silent : (p : Plan) (m : Member) → transmitter_index p m ≡ 0 → (m.transmits ≡ true → 1 ≤ index_of (vid_record p m.vid)) → m.transmits ≡ false
transmitter_silent p m e f = go m.transmits refl
  where
    go : (b : Bool) → m.transmits ≡ b → b ≡ false
    go true h = absurd (omega (arith, f h, sym (ap (λ (x : Bool). cond x (index_of (vid_record p m.vid)) 0) h) ∙ e))
    go false h = refl

transmitter_index_lem : (p : Plan) (m : Member) → (transmitter_index p m ≡ 0 → ⊥) → transmitter_index p m ≡ index_of (vid_record p m.vid)
transmitter_index_lem p m d = go m.transmits refl
  where
    go : (b : Bool) → m.transmits ≡ b → transmitter_index p m ≡ index_of (vid_record p m.vid)
    go true h = ap (λ (x : Bool). cond x (index_of (vid_record p m.vid)) 0) h
    go false h = absurd (d (ap (λ (x : Bool). cond x (index_of (vid_record p m.vid)) 0) h))

module _ {t : List ℕ} {s : Shape} (R : Checked t s) where
  pub vid-listed : (k : ℕ) → k < s.vids → In (vid_number (words_of t) s k) (plan_at (words_of t) s).vids
  vid-listed k l = record-in vid_of 1 (vids_from s) (words_of t) s.vids k l

  pub vid-fits : (k : ℕ) → k < s.vids → VidFits (vid_number (words_of t) s k)
  vid-fits k l = R.laws.vids.fits (vid_number (words_of t) s k) (vid-listed k l)

  pub member-listed : (j : ℕ) → j < s.members → In (member_number (words_of t) s j) (plan_at (words_of t) s).members
  member-listed j l = record-in member_of 2 (members_from s) (words_of t) s.members j l

  pub member-fits : (j : ℕ) → j < s.members
      → MemberFits (length (plan_at (words_of t) s).bridges) (plan_at (words_of t) s).vids (member_number (words_of t) s j)
  member-fits j l = R.laws.members.fits (member_number (words_of t) s j) (member-listed j l)

  pub few_vids : s.vids ≤ 16
  few_vids = omega (arith, how_many vid_of 1 (vids_from s) (words_of t) s.vids, R.laws.vids.few)

  pub few-members : s.members ≤ 64
  few-members = omega (arith, how_many member_of 2 (members_from s) (words_of t) s.members, R.laws.members.few)

  -- The ECT index of a member's VID.
  abbrev pub index_for : ℕ → ℕ
  index_for j = index_of (vid_record (plan_at (words_of t) s) (member_number (words_of t) s j).vid)

  pub index_for_lem : (j k : ℕ) → k < s.vids → (member_number (words_of t) s j).vid ≡ (vid_number (words_of t) s k).vid → index_for j ≡ (vid_number (words_of t) s k).index
  index_for_lem j k l e = ap index_of (record_of_vid (plan_at (words_of t) s) R.laws (vid_number (words_of t) s k) (member_number (words_of t) s j).vid (vid-listed k l) (sym e))

  pub index-fits : (j : ℕ) → j < s.members → (1 ≤ index_for j) × (index_for j ≤ 16)
  index-fits j l =
      let (v, i, e) = (member-fits j l).vid_known
      in let f = R.laws.vids.fits v i
      in let g = ap index_of (record_of_vid (plan_at (words_of t) s) R.laws v (member_number (words_of t) s j).vid i e)
      in (omega (arith, f.least_index), omega (arith, f.greatest_index))

-- What a member's index says: `m` was read where the member `j` stands, `i` is its index as a transmitter.
module _ {t : List ℕ} {s : Shape} (R : Checked t s) (j : ℕ) (l : j < s.members) (m : Member) (e : m ≡ member_number (words_of t) s j)
    (i : ℕ) (f : i ≡ transmitter_index (plan_at (words_of t) s) m) where
  index_is : i ≡ transmitter_index (plan_at (words_of t) s) (member_number (words_of t) s j)
  index_is = f ∙ ap (transmitter_index (plan_at (words_of t) s)) e

  pub member-silent : i ≡ 0 → (member_number (words_of t) s j).transmits ≡ false
  member-silent z =
      transmitter_silent (plan_at (words_of t) s) (member_number (words_of t) s j) (sym index_is ∙ z) (λ h. (index-fits R j l).0)

  pub member-index : (i ≡ 0 → ⊥) → i ≡ index_for R j
  member-index d = index_is ∙ transmitter_index_lem (plan_at (words_of t) s) (member_number (words_of t) s j) (λ z. d (index_is ∙ z))

  -- What the row of a transmitter needs: its index is one of 16, its bridge is in the table.
  pub member-known : (i ≡ 0 → ⊥) → (1 ≤ i) × (i ≤ 16) × (m.bridge < s.bridges)
  member-known d =
      let (least, greatest) = index-fits R j l
      in let i_is = member-index d
      in let known = (member-fits R j l).bridge_known
      in (omega (arith, least, i_is), omega (arith, greatest, i_is), omega (arith, ap (λ (x : Member). x.bridge) e, known, bridges-counted R))

pub row_of : {rows : List ℕ} {index index' a a' : ℕ} → index ≡ index' → a ≡ a' → HasEgressRow rows index a → HasEgressRow rows index' a'
row_of e f H = rw (← e, ← f) H

pub transmitter_has : {t : List ℕ} {s : Shape} {rows : List ℕ} {j : ℕ}
    → HasEgressRow rows (index_of (vid_record (plan_at (words_of t) s) (member_number (words_of t) s j).vid)) (member_number (words_of t) s j).bridge
    → TransmitterEgressRow t s rows j
transmitter_has H = record { there = λ e. H }

pub silent : {t : List ℕ} {s : Shape} {rows : List ℕ} {j : ℕ} → (member_number (words_of t) s j).transmits ≡ false → TransmitterEgressRow t s rows j
silent e = record { there = λ f. let z : ◌≡◌ {A = ℕ} 0 1 = cc in absurd (omega arith) }

still-there : {before after : List ℕ} → Kept before after → (index a : ℕ) → slot_of index a < 1024 → HasEgressRow before index a → HasEgressRow after index a
still-there {before} {after} K index a l H = record { there = go (same_or_not (egress_row_at after index a) 0) }
  where
    go : (egress_row_at after index a ≡ 0) ⊎ (egress_row_at after index a ≡ 0 → ⊥) → 0 < egress_row_at after index a
    go (inl e) = absurd (K.still (slot_of index a) l (λ z. omega (arith, H.there)) e)
    go (inr d) = omega arith

module _ {t : List ℕ} {s : Shape} (R : Checked t s) {b : ℕ} (known : b < s.bridges) {before after : List ℕ} (K : Kept before after) where
  pub own-kept : {k : ℕ} → k ≤ s.vids → OwnEgressRows t s b before k → OwnEgressRows t s b after k
  own-kept l O = record {
    own = λ i h.
        let f = vid-fits R i (omega arith)
        in still-there K (vid_number (words_of t) s i).index b (omega (arith, few-bridges R, f.least_index, f.greatest_index)) (O.own i h);
  }

  transmitter_kept : (j : ℕ) → j < s.members → TransmitterEgressRow t s before j → TransmitterEgressRow t s after j
  transmitter_kept j l T = record {
    there = λ e.
        let f = index-fits R j l
        in still-there K (index_for R j) (member_number (words_of t) s j).bridge
        (omega (arith, f.0, f.1, few-bridges R, bridges-counted R, (member-fits R j l).bridge_known)) (T.there e);
  }

  pub members_kept : {j : ℕ} → j ≤ s.members → MemberEgressRows t s before j → MemberEgressRows t s after j
  members_kept l M = record { of_member = λ i h. transmitter_kept i (omega arith) (M.of_member i h) }

-- One more of each.
pub own-more : {t : List ℕ} {s : Shape} {b : ℕ} {rows : List ℕ} {k : ℕ} → OwnEgressRows t s b rows k → HasEgressRow rows (vid_number (words_of t) s k).index b
    → OwnEgressRows t s b rows (k + 1)
own-more {t} {s} {b} {rows} {k} O h = record { own = λ i l. go i l (same_or_not i k) }
  where
    go : (i : ℕ) → i < k + 1 → (i ≡ k) ⊎ (i ≡ k → ⊥) → HasEgressRow rows (vid_number (words_of t) s i).index b
    go i l (inl e) = subst (λ (x : ℕ). HasEgressRow rows (vid_number (words_of t) s x).index b) (sym e) h
    go i l (inr d) = O.own i (omega arith)

pub member-more : {t : List ℕ} {s : Shape} {rows : List ℕ} {j : ℕ} → MemberEgressRows t s rows j → TransmitterEgressRow t s rows j → MemberEgressRows t s rows (j + 1)
member-more {t} {s} {rows} {j} M T = record { of_member = λ i l. go i l (same_or_not i j) }
  where
    go : (i : ℕ) → i < j + 1 → (i ≡ j) ⊎ (i ≡ j → ⊥) → TransmitterEgressRow t s rows i
    go i l (inl e) = subst (λ (x : ℕ). TransmitterEgressRow t s rows x) (sym e) T
    go i l (inr d) = M.of_member i (omega arith)

pub rows-ready : {t : List ℕ} {s : Shape} {net hops : List ℕ} {b count : ℕ} {rows : List ℕ}
    → HopsReady t s net hops b → EgressRowsKept net hops b count rows → count ≤ 80
    → OwnEgressRows t s b rows s.vids → MemberEgressRows t s rows s.members → EgressRowsReady t s b rows
rows-ready {t} {s} {net} {hops} {b} {count} {rows} L H few O M = record {
  places = record { inside = λ index a h k i. inside index a h k i (same_or_not (egress_row_at rows index a) 0); has_slots = omega (arith, H.size) };
  own = λ k l.
      let f = vid-fits L.table_network.checked k l
      in plan-row L.table_network.network L.hop_ports (H.held (vid_number (words_of t) s k).index b f.least_index f.greatest_index (omega (arith, L.known, bridges-in-table L.table_network)) (λ z. omega (arith, (O.own k l).there)));
  others = λ k j l h e g.
      let f = vid-fits L.table_network.checked k l
      in let q = index_for_lem L.table_network.checked j k l g
      in plan-row L.table_network.network L.hop_ports
      (H.held (vid_number (words_of t) s k).index (member_number (words_of t) s j).bridge f.least_index f.greatest_index
      (omega (arith, (member-fits L.table_network.checked j h).bridge_known, bridges-counted L.table_network.checked, bridges-in-table L.table_network))
      (λ z. omega (arith, (subst (λ (x : ℕ). HasEgressRow rows x (member_number (words_of t) s j).bridge) q ((M.of_member j h).there e)).there)));
}
  where
    inside : (index a : ℕ) → 1 ≤ index → index ≤ 16 → a < s.bridges → (egress_row_at rows index a ≡ 0) ⊎ (egress_row_at rows index a ≡ 0 → ⊥) → egress_row_at rows index a + 64 ≤ length rows
    inside index a h k i (inl e) = omega (arith, H.size)
    inside index a h k i (inr d) = omega (arith, (H.begins index a h k (omega (arith, bridges-in-table L.table_network)) d).1, H.size)

-- The loop over VIDs has come to `k`, the loop over members to `j`.
pub record KeepingOwn (t : List ℕ) (s : Shape) (net hops : List ℕ) (b : ℕ) (rows₀ rows : List ℕ) (count k : ℕ) : Type 0 where
  pub within : k ≤ s.vids
  pub few : count ≤ k
  pub kept : Kept rows₀ rows
  pub held : EgressRowsKept net hops b count rows
  pub own : OwnEgressRows t s b rows k

pub record KeepingMembers (t : List ℕ) (s : Shape) (net hops : List ℕ) (b : ℕ) (rows₀ rows : List ℕ) (count j : ℕ) : Type 0 where
  pub within : j ≤ s.members
  pub few : count ≤ s.vids + j
  pub kept : Kept rows₀ rows
  pub held : EgressRowsKept net hops b count rows
  pub own : OwnEgressRows t s b rows s.vids
  pub of_members : MemberEgressRows t s rows j

module _ {t : List ℕ} {s : Shape} {net hops : List ℕ} {b : ℕ} (L : HopsReady t s net hops b) where
  pub own-starts : {rows : List ℕ} → EgressRowsKept net hops b 0 rows
      → KeepingOwn t s net hops b rows rows 0 0
  own-starts {rows} H = record { within = omega arith; few = omega arith; kept = kept-all rows; held = H; own = record { own = λ i l. absurd (omega arith) } }

  pub members-start : {rows : List ℕ} {count : ℕ} → EgressRowsKept net hops b count rows
      → OwnEgressRows t s b rows s.vids → count ≤ s.vids → KeepingMembers t s net hops b rows rows count 0
  members-start {rows} H O l = record { within = omega arith; few = omega arith; kept = kept-all rows; held = H; own = O; of_members = record { of_member = λ i l. absurd (omega arith) } }

  module _ {rows₀ rows : List ℕ} {count k : ℕ} (K : KeepingOwn t s net hops b rows₀ rows count k) where
    pub own_room : k < s.vids → count < 80
    own_room l = omega (arith, K.few, few_vids L.table_network.checked)

    pub own_goes_on : k < s.vids → {rows' : List ℕ} {count' : ℕ} → EgressRowsKept net hops b count' rows'
        → Kept rows rows' → HasEgressRow rows' (vid_number (words_of t) s k).index b → count' ≤ count + 1
        → KeepingOwn t s net hops b rows₀ rows' count' (k + 1)
    own_goes_on l H E R m = record {
      within = omega arith;
      few = omega (arith, K.few);
      kept = kept-both K.kept E;
      held = H;
      own = own-more (own-kept L.table_network.checked L.known E K.within K.own) R;
    }

    pub own-ends : s.vids ≤ k → OwnEgressRows t s b rows s.vids × (count ≤ s.vids)
    own-ends l = let e : k ≡ s.vids = omega (arith, K.within) in (subst (λ (x : ℕ). OwnEgressRows t s b rows x) e K.own, omega (arith, K.few))

  module _ {rows₀ rows : List ℕ} {count j : ℕ} (K : KeepingMembers t s net hops b rows₀ rows count j) where
    pub members-room : j < s.members → count < 80
    members-room l = omega (arith, K.few, few_vids L.table_network.checked, few-members L.table_network.checked)

    pub members-go-on : j < s.members → {rows' : List ℕ} {count' : ℕ} → EgressRowsKept net hops b count' rows'
        → Kept rows rows' → TransmitterEgressRow t s rows' j → count' ≤ count + 1
        → KeepingMembers t s net hops b rows₀ rows' count' (j + 1)
    members-go-on l H E R m = record {
      within = omega arith;
      few = omega (arith, K.few);
      kept = kept-both K.kept E;
      held = H;
      own = own-kept L.table_network.checked L.known E (omega arith) K.own;
      of_members = member-more (members_kept L.table_network.checked L.known E K.within K.of_members) R;
    }

    pub members_end : s.members ≤ j → EgressRowsReady t s b rows
    members_end l = let e : j ≡ s.members = omega (arith, K.within) in
        rows-ready L K.held (omega (arith, K.few, few_vids L.table_network.checked, few-members L.table_network.checked)) K.own
        (subst (λ (x : ℕ). MemberEgressRows t s rows x) e K.of_members)
