-- The step that a record comes to: refused with its lowest fault, or taken into the plan at the position where it stands.
-- Assumes nothing.
use Rattle.std.specs.Prelude.{ℕ, zero, suc, ◌+◌, ◌*◌, ◌≤◌, ◌<◌, ◌≡◌, refl, List, [], ◌∷◌, ◌++◌, Result, Ok, Err, Bool, true, false, cond, eqb, leb, ltb, length, drop}
use Rattle.std.proofs.Common.{arith, sym, ap, subst, ◌∙◌, length-drop, lt-ltb, le-ltb, ltb-false, leb-false}
use Rattle.std.proofs.Math.Option.{Option, none, some}
use Rattle.lists.proofs.laws.NumberLaws.{is_false}
use Rattle.rule.specs.declared.answer.RecordKind.{RecordKind}
use Rattle.rule.specs.declared.refusal.Refusal.{Refusal}
use Rattle.rule.specs.Records.{Bridge, HalfLink, Vid, Member, Traffic, bridge_of, half_link_of, vid_of, member_of, traffic_of, Layout, bridge_layout, half_link_layout, vid_layout, member_layout, traffic_layout}
use Rattle.rule.specs.Words.{words_of}
use Rattle.rule.specs.Outcome.{refused}
use Rattle.rule.specs.Answers.{kind_number}
use Rattle.rule.specs.Refusals.{refused_by}
use Rattle.rule.specs.Plan.{Plan, alike}
use Rattle.rule.proofs.laws.Accepted.{NoFault, no_fault}
use Rattle.rule.specs.Check.{faults, kind_concerned, goes_on, stops, judged}
use Rattle.key_index.specs.Index.{Entered}
use Rattle.table.specs.declared.shape.Shape.{Shape}
use Rattle.table.specs.Positions.{record_at, records_at, half_links_from, vids_from, members_from, traffic_from, words_read, last_kind, plan_at, reading_at}
use Rattle.readers.proofs.laws.WordLaws.{count_of_words}
use Rattle.table.proofs.laws.PositionLaws.{how_many, one_more, none_anywhere}
use Rattle.rule.specs.Refusals.{fault_number}
use Rattle.rule.specs.declared.refusal.Fault.{Fault}
use Rattle.faults.specs.Faults.{numbered, fault_at}
use Rattle.earlier.specs.Keys.{source_key, address_key, member_key, traffic_key, BridgeIndexes, MemberIndex, TrafficIndex}
use Rattle.earlier.specs.HalfLinks.{port_key, number_key}
use Rattle.earlier.proofs.laws.KeyLaws.{keyed-more}
use Rattle.steps.specs.Steps.{concerned, refusal_of, with_bridge, with_half_link, with_vid, with_member, with_traffic, step_values, Stepped, step_as, HalfLinkIndexes, BridgesKept, HalfLinksKept, MembersKept, TrafficKept}

-- Refused

pub kind-concerned : (f k : ℕ) (kind : RecordKind) → kind_number kind ≡ some k → kind_number (concerned f kind) ≡ kind_concerned f k
kind-concerned f k kind e = go (eqb f 2)
  where
    go : (b : Bool) → kind_number (cond b RecordKind.None kind) ≡ cond b none (some k)
    go true = refl
    go false = e

module _ (ws : List ℕ) (s : Shape) (l : Layout) where
  abbrev words : List ℕ
  words = drop (words_read s) ws

  pub refused-step :
      (next : Shape) (f : Fault) (kind : RecordKind) (r : Refusal) →
      numbered (Err f) ≡ fault_at ws s l →
      kind_number kind ≡ some l.kind →
      (at : ℕ) →
      at ≡ words_read s →
      r ≡ refusal_of (fault_number f) kind at →
      Stepped ws next (step_as ws s l) (Err r)
  refused-step next f kind r e k at a g =
      record {
        value =
            ap (λ (x : Refusal). stops (refused_by x)) g
            ∙ (λ i. stops (refused (fault_number f) (kind-concerned (fault_number f) l.kind kind k i) (a i)))
            ∙ ap (judged (reading_at ws s) l words) e;
        is_next = λ t n. let z : ◌≡◌ {A = ℕ} 0 1 = cc in absurd (omega arith);
        within = λ t n. let z : ◌≡◌ {A = ℕ} 0 1 = cc in absurd (omega arith);
      }

  -- Taken: no fault

  pub taken_sound : {next : Shape} {r : Result Shape Refusal} → Stepped ws next (step_as ws s l) r → (t : Shape) → r ≡ Ok t → numbered (Ok tt) ≡ fault_at ws s l
  taken_sound h t n = go (fault_at ws s l) (sym (ap (step_values ws) n) ∙ h.value)
    where
      go : (o : Option ℕ) → goes_on (reading_at ws t) ≡ judged (reading_at ws s) l words o → numbered (Ok tt) ≡ o
      go none e = refl
      go (some f) e = let z : ◌≡◌ {A = ℕ} 0 1 = cc in absurd (omega arith)

  module _ (sound : numbered (Ok tt) ≡ fault_at ws s l) where
    none_applies : NoFault (faults (reading_at ws s) l words)
    none_applies = no_fault (faults (reading_at ws s) l words) (sym sound)

    not_lower : last_kind s ≤ l.kind
    not_lower = ltb-false l.kind (last_kind s) (is_false (ltb l.kind (last_kind s)) none_applies.0)

    pub not_cut : l.words ≤ length words
    not_cut = ltb-false (length words) l.words (is_false (ltb (length words) l.words) none_applies.1.0)

    pub not_full : alike (plan_at ws s) (l.decoded words) < l.limit
    not_full =
        leb-false l.limit (alike (plan_at ws s) (l.decoded words))
        (is_false (leb l.limit (alike (plan_at ws s) (l.decoded words))) none_applies.1.1.1.0)

    -- The reading after the record, where the record does not end the table.
    pub taken_step :
        (t : Shape) →
        goes_on (reading_at ws t) ≡ judged (reading_at ws s) l words none →
        words_read t ≡ words_read s + l.words →
        0 < l.words →
        Stepped ws t (step_as ws s l) (Ok t)
    taken_step t e w p =
        record {
          value = e ∙ ap (judged (reading_at ws s) l words) sound;
          is_next = λ u n. let z : t ≡ u = cc in sym z;
          within =
              λ u n.
              let z : t ≡ u = cc
              in omega (arith, not_cut, length-drop (words_read s) ws, ap (λ (x : Shape). words_read x) z);
        }

-- Where no kind after `k` came last, no record of a kind after it was read: none of the kind `c`, and of the kinds before it the
-- same holds.
passed_by : (n c rest k : ℕ) → cond (ltb 0 n) c rest ≤ k → k < c → (n ≡ 0) × (rest ≤ k)
passed_by zero c rest k h l = (refl, h)
passed_by (suc n) c rest k h l = absurd (let z : c ≤ k = rw (lt-ltb 0 (suc n) (omega arith)) at h in omega arith)

pub record NoneAfter (k : ℕ) (s : Shape) : Type 0 where
  pub no_traffic : k < 5 → s.traffic ≡ 0
  pub no_members : k < 4 → s.members ≡ 0
  pub no_vids : k < 3 → s.vids ≡ 0
  pub no_half_links : k < 2 → s.half_links ≡ 0

pub none_after : (k : ℕ) (s : Shape) → last_kind s ≤ k → NoneAfter k s
none_after k s h =
    record {
      no_traffic = λ l. (traffic l).0;
      no_members = λ l. (members l).0;
      no_vids = λ l. (vids l).0;
      no_half_links = λ l. (passed_by s.half_links 2 up_to_bridge k (vids (omega arith)).1 l).0;
    }
  where
    up_to_bridge : ℕ
    up_to_bridge = cond (ltb 0 s.bridges) 1 0

    up_to_half_link : ℕ
    up_to_half_link = cond (ltb 0 s.half_links) 2 up_to_bridge

    up_to_vid : ℕ
    up_to_vid = cond (ltb 0 s.vids) 3 up_to_half_link

    up_to_member : ℕ
    up_to_member = cond (ltb 0 s.members) 4 up_to_vid

    traffic : k < 5 → (s.traffic ≡ 0) × (up_to_member ≤ k)
    traffic = passed_by s.traffic 5 up_to_member k h

    members : k < 4 → (s.members ≡ 0) × (up_to_vid ≤ k)
    members l = passed_by s.members 4 up_to_vid k (traffic (omega arith)).1 l

    vids : k < 3 → (s.vids ≡ 0) × (up_to_half_link ≤ k)
    vids l = passed_by s.vids 3 up_to_half_link k (members (omega arith)).1 l

same-reading :
    {a b c d : ℕ} {p q : Plan} →
    a ≡ b →
    c ≡ d →
    p ≡ q →
    goes_on (record { at = a; last = c; plan = p }) ≡ goes_on (record { at = b; last = d; plan = q })
same-reading e f g = λ i. goes_on (record { at = e i; last = f i; plan = g i })

same-plan :
    {a b : List Bridge} {c d : List HalfLink} {e f : List Vid} {g h : List Member} {k l : List Traffic} →
    a ≡ b → c ≡ d → e ≡ f → g ≡ h → k ≡ l →
    ◌≡◌ {A = Plan} (record { bridges = a; half_links = c; vids = e; members = g; traffic = k })
    (record { bridges = b; half_links = d; vids = f; members = h; traffic = l })
same-plan a b c d e = λ i. record { bridges = a i; half_links = b i; vids = c i; members = d i; traffic = e i }

module _ {A : Type 0} (decoded : List ℕ → A) (width from : ℕ) (ws : List ℕ) where
  -- The record after `n` of its kind, by the word where the reading stands.
  grown :
      (n at : ℕ) → from + width * n ≡ at →
      records_at decoded width from ws (n + 1) ≡ records_at decoded width from ws n ++ (decoded (drop at ws) ∷ [])
  grown n at e =
      one_more decoded width from ws n
      ∙ ap (λ (k : ℕ). records_at decoded width from ws n ++ (decoded (drop k ws) ∷ [])) e

module _ (ws : List ℕ) (s : Shape) where
  pub bridge-taken : numbered (Ok tt) ≡ fault_at ws s bridge_layout → Stepped ws (with_bridge s) (step_as ws s bridge_layout) (Ok (with_bridge s))
  bridge-taken e =
      taken_step ws s bridge_layout e (with_bridge s)
      (same-reading (omega arith) last
      (same-plan
      (grown bridge_of 3 0 ws s.bridges (words_read s) (omega (arith, h, v, m, n)))
      (none_anywhere half_link_of 3 (half_links_from (with_bridge s)) ws (half_links_from s) s.half_links h)
      (none_anywhere vid_of 1 (vids_from (with_bridge s)) ws (vids_from s) s.vids v)
      (none_anywhere member_of 2 (members_from (with_bridge s)) ws (members_from s) s.members m)
      (none_anywhere traffic_of 2 (traffic_from (with_bridge s)) ws (traffic_from s) s.traffic n)))
      (omega arith) (omega arith)
    where
      after : NoneAfter 1 s
      after = none_after 1 s (not_lower ws s bridge_layout e)

      h : s.half_links ≡ 0
      h = after.no_half_links (omega arith)

      v : s.vids ≡ 0
      v = after.no_vids (omega arith)

      m : s.members ≡ 0
      m = after.no_members (omega arith)

      n : s.traffic ≡ 0
      n = after.no_traffic (omega arith)

      last : last_kind (with_bridge s) ≡ 1
      last = simp (le-ltb 0 s.traffic (omega (arith, n)), le-ltb 0 s.members (omega (arith, m)), le-ltb 0 s.vids (omega (arith, v)), le-ltb 0 s.half_links (omega (arith, h)), lt-ltb 0 (s.bridges + 1) (omega arith))

  pub half_link-taken : numbered (Ok tt) ≡ fault_at ws s half_link_layout → Stepped ws (with_half_link s) (step_as ws s half_link_layout) (Ok (with_half_link s))
  half_link-taken e =
      taken_step ws s half_link_layout e (with_half_link s)
      (same-reading (omega arith) last
      (same-plan
      refl
      (grown half_link_of 3 (half_links_from s) ws s.half_links (words_read s) (omega (arith, v, m, n)))
      (none_anywhere vid_of 1 (vids_from (with_half_link s)) ws (vids_from s) s.vids v)
      (none_anywhere member_of 2 (members_from (with_half_link s)) ws (members_from s) s.members m)
      (none_anywhere traffic_of 2 (traffic_from (with_half_link s)) ws (traffic_from s) s.traffic n)))
      (omega arith) (omega arith)
    where
      after : NoneAfter 2 s
      after = none_after 2 s (not_lower ws s half_link_layout e)

      v : s.vids ≡ 0
      v = after.no_vids (omega arith)

      m : s.members ≡ 0
      m = after.no_members (omega arith)

      n : s.traffic ≡ 0
      n = after.no_traffic (omega arith)

      last : last_kind (with_half_link s) ≡ 2
      last = simp (le-ltb 0 s.traffic (omega (arith, n)), le-ltb 0 s.members (omega (arith, m)), le-ltb 0 s.vids (omega (arith, v)), lt-ltb 0 (s.half_links + 1) (omega arith))

  pub vid-taken : numbered (Ok tt) ≡ fault_at ws s vid_layout → Stepped ws (with_vid s) (step_as ws s vid_layout) (Ok (with_vid s))
  vid-taken e =
      taken_step ws s vid_layout e (with_vid s)
      (same-reading (omega arith) last
      (same-plan
      refl
      refl
      (grown vid_of 1 (vids_from s) ws s.vids (words_read s) (omega (arith, m, n)))
      (none_anywhere member_of 2 (members_from (with_vid s)) ws (members_from s) s.members m)
      (none_anywhere traffic_of 2 (traffic_from (with_vid s)) ws (traffic_from s) s.traffic n)))
      (omega arith) (omega arith)
    where
      after : NoneAfter 3 s
      after = none_after 3 s (not_lower ws s vid_layout e)

      m : s.members ≡ 0
      m = after.no_members (omega arith)

      n : s.traffic ≡ 0
      n = after.no_traffic (omega arith)

      last : last_kind (with_vid s) ≡ 3
      last = simp (le-ltb 0 s.traffic (omega (arith, n)), le-ltb 0 s.members (omega (arith, m)), lt-ltb 0 (s.vids + 1) (omega arith))

  pub member-taken : numbered (Ok tt) ≡ fault_at ws s member_layout → Stepped ws (with_member s) (step_as ws s member_layout) (Ok (with_member s))
  member-taken e =
      taken_step ws s member_layout e (with_member s)
      (same-reading (omega arith) last
      (same-plan
      refl
      refl
      refl
      (grown member_of 2 (members_from s) ws s.members (words_read s) (omega (arith, n)))
      (none_anywhere traffic_of 2 (traffic_from (with_member s)) ws (traffic_from s) s.traffic n)))
      (omega arith) (omega arith)
    where
      n : s.traffic ≡ 0
      n = (none_after 4 s (not_lower ws s member_layout e)).no_traffic (omega arith)

      last : last_kind (with_member s) ≡ 4
      last = simp (le-ltb 0 s.traffic (omega (arith, n)), lt-ltb 0 (s.members + 1) (omega arith))

  pub traffic-taken : numbered (Ok tt) ≡ fault_at ws s traffic_layout → Stepped ws (with_traffic s) (step_as ws s traffic_layout) (Ok (with_traffic s))
  traffic-taken e =
      taken_step ws s traffic_layout e (with_traffic s)
      (same-reading (omega arith) (simp (lt-ltb 0 (s.traffic + 1) (omega arith)))
      (same-plan refl refl refl refl (grown traffic_of 2 (traffic_from s) ws s.traffic (words_read s) (omega arith))))
      (omega arith) (omega arith)

-- A record without a fault: its words are there, and there is room for its keys

pub record-there :
    (t : List ℕ) (s : Shape) (l : Layout) →
    0 < l.words →
    numbered (Ok tt) ≡ fault_at (words_of t) s l →
    4 * words_read s + 4 * l.words ≤ length t
record-there t s l h e =
    omega (arith, not_cut (words_of t) s l e, length-drop (words_read s) (words_of t), count_of_words t)

module _ (ws : List ℕ) (s : Shape) where
  pub bridge-room : numbered (Ok tt) ≡ fault_at ws s bridge_layout → s.bridges < 512
  bridge-room e = omega (arith, not_full ws s bridge_layout e, how_many bridge_of 3 0 ws s.bridges)

  pub half_link-room : numbered (Ok tt) ≡ fault_at ws s half_link_layout → s.half_links < 512
  half_link-room e = omega (arith, not_full ws s half_link_layout e, how_many half_link_of 3 (half_links_from s) ws s.half_links)

  pub vid-room : numbered (Ok tt) ≡ fault_at ws s vid_layout → s.vids + 1 ≤ 16
  vid-room e = omega (arith, not_full ws s vid_layout e, how_many vid_of 1 (vids_from s) ws s.vids)

  pub member-room : numbered (Ok tt) ≡ fault_at ws s member_layout → s.members < 512
  member-room e = omega (arith, not_full ws s member_layout e, how_many member_of 2 (members_from s) ws s.members)

  pub traffic-room : numbered (Ok tt) ≡ fault_at ws s traffic_layout → s.traffic < 512
  traffic-room e = omega (arith, not_full ws s traffic_layout e, how_many traffic_of 2 (traffic_from s) ws s.traffic)

  -- The record that was read at the word `at` is the next of its kind.
  next_of_kind :
      {A : Type 0} (decoded : List ℕ → A) (width from n at : ℕ) (x : A) →
      at ≡ words_read s →
      x ≡ decoded (drop at ws) →
      words_read s ≡ from + width * n →
      x ≡ record_at decoded width from ws n
  next_of_kind decoded width from n at x a e f = e ∙ ap (λ (k : ℕ). decoded (drop k ws)) (a ∙ f)

  -- Its keys entered, it is in the indexes of its kind.

  pub bridges-kept :
      {sources addresses sources' addresses' : List ℕ} →
      BridgeIndexes sources addresses ws s.bridges →
      (b : Bridge) (at key : ℕ) →
      at ≡ words_read s →
      b ≡ bridge_of (drop at ws) →
      numbered (Ok tt) ≡ fault_at ws s bridge_layout →
      key ≡ address_key b →
      Entered sources sources' s.bridges b.sp_source_id →
      Entered addresses addresses' s.bridges key →
      BridgesKept ws sources' addresses' (Ok (with_bridge s))
  bridges-kept {sources' = sources'} {addresses' = addresses'} x b at key a e f k p q t n =
      let z : with_bridge s ≡ t = cc
      in subst (λ (y : Shape). BridgeIndexes sources' addresses' ws y.bridges) z (
      record {
        by_source = keyed-more x.by_source b.sp_source_id p (ap source_key there);
        by_address = keyed-more x.by_address key q (k ∙ ap address_key there);
      }
      )
    where
      after : NoneAfter 1 s
      after = none_after 1 s (not_lower ws s bridge_layout f)

      there : b ≡ record_at bridge_of 3 0 ws s.bridges
      there =
          next_of_kind bridge_of 3 0 s.bridges at b a e
          (omega (arith, after.no_half_links (omega arith), after.no_vids (omega arith), after.no_members (omega arith), after.no_traffic (omega arith)))

  pub half_links_kept :
      {ports links ports' links' : List ℕ} →
      HalfLinkIndexes ports links ws s →
      (h : HalfLink) (at key : ℕ) →
      at ≡ words_read s →
      h ≡ half_link_of (drop at ws) →
      numbered (Ok tt) ≡ fault_at ws s half_link_layout →
      key ≡ port_key h →
      Entered ports ports' s.half_links key →
      Entered links links' s.half_links h.link →
      HalfLinksKept ws ports' links' (Ok (with_half_link s))
  half_links_kept {ports' = ports'} {links' = links'} x h at key a e f k p l t n =
      let z : with_half_link s ≡ t = cc
      in subst (λ (y : Shape). HalfLinkIndexes ports' links' ws y) z (
      record {
        by_port = keyed-more x.by_port key p (k ∙ ap port_key there);
        by_number = keyed-more x.by_number h.link l (ap number_key there);
      }
      )
    where
      after : NoneAfter 2 s
      after = none_after 2 s (not_lower ws s half_link_layout f)

      there : h ≡ record_at half_link_of 3 (half_links_from s) ws s.half_links
      there =
          next_of_kind half_link_of 3 (half_links_from s) s.half_links at h a e
          (omega (arith, after.no_vids (omega arith), after.no_members (omega arith), after.no_traffic (omega arith)))

  pub members_kept :
      {members members' : List ℕ} →
      MemberIndex members ws (members_from s) s.members →
      (m : Member) (at key : ℕ) →
      at ≡ words_read s →
      m ≡ member_of (drop at ws) →
      numbered (Ok tt) ≡ fault_at ws s member_layout →
      key ≡ member_key m →
      Entered members members' s.members key →
      MembersKept ws members' (Ok (with_member s))
  members_kept {members' = members'} x m at key a e f k p t n =
      let z : with_member s ≡ t = cc
      in subst (λ (y : Shape). MemberIndex members' ws (members_from y) y.members) z (keyed-more x key p (k ∙ ap member_key there))
    where
      there : m ≡ record_at member_of 2 (members_from s) ws s.members
      there =
          next_of_kind member_of 2 (members_from s) s.members at m a e
          (omega (arith, (none_after 4 s (not_lower ws s member_layout f)).no_traffic (omega arith)))

  pub traffic_kept :
      {traffic traffic' : List ℕ} →
      TrafficIndex traffic ws (traffic_from s) s.traffic →
      (x : Traffic) (at key : ℕ) →
      at ≡ words_read s →
      x ≡ traffic_of (drop at ws) →
      key ≡ traffic_key x →
      Entered traffic traffic' s.traffic key →
      TrafficKept ws traffic' (Ok (with_traffic s))
  traffic_kept {traffic' = traffic'} k x at key a e f p t n =
      let z : with_traffic s ≡ t = cc
      in subst (λ (y : Shape). TrafficIndex traffic' ws (traffic_from y) y.traffic) z
      (keyed-more k key p (f ∙ ap traffic_key (next_of_kind traffic_of 2 (traffic_from s) s.traffic at x a e refl)))

-- A refusal keeps nothing.
pub refused_keeps : (P : Shape → Type 0) {r : Refusal} (t : Shape) → ◌≡◌ {A = Result Shape Refusal} (Err r) (Ok t) → P t
refused_keeps P t n = let z : ◌≡◌ {A = ℕ} 0 1 = cc in absurd (omega arith)
