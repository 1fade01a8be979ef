-- Sub-TLVs written and read (02, A2): the words of their bytes, the members that come back, how long they are. Assumes nothing.
use Rattle.std.specs.Prelude.{ℕ, ◌+◌, ◌*◌, ◌-◌, ◌/◌, ◌%◌, ◌^◌, ◌≤◌, ◌<◌, ◌≡◌, refl, ◌⊎◌, Bool, true, false, not, cond, ◌&&◌, ◌||◌, T, eqb, leb, ltb, length}
use Rattle.std.proofs.Common.{arith, sym, ap, ◌∙◌, inl, inr, eqb→eq, eq-eqb, ne_eqb, lt-ltb, le-ltb, le-leb}
use mathlib.Core.List.{List, [], ◌∷◌, ◌++◌, map, flat_map}
use Rattle.std.proofs.Math.Option.{Option, none, some}
use Rattle.lists.specs.Lists.{any_passes, first_passing}
use Rattle.lists.specs.Members.{In, EveryTwo}
use Rattle.lists.proofs.laws.NumberLaws.{is_true, is_false}
use Rattle.lists.proofs.laws.MemberLaws.{in_append, map-in}
use Rattle.lists.proofs.laws.SelectedLaws.{any-in}
use Rattle.lists.proofs.laws.DistinctLaws.{every-two-at}
use Rattle.lists.proofs.laws.GivenLaws.{flat_map-map, flat_map-same}
use Rattle.lists.proofs.laws.FirstPassing.{first_is}
use Rattle.rule.specs.Words.{words_of, bytes_of, word, bits}
use Rattle.rule.specs.Records.{Member, address}
use Rattle.rule.specs.Outcome.{Outcome, refused_if, list_answer}
use Rattle.rule.specs.Plan.{Plan, known_bridge, known_vid, bridge_at, has_vid, no_bridge}
use Rattle.rule.specs.PlanLaws.{PlanLaws, BridgesApart, MembersApart}
use Rattle.rule.specs.Check.{lowest_fault}
use Rattle.rule.specs.Services.{sub_tlv_words, b_mac_of, base_vid_of, isid_of, no_sub_tlv, has_address, advertiser, not_in_table, service_faults, judged_service, after_services, member_of_service, bit, member_record, records_of, plan_content, plan_read, service_of, sub_tlv, content_of}

-- Words and bytes

word_back : (w : ℕ) → ((w / 2 ^ 24 * 256 + w / 2 ^ 16 % 256) * 256 + w / 2 ^ 8 % 256) * 256 + w % 256 ≡ w
word_back w = omega arith

pub words_of_bytes : (ws : List ℕ) → words_of (flat_map bytes_of ws) ≡ ws
unfolding words_of flat_map
words_of_bytes [] = refl
words_of_bytes (w ∷ ws) =
    ap (λ (x : ℕ). x ∷ words_of (flat_map bytes_of ws)) (word_back w) ∙ ap (λ (t : List ℕ). w ∷ t) (words_of_bytes ws)

pub length_of_bytes : (ws : List ℕ) → length (flat_map bytes_of ws) ≡ 4 * length ws
unfolding flat_map
length_of_bytes [] = refl
length_of_bytes (w ∷ ws) = omega (arith, length_of_bytes ws)

-- The bytes of one sub-TLV

module _ (b_mac vid : ℕ) (services : List ℕ) where
  pub length_sub_tlv : length (sub_tlv b_mac vid services) ≡ 10 + 4 * length services
  length_sub_tlv = omega (arith, length_of_bytes (content_of b_mac vid services))

  pub sub_tlv_words_lem : sub_tlv_words (sub_tlv b_mac vid services) ≡ content_of b_mac vid services
  unfolding sub_tlv_words
  sub_tlv_words_lem = words_of_bytes (content_of b_mac vid services)

  pub b_mac_back : vid < 65536 → b_mac_of (content_of b_mac vid services) ≡ b_mac
  b_mac_back h = omega arith

  pub base_vid-back : vid < 4096 → base_vid_of (content_of b_mac vid services) ≡ vid
  base_vid-back h = omega arith

  pub vid_reserved : vid < 4096 → bits (word (content_of b_mac vid services) 1) 15 12 ≡ 0
  vid_reserved h = omega arith

  pub is_sub_tlv : no_sub_tlv (sub_tlv b_mac vid services) ≡ false
  is_sub_tlv = go (ltb (length (sub_tlv b_mac vid services)) 10) (eqb (8 + 4 * length services) (length (sub_tlv b_mac vid services) - 2))
      (leb 8 (8 + 4 * length services)) (eqb ((8 + 4 * length services - 8) % 4) 0)
      (le-ltb (length (sub_tlv b_mac vid services)) 10 (omega (arith, length_sub_tlv)))
      (eq-eqb (8 + 4 * length services) (length (sub_tlv b_mac vid services) - 2) (omega (arith, length_sub_tlv)))
      (le-leb 8 (8 + 4 * length services) (omega arith))
      (eq-eqb ((8 + 4 * length services - 8) % 4) 0 (omega arith))
    where
      go : (a b c d : Bool) → a ≡ false → b ≡ true → c ≡ true → d ≡ true → a || not (eqb 3 3) || not b || not (c && d) ≡ false
      go a b c d e f g h = rw (e, f, g, h) refl

-- The services of one sub-TLV

-- Two flags above a number of 24 bits.
module _ (i : ℕ) (h : i < 2 ^ 24) where
  abbrev flagged : ℕ → ℕ → ℕ
  flagged t r = t * 2 ^ 31 + r * 2 ^ 30 + i

  flags-back : (t r : ℕ) → t < 2 → r < 2 → (bits (flagged t r) 31 31 ≡ t) × (bits (flagged t r) 30 30 ≡ r) × (isid_of (flagged t r) ≡ i)
  flags-back t r k l = (omega arith, omega arith, omega arith)

  flags_reserved : (t r : ℕ) → t < 2 → r < 2 → bits (flagged t r) 29 24 ≡ 0
  flags_reserved t r k l = omega arith

  small : (b : Bool) → bit b < 2
  small true = omega arith
  small false = omega arith

  same_bit : (b : Bool) (n : ℕ) → n ≡ bit b → eqb n 1 ≡ b
  same_bit true n e = eq-eqb n 1 e
  same_bit false n e = ne_eqb n 1 (omega arith)

  top-bits : (t r : Bool)
      → (eqb (bits (flagged (bit t) (bit r)) 31 31) 1 ≡ t) × (eqb (bits (flagged (bit t) (bit r)) 30 30) 1 ≡ r)
      × (isid_of (flagged (bit t) (bit r)) ≡ i)
  top-bits t r =
      let (a, b, c) = flags-back (bit t) (bit r) (small t) (small r)
      in (same_bit t (bits (flagged (bit t) (bit r)) 31 31) a, same_bit r (bits (flagged (bit t) (bit r)) 30 30) b, c)

-- A member's service is read as that member.
pub service_back : (m : Member) → m.isid < 2 ^ 24 → member_of_service m.bridge m.vid (service_of m) ≡ m
service_back m h =
    let (t, r, s) = top-bits m.isid h m.transmits m.receives
    in λ i. record { transmits = t i; receives = r i; isid = s i; bridge = m.bridge; vid = m.vid }

-- No reserved bit of it is set.
pub service_reserved : (m : Member) → m.isid < 2 ^ 24 → bits (service_of m) 29 24 ≡ 0
service_reserved m h = flags_reserved m.isid h (bit m.transmits) (bit m.receives) (small m.isid h m.transmits) (small m.isid h m.receives)

-- Services within their range and with different I-SIDs have no fault.
abbrev IsidsApart : ℕ → ℕ → Type 0
IsidsApart e w = isid_of e ≡ isid_of w → ⊥

abbrev InRange : ℕ → Type 0
InRange w = (256 ≤ isid_of w) × (isid_of w ≤ 16777214)

faultless : (earlier : List ℕ) (w : ℕ) → InRange w → ((e : ℕ) → In e earlier → IsidsApart e w) → lowest_fault (service_faults earlier w) ≡ none
unfolding lowest_fault
faultless earlier w (l, g) f = go (leb 256 (isid_of w)) (leb (isid_of w) 16777214) (any_passes (λ e. eqb (isid_of e) (isid_of w)) earlier)
    (le-leb 256 (isid_of w) l) (le-leb (isid_of w) 16777214 g)
    (is_false (any_passes (λ e. eqb (isid_of e) (isid_of w)) earlier)
    (λ t. let (e, k, q) = any-in (λ e. eqb (isid_of e) (isid_of w)) earlier t in f e k (eqb→eq (isid_of e) (isid_of w) q)))
  where
    go : (a b c : Bool) → a ≡ true → b ≡ true → c ≡ false → ◌≡◌ {A = Option ℕ} (cond (not (a && b)) (some 6) (cond c (some 8) none)) none
    go a b c e f g = rw (e, f, g) refl

pub none_faulty : {A : Type 0} (o : Outcome A) (earlier more : List ℕ) → ((w : ℕ) → In w more → InRange w)
    → ((e w : ℕ) → In e earlier → In w more → IsidsApart e w) → EveryTwo IsidsApart more → after_services earlier more o ≡ o
unfolding after_services
none_faulty o earlier [] ranges apart E = refl
none_faulty {A} o earlier (w ∷ more) ranges apart E =
    ap (λ (f : Option ℕ). judged_service (length earlier) f (after_services (earlier ++ (w ∷ [])) more o))
    (faultless earlier w (ranges w (inl refl)) (λ e k. apart e w k (inl refl)))
    ∙ none_faulty o (earlier ++ (w ∷ [])) more (λ x k. ranges x (inr k)) (λ e x k l. both e x (in_append e earlier (w ∷ []) k) l) E.1
  where
    both : (e x : ℕ) → In e earlier ⊎ In e (w ∷ []) → In x more → IsidsApart e x
    both e x (inl k) l = apart e x k (inr l)
    both e x (inr (inl i)) l = rw i (E.0 x l)
    both e x (inr (inr k)) l = absurd k

-- One sub-TLV comes back

module _ (p : Plan) (L : PlanLaws p) (b vid : ℕ) where
  -- An address is one bridge's only.
  pub advertiser_is : b < length p.bridges → first_passing (has_address (address (bridge_at p b))) p.bridges ≡ b
  advertiser_is h = first_is (has_address (address (bridge_at p b))) p.bridges b no_bridge h
      (eq-eqb (address (bridge_at p b)) (address (bridge_at p b)) refl)
      (λ k l. ne_eqb (address (bridge_at p k)) (address (bridge_at p b)) (every-two-at BridgesApart p.bridges no_bridge L.bridges.apart k b l h).addresses)

  pub vid-fits : T (known_vid p vid) → vid ≤ 4094
  vid-fits t = let (v, k, e) = any-in (has_vid vid) p.vids t in omega (arith, (L.vids.fits v k).greatest, eqb→eq v.vid vid e)

  module _ (known : b < length p.bridges) (t : T (known_vid p vid)) where
    abbrev b_mac : ℕ
    b_mac = address (bridge_at p b)

    module _ (services : List ℕ) where
      abbrev content : List ℕ
      content = content_of b_mac vid services

      advertised : advertiser p content ≡ b
      advertised =
          ap (λ (a : ℕ). first_passing (has_address a) p.bridges) (b_mac_back b_mac vid services (omega (arith, vid-fits t)))
          ∙ advertiser_is known

      base_vid : base_vid_of content ≡ vid
      base_vid = base_vid-back b_mac vid services (omega (arith, vid-fits t))

      in_table : not_in_table p content ≡ false
      in_table = ap (λ (n : ℕ). not (known_bridge p n && known_vid p (base_vid_of content))) advertised
          ∙ ap (λ (n : ℕ). not (known_bridge p b && known_vid p n)) base_vid
          ∙ go (known_bridge p b) (known_vid p vid) (lt-ltb b (length p.bridges) known) (is_true (known_vid p vid) t)
        where
          go : (k v : Bool) → k ≡ true → v ≡ true → not (k && v) ≡ false
          go k v e f = rw (e, f) refl

      -- What is read of a sub-TLV of the bridge.
      read_one : plan_read p (sub_tlv b_mac vid services)
          ≡ after_services [] services (list_answer (records_of b vid services))
      read_one =
          ap (λ (k : Bool). refused_if k 15 (plan_content p (sub_tlv_words (sub_tlv b_mac vid services)))) (is_sub_tlv b_mac vid services)
          ∙ ap (plan_content p) (sub_tlv_words_lem b_mac vid services)
          ∙ ap (λ (k : Bool). refused_if k 16 (after_services [] services (list_answer (records_of (advertiser p content) (base_vid_of content) services)))) in_table
          ∙ ap (λ (n : ℕ). after_services [] services (list_answer (records_of n (base_vid_of content) services))) advertised
          ∙ ap (λ (n : ℕ). after_services [] services (list_answer (records_of b n services))) base_vid

    -- Members of the bridge and the VID, each another I-SID.
    module _ (ms : List Member) (fits : (m : Member) → In m ms → (m.bridge ≡ b) × (m.vid ≡ vid) × (256 ≤ m.isid) × (m.isid ≤ 16777214))
        (apart : EveryTwo MembersApart ms) where
      isid-back : (m : Member) → In m ms → isid_of (service_of m) ≡ m.isid
      isid-back m k = (top-bits m.isid (omega (arith, (fits m k).3)) m.transmits m.receives).2

      in_range : (w : ℕ) → In w (map service_of ms) → InRange w
      in_range w k =
          let (m, i, e) = map-in service_of w ms k
          in rw e (omega (arith, isid-back m i, (fits m i).2), omega (arith, isid-back m i, (fits m i).3))

      isids_apart : (xs : List Member) → ((m : Member) → In m xs → In m ms) → EveryTwo MembersApart xs → EveryTwo IsidsApart (map service_of xs)
      isids_apart [] f E = tt
      isids_apart (x ∷ xs) f E = (others, isids_apart xs (λ m k. f m (inr k)) E.1)
        where
          others : (w : ℕ) → In w (map service_of xs) → IsidsApart (service_of x) w
          others w k e =
              let (m, i, g) = map-in service_of w xs k
              in let x_in = f x (inl refl) in let m-in = f m (inr i)
              in E.0 m i ((fits x x_in).0 ∙ sym (fits m m-in).0) (sym (isid-back x x_in) ∙ e ∙ ap isid_of g ∙ isid-back m m-in)
              ((fits x x_in).1 ∙ sym (fits m m-in).1)

      records-back : records_of b vid (map service_of ms) ≡ flat_map member_record ms
      records-back =
          flat_map-map (λ w. member_record (member_of_service b vid w)) service_of ms
          ∙ flat_map-same (λ m. member_record (member_of_service b vid (service_of m))) member_record ms
          (λ m k. ap (λ (n : ℕ). member_record (member_of_service n vid (service_of m))) (sym (fits m k).0)
          ∙ ap (λ (n : ℕ). member_record (member_of_service m.bridge n (service_of m))) (sym (fits m k).1)
          ∙ ap member_record (service_back m (omega (arith, (fits m k).3))))

      pub members-back : plan_read p (sub_tlv b_mac vid (map service_of ms)) ≡ list_answer (flat_map member_record ms)
      members-back =
          read_one (map service_of ms)
          ∙ none_faulty (list_answer (records_of b vid (map service_of ms))) [] (map service_of ms)
          in_range (λ e w k. absurd k) (isids_apart ms (λ m k. k) apart)
          ∙ ap list_answer records-back
