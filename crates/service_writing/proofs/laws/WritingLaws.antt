-- What links the writer of sub-TLVs to the definitions of rule (02, A2): the services gathered, the bytes of a sub-TLV and of all.
-- Assumes nothing.
use Rattle.std.specs.Prelude.{ℕ, ◌+◌, ◌*◌, ◌-◌, ◌≤◌, ◌<◌, min, ◌≡◌, ◌⊎◌, true, false, ◌&&◌, length, set, take, drop}
use Rattle.std.proofs.Common.{arith, ◌∙◌, subst, inl, inr, length-append, length-take, length-drop, take_all, eq-eqb, ne_eqb}
use Rattle.std.proofs.Math.Path.{refl, sym, ap}
use mathlib.Core.List.{List, [], ◌∷◌, ◌++◌, flat_map}
use Rattle.std.proofs.Math.Dec.{eqb}
use Rattle.std.proofs.lemmas.List.{length-map}
use Rattle.lists.specs.Lists.{rising, spliced}
use Rattle.lists.specs.Appending.{Appended, Room, each_of}
use Rattle.lists.proofs.laws.AppendingLaws.{appended-length, appended_nothing, appended-both, one_word}
use Rattle.lists.proofs.laws.NumberLaws.{le_or_gt}
use Rattle.lists.proofs.laws.DistinctLaws.{selected-parts}
use Rattle.lists.proofs.laws.GivenLaws.{flat_map-one, flat_map-map, flat_map-selected, by_places}
use Rattle.rule.specs.Words.{words_of, bytes_of, word}
use Rattle.rule.specs.Records.{Member, member_of, address}
use Rattle.rule.specs.Outcome.{Outcome, answered, refused_as, Written, list_answer, lent_to}
use Rattle.rule.specs.Plan.{Plan, known_bridge, known_vid, bridge_at}
use Rattle.rule.specs.Services.{members_of, service_of, sub_tlv, services_part, sub_tlv_count, services_written, sub_tlv_at, sub_tlvs, plan_write}
use Rattle.rule.proofs.laws.CallLaws.{fits_in}
use Rattle.rule.proofs.laws.ComesBackProved.{length_of_sub_tlvs}
use Rattle.table.specs.declared.shape.Shape.{Shape}
use Rattle.table.specs.Positions.{members_from, records_at, plan_at}
use Rattle.table.specs.Numbered.{member_number}
use Rattle.table.proofs.laws.PositionLaws.{record-in}
use Rattle.verdict.specs.Examination.{Checked}
use Rattle.service_reading.proofs.laws.NamedLaws.{first_lacking, second_lacking, none_lacking}
use Rattle.service_writing.specs.Heads.{head_of}
use Rattle.service_writing.specs.Gathered.{service_if, service_at}

-- The services gathered

-- A record of another bridge or VID adds nothing; one of both adds its service.
module _ (ws : List ℕ) (s : Shape) (b vid j : ℕ) (m : Member) (e : m ≡ member_number ws s j) where
  here : service_if b vid m ≡ service_at ws s b vid j
  unfolding service_at
  here = ap (service_if b vid) e

  pub other-bridge : (m.bridge ≡ b → ⊥) → (lent : List ℕ) (at : ℕ) → Appended lent at (service_at ws s b vid j) lent at
  other-bridge d lent at = subst (λ (t : List ℕ). Appended lent at t lent at) (sym nothing ∙ here) (appended_nothing lent at)
    where
      nothing : service_if b vid m ≡ []
      nothing = rw (ne_eqb m.bridge b d) refl

  module _ (same-bridge : m.bridge ≡ b) where
    pub other-vid : (m.vid ≡ vid → ⊥) → (lent : List ℕ) (at : ℕ) → Appended lent at (service_at ws s b vid j) lent at
    other-vid d lent at = subst (λ (t : List ℕ). Appended lent at t lent at) (sym nothing ∙ here) (appended_nothing lent at)
      where
        nothing : service_if b vid m ≡ []
        nothing = rw (eq-eqb m.bridge b same-bridge, ne_eqb m.vid vid d) refl

    module _ (same-vid : m.vid ≡ vid) where
      one : service_at ws s b vid j ≡ service_of m ∷ []
      one = sym here ∙ rw (eq-eqb m.bridge b same-bridge, eq-eqb m.vid vid same-vid) refl

      pub service_room : (lent : List ℕ) (at : ℕ) → Room lent at (service_at ws s b vid j) → at < length lent
      service_room lent at r = omega (arith, r, ap (λ (t : List ℕ). length t) one)

      pub service_noted : (lent : List ℕ) (at service : ℕ) → service ≡ service_of m → at < length lent
          → Appended lent at (service_at ws s b vid j) (set lent at service) (at + 1)
      service_noted lent at service f l =
          subst (λ (t : List ℕ). Appended lent at t (set lent at service) (at + 1)) (ap (λ (w : ℕ). w ∷ []) f ∙ sym one) (one_word lent at service l)

-- All of them, record by record.
module _ (ws : List ℕ) (s : Shape) (b vid : ℕ) where
  pub services-each : each_of (service_at ws s b vid) s.members ≡ services_written (plan_at ws s) b vid
  unfolding service_at records_at
  services-each =
      sym (flat_map-map (service_if b vid) (member_number ws s) (rising 0 s.members))
      ∙ sym (flat_map-selected (λ m. service_of m ∷ []) (λ m. eqb m.bridge b && eqb m.vid vid) (plan_at ws s).members)
      ∙ flat_map-one service_of (members_of (plan_at ws s) b vid)

module _ {t : List ℕ} {s : Shape} (C : Checked t s) (b vid : ℕ) where
  pub few-services : length (services_written (plan_at (words_of t) s) b vid) ≤ 64
  few-services = omega (
    arith,
    length-map (members_of (plan_at (words_of t) s) b vid) service_of,
    selected-parts (λ m. eqb m.bridge b && eqb m.vid vid) (plan_at (words_of t) s).members,
    C.laws.members.few,
  )

  pub services-room : (lent : List ℕ) → 64 ≤ length lent → Room lent 0 (each_of (service_at (words_of t) s b vid) s.members)
  services-room lent l = omega (arith, few-services, ap (λ (x : List ℕ). length x) (services-each (words_of t) s b vid))

  pub services_gathered : {lent written : List ℕ} {end : ℕ} → Appended lent 0 (each_of (service_at (words_of t) s b vid) s.members) written end
      → Appended lent 0 (services_written (plan_at (words_of t) s) b vid) written end × (end ≤ 64)
  services_gathered {lent} {written} {end} A =
      let B = subst (λ (x : List ℕ). Appended lent 0 x written end) (services-each (words_of t) s b vid) A
      in (B, omega (arith, B.end_is, few-services))

  -- A member's I-SID has 24 bits.
  pub isid-fits : (j : ℕ) → j < s.members → (member_number (words_of t) s j).isid < 16777216
  isid-fits j l = omega (arith, (C.laws.members.fits (member_number (words_of t) s j) (record-in member_of 2 (members_from s) (words_of t) s.members j l)).isid)

-- The bytes of a sub-TLV

-- Services one after the other, by their numbers.
abbrev pub bytes_at : List ℕ → ℕ → List ℕ
bytes_at services n = bytes_of (word services n)

pub bytes_each : (services : List ℕ) → each_of (bytes_at services) (length services) ≡ flat_map bytes_of services
bytes_each services = sym (flat_map-map bytes_of (word services) (rising 0 (length services))) ∙ ap (flat_map bytes_of) (by_places services 0)

pub bytes_room : (services bytes : List ℕ) (at : ℕ) → Room bytes at (flat_map bytes_of services) → Room bytes at (each_of (bytes_at services) (length services))
bytes_room services bytes at r = rw (bytes_each services) r

pub bytes_written : (services : List ℕ) {bytes written : List ℕ} {at end : ℕ} → Appended bytes at (each_of (bytes_at services) (length services)) written end
    → Appended bytes at (flat_map bytes_of services) written end
bytes_written services {bytes} {written} {at} {end} A = subst (λ (t : List ℕ). Appended bytes at t written end) (bytes_each services) A

module _ (b_mac vid : ℕ) (services : List ℕ) where
  -- Its head, then its services.
  pub head_first : head_of b_mac vid (length services) ++ flat_map bytes_of services ≡ sub_tlv b_mac vid services
  unfolding flat_map
  head_first = refl

  length_head : length (head_of b_mac vid (length services)) ≡ 10
  length_head = refl

  module _ (bytes : List ℕ) (at : ℕ) (room : Room bytes at (sub_tlv b_mac vid services)) where
    whole_length : length (sub_tlv b_mac vid services) ≡ 10 + length (flat_map bytes_of services)
    whole_length = ap (λ (t : List ℕ). length t) (sym head_first) ∙ length-append (head_of b_mac vid (length services)) (flat_map bytes_of services)

    pub head_room : at + 10 ≤ length bytes
    head_room = omega (arith, room, whole_length)

    module _ {written : List ℕ} {end : ℕ} (A : Appended bytes at (head_of b_mac vid (length services)) written end) where
      pub services-after_head : Room written end (flat_map bytes_of services)
      services-after_head = omega (arith, room, whole_length, A.end_is, appended-length A (omega (arith, head_room)))

      pub sub_tlv_written : {last : List ℕ} {end' : ℕ} → Appended written end (flat_map bytes_of services) last end'
          → Appended bytes at (sub_tlv b_mac vid services) last end'
      sub_tlv_written {last} {end'} B =
          subst (λ (t : List ℕ). Appended bytes at t last end') head_first (appended-both A B (omega (arith, head_room)))

-- All sub-TLVs

-- The part of the services that is lent for the sub-TLV `i`.
pub part_lent : (services : List ℕ) (i from to : ℕ) → from ≡ 60 * i → to ≡ min (from + 60) (length services) → from ≤ length services
    → take (to - from) (drop from services) ≡ services_part services i
part_lent services i from to e f l = go (le_or_gt (from + 60) (length services)) ∙ ap (λ (k : ℕ). take 60 (drop k services)) e
  where
    go : (from + 60 ≤ length services) ⊎ (length services < from + 60) → take (to - from) (drop from services) ≡ take 60 (drop from services)
    go (inl h) = ap (λ (k : ℕ). take k (drop from services)) (let z : to - from ≡ 60 = omega (arith, f) in z)
    go (inr h) =
        take_all (to - from) (drop from services) (omega (arith, f, length-drop from services))
        ∙ sym (take_all 60 (drop from services) (omega (arith, length-drop from services)))

-- A sub-TLV of those that there are begins within the services.
pub begins-within : (services : List ℕ) (i : ℕ) → i < sub_tlv_count services → 60 * i ≤ length services
begins-within services i l = omega arith

module _ (services : List ℕ) (i to : ℕ) (e : to ≡ min (60 * i + 60) (length services)) (l : i < sub_tlv_count services) where
  lent_is : take (to - 60 * i) (drop (60 * i) services) ≡ services_part services i
  lent_is = part_lent services i (60 * i) to refl e (begins-within services i l)

  pub part_few : length (take (to - 60 * i) (drop (60 * i) services)) ≤ 60
  part_few = omega (arith, e, length-take (to - 60 * i) (drop (60 * i) services))

module _ (b_mac vid : ℕ) (services : List ℕ) (i to : ℕ) (e : to ≡ min (60 * i + 60) (length services)) (l : i < sub_tlv_count services) where
  pub part_room : (bytes : List ℕ) (at : ℕ) → Room bytes at (sub_tlv_at b_mac vid services i)
      → Room bytes at (sub_tlv b_mac vid (take (to - 60 * i) (drop (60 * i) services)))
  part_room bytes at r = subst (λ (t : List ℕ). Room bytes at (sub_tlv b_mac vid t)) (sym (lent_is services i to e l)) r

  pub part_written : {bytes written : List ℕ} {at end : ℕ} → Appended bytes at (sub_tlv b_mac vid (take (to - 60 * i) (drop (60 * i) services))) written end
      → Appended bytes at (sub_tlv_at b_mac vid services i) written end
  part_written {bytes} {written} {at} {end} A =
      subst (λ (t : List ℕ). Appended bytes at (sub_tlv b_mac vid t) written end) (lent_is services i to e l) A

-- How many bytes they have.
pub needed_is : (b_mac vid : ℕ) (services : List ℕ) (count : ℕ) → count ≡ sub_tlv_count services
    → 10 * count + 4 * length services ≡ length (sub_tlvs b_mac vid services)
needed_is b_mac vid services count e = ap (λ (n : ℕ). 10 * n + 4 * length services) e ∙ sym (length_of_sub_tlvs b_mac vid services)

-- What is answered

pub all-written : (words list : List ℕ) (n : ℕ) → n ≡ length words → n ≤ length list → {list' : List ℕ} → list' ≡ spliced list 0 words
    → ◌≡◌ {A = Outcome ℕ × List ℕ} (answered n, list') (lent_to list (list_answer words))
all-written words list n e l {list'} f = ap (λ (k : ℕ). (answered k, list')) e ∙ fits_in words list (omega arith) f

module _ (p : Plan) (b vid : ℕ) (list : List ℕ) where
  abbrev written : Outcome (Written ℕ)
  written = list_answer (sub_tlvs (address (bridge_at p b)) vid (services_written p b vid))

  pub no_bridge_lem : known_bridge p b ≡ false → ◌≡◌ {A = Outcome ℕ × List ℕ} (refused_as 11, list) (lent_to list (plan_write p b vid))
  no_bridge_lem e = first_lacking list 11 written (known_bridge p b) (known_vid p vid) e

  pub no_vid_lem : known_vid p vid ≡ false → ◌≡◌ {A = Outcome ℕ × List ℕ} (refused_as 11, list) (lent_to list (plan_write p b vid))
  no_vid_lem e = second_lacking list 11 written (known_bridge p b) (known_vid p vid) e

  pub both-known : known_bridge p b ≡ true → known_vid p vid ≡ true → (o : Outcome ℕ × List ℕ) (b_mac : ℕ) (services : List ℕ)
      → b_mac ≡ address (bridge_at p b) → services ≡ services_written p b vid
      → o ≡ lent_to list (list_answer (sub_tlvs b_mac vid services)) → o ≡ lent_to list (plan_write p b vid)
  both-known k v o b_mac services e f g =
      g
      ∙ ap (λ (n : ℕ). lent_to list (list_answer (sub_tlvs n vid services))) e
      ∙ ap (λ (t : List ℕ). lent_to list (list_answer (sub_tlvs (address (bridge_at p b)) vid t))) f
      ∙ none_lacking list 11 written (known_bridge p b) (known_vid p vid) k v
