-- What links the reader of a sub-TLV to the definitions of rule (02, A2): its bytes, the faults of its services, the records written.
-- Assumes nothing.
use Prim.Native.Nat.{ℕ, suc, ◌+◌, ◌*◌, ◌-◌, ◌/◌, ◌%◌, ◌≤◌, ◌<◌}
use native.Mathlib.Omega.{arith}
use Rattle.std.specs.Prelude.{◌≡◌, ◌⊎◌, Bool, true, false, Ok, Err, not, ◌&&◌, ◌||◌, T, eqb, leb, ltb, set, drop}
use Rattle.std.proofs.Math.Path.{refl, sym, ap}
use Rattle.std.proofs.Common.{◌∙◌, subst, length-drop, drop_of_length-le, length-take-le, eq-eqb, ne_eqb, eqb-true, ltb-false, lt-ltb, le-ltb, le-leb}
use mathlib.Core.List.{List, [], ◌∷◌, ◌++◌}
use Rattle.std.proofs.Math.Option.{Option, none, some}
use Rattle.std.proofs.Math.Logic.{inl, inr}
use Rattle.std.proofs.Math.ListN.{length, take}
use Rattle.std.proofs.Math.Seq.{take-suc}
use Rattle.lists.specs.Lists.{rising, any_passes, spliced}
use Rattle.lists.specs.Appending.{Appended, Room, each_of}
use Rattle.lists.proofs.laws.AppendingLaws.{two-words}
use Rattle.lists.proofs.laws.MemberLaws.{drop-next}
use Rattle.lists.proofs.laws.SelectedLaws.{any-map}
use Rattle.lists.proofs.laws.Searching.{Searching, search_on, search_finds, search_ends}
use Rattle.lists.proofs.laws.GivenLaws.{by_places, flat_map-map, front_of_rising, length-flat_map-each}
use Rattle.rule.specs.Words.{words_of, word, bits}
use Rattle.rule.specs.Records.{in_limits, isid_limits}
use Rattle.rule.specs.Outcome.{Outcome, answered, refused, refused_as, refused_if, Written, list_answer, lent_to}
use Rattle.rule.specs.Plan.{Plan, known_bridge, known_vid}
use Rattle.rule.specs.Check.{lowest_fault}
use Rattle.rule.specs.Services.{type_byte, length_byte, sub_tlv_words, base_vid_of, services_of, isid_of, no_sub_tlv, advertiser, service_faults, judged_service, after_services, member_of_service, member_first, member_record, records_of, plan_content, plan_read}
use Rattle.rule.specs.Answers.{kind_number, read_services_values}
use Rattle.rule.specs.declared.answer.RecordKind.{RecordKind}
use Rattle.rule.specs.declared.answer.ReadServicesAnswer.{ReadServicesAnswer}
use Rattle.rule.proofs.laws.MemberWords.{bit-back}
use Rattle.rule.proofs.laws.CallLaws.{refused-not-answered, fits_not, fits_in}
use Rattle.readers.proofs.laws.WordLaws.{count_of_words, part_from, words-from}
use Rattle.rule.specs.Refusals.{fault_number}
use Rattle.rule.specs.declared.refusal.Fault.{Fault}
use Rattle.faults.specs.Faults.{numbered}
use Rattle.service_reading.proofs.laws.NamedLaws.{first_lacking, second_lacking, none_lacking}

pub true-not-false : true ≡ false → ⊥
true-not-false e = subst T e tt

-- The bytes of a sub-TLV

module _ (bytes : List ℕ) where
  pub too_few : length bytes < 10 → true ≡ no_sub_tlv bytes
  too_few l = go (ltb (length bytes) 10) _ _ _ (lt-ltb (length bytes) 10 l)
    where
      go : (a b c d : Bool) → a ≡ true → true ≡ a || b || c || d
      go a b c d e = rw e refl

  module _ (enough : 10 ≤ length bytes) where
    pub other_type : (type_byte bytes ≡ 3 → ⊥) → true ≡ no_sub_tlv bytes
    other_type d = go (ltb (length bytes) 10) (eqb (type_byte bytes) 3) _ _ (le-ltb (length bytes) 10 enough) (ne_eqb (type_byte bytes) 3 d)
      where
        go : (a b c d : Bool) → a ≡ false → b ≡ false → true ≡ a || not b || c || d
        go a b c d e f = rw (e, f) refl

    module _ (type_is : type_byte bytes ≡ 3) where
      pub other_length : (length_byte bytes ≡ length bytes - 2 → ⊥) → true ≡ no_sub_tlv bytes
      other_length d = go (ltb (length bytes) 10) (eqb (type_byte bytes) 3) (eqb (length_byte bytes) (length bytes - 2)) _
          (le-ltb (length bytes) 10 enough) (eq-eqb (type_byte bytes) 3 type_is) (ne_eqb (length_byte bytes) (length bytes - 2) d)
        where
          go : (a b c d : Bool) → a ≡ false → b ≡ true → c ≡ false → true ≡ a || not b || not c || d
          go a b c d e f g = rw (e, f, g) refl

      pub by_multiple : (len : ℕ) → len ≡ length_byte bytes → length_byte bytes ≡ length bytes - 2 → not (eqb ((len - 8) % 4) 0) ≡ no_sub_tlv bytes
      by_multiple len e l = ap (λ (n : ℕ). not (eqb ((n - 8) % 4) 0)) e
          ∙ go (ltb (length bytes) 10) (eqb (type_byte bytes) 3) (eqb (length_byte bytes) (length bytes - 2)) (leb 8 (length_byte bytes))
          (eqb ((length_byte bytes - 8) % 4) 0)
          (le-ltb (length bytes) 10 enough) (eq-eqb (type_byte bytes) 3 type_is) (eq-eqb (length_byte bytes) (length bytes - 2) l)
          (le-leb 8 (length_byte bytes) (omega arith))
        where
          go : (a b c d e : Bool) → a ≡ false → b ≡ true → c ≡ true → d ≡ true → not e ≡ a || not b || not c || not (d && e)
          go a b c d e f g h i = rw (f, g, h, i) refl

  -- Of a sub-TLV: at least eight bytes follow the length, which is a byte and counts them.
  pub counted : no_sub_tlv bytes ≡ false → (10 ≤ length bytes) × (length_byte bytes ≡ length bytes - 2)
  counted e = go (ltb (length bytes) 10) (not (eqb (type_byte bytes) 3)) (eqb (length_byte bytes) (length bytes - 2)) _ e (λ f. ltb-false (length bytes) 10 f)
      (λ f. eqb-true (length_byte bytes) (length bytes - 2) f)
    where
      go : (a b c d : Bool) → a || b || not c || d ≡ false → (a ≡ false → 10 ≤ length bytes) → (c ≡ true → length_byte bytes ≡ length bytes - 2)
          → (10 ≤ length bytes) × (length_byte bytes ≡ length bytes - 2)
      go true b c d e f g = absurd (true-not-false e)
      go false true c d e f g = absurd (true-not-false e)
      go false false true d e f g = (f refl, g refl)
      go false false false d e f g = absurd (true-not-false e)

  -- At least eight bytes follow the length, and no more than a length can count.
  pub content_bounds : no_sub_tlv bytes ≡ false → length bytes ≤ 257
      → (8 ≤ length (take (length bytes - 2) (drop 2 bytes))) × (length (take (length bytes - 2) (drop 2 bytes)) ≤ 255)
  content_bounds e h =
      let n = ap (λ (t : List ℕ). length t) (part_from 2 bytes) ∙ length-drop 2 bytes in (omega (arith, n, counted e), omega (arith, n, h))

  -- The words of what follows the length.
  pub content-words : words_of (take (length bytes - 2) (drop 2 bytes)) ≡ sub_tlv_words bytes
  unfolding sub_tlv_words
  content-words = ap words_of (part_from 2 bytes)

-- The words of the services.
pub service_words : (content : List ℕ) → words_of (take (length content - 8) (drop 8 content)) ≡ services_of (words_of content)
service_words content = words-from 2 content

pub services-few : (content : List ℕ) → length content ≤ 255 → length (take (length content - 8) (drop 8 content)) ≤ 247
services-few content h = omega (arith, ap (λ (t : List ℕ). length t) (part_from 8 content), length-drop 8 content)

-- "Reading takes up to 61": the length is a byte.
pub up_to_61 : (bytes : List ℕ) → length_byte bytes < 256 → no_sub_tlv bytes ≡ false → length (services_of (sub_tlv_words bytes)) ≤ 61
unfolding sub_tlv_words
up_to_61 bytes h e = omega (arith, length-drop 2 (words_of (drop 2 bytes)), count_of_words (drop 2 bytes), length-drop 2 bytes, counted bytes e)

-- The faults of services

-- Those among the first `n` that pass a test, by their numbers.
pub in-front : (test : ℕ → Bool) (ws : List ℕ) (n : ℕ) → n ≤ length ws → any_passes (λ k. test (word ws k)) (rising 0 n) ≡ any_passes test (take n ws)
in-front test ws n l =
    sym (any-map (word ws) test (rising 0 n))
    ∙ ap (λ (t : List ℕ). any_passes test t) (sym (front_of_rising (word ws) 0 n (length ws) l) ∙ ap (λ (t : List ℕ). take n t) (by_places ws 0))

-- A service's I-SID is sought among the first `n`.
abbrev pub SeekingIsid : List ℕ → ℕ → ℕ → ℕ → Type 0
SeekingIsid ws isid n k = Searching (λ i. eqb (isid_of (word ws i)) isid) n k

module _ (ws : List ℕ) (isid n k : ℕ) (S : SeekingIsid ws isid n k) where
  module _ (l : k < n) (service other : ℕ) (e : service ≡ word ws k) (f : other ≡ isid_of service) where
    pub isid_differs : (other ≡ isid → ⊥) → SeekingIsid ws isid n (k + 1)
    isid_differs d = search_on S l (ne_eqb (isid_of (word ws k)) isid (λ g. d (f ∙ ap isid_of e ∙ g)))

    pub isid-found : n ≤ length ws → other ≡ isid → true ≡ any_passes (λ w. eqb (isid_of w) isid) (take n ws)
    isid-found m g =
        search_finds S l (eq-eqb (isid_of (word ws k)) isid (sym (f ∙ ap isid_of e) ∙ g)) ∙ in-front (λ w. eqb (isid_of w) isid) ws n m

  pub isid-new : n ≤ k → n ≤ length ws → false ≡ any_passes (λ w. eqb (isid_of w) isid) (take n ws)
  isid-new h m = search_ends S h ∙ in-front (λ w. eqb (isid_of w) isid) ws n m

-- The lowest fault of a service with the I-SID `isid`, by what the two tests gave.
module _ (earlier : List ℕ) (service isid : ℕ) (e : isid ≡ isid_of service) (within : Bool) (f : within ≡ in_limits isid_limits isid) where
  limited : in_limits isid_limits (isid_of service) ≡ within
  limited = sym (f ∙ ap (in_limits isid_limits) e)

  pub out_of_range : within ≡ false → numbered (Err Fault.OutOfRange) ≡ lowest_fault (service_faults earlier service)
  unfolding lowest_fault
  out_of_range g = rw (limited ∙ g) refl

  module _ (again : Bool) (h : again ≡ any_passes (λ w. eqb (isid_of w) isid) earlier) where
    repeats : any_passes (λ w. eqb (isid_of w) (isid_of service)) earlier ≡ again
    repeats = sym (h ∙ ap (λ (n : ℕ). any_passes (λ w. eqb (isid_of w) n) earlier) e)

    pub repeated : within ≡ true → again ≡ true → numbered (Err Fault.Repeated) ≡ lowest_fault (service_faults earlier service)
    unfolding lowest_fault
    repeated g i = rw (limited ∙ g, repeats ∙ i) refl

    pub faultless : within ≡ true → again ≡ false → numbered (Ok tt) ≡ lowest_fault (service_faults earlier service)
    unfolding lowest_fault
    faultless g i = rw (limited ∙ g, repeats ∙ i) refl

-- The first `n` services have no fault.
pub record Judging {A : Type 0} (ws : List ℕ) (o : Outcome A) (n : ℕ) : Type 0 where
  pub within : n ≤ length ws
  pub rest : after_services (take n ws) (drop n ws) o ≡ after_services [] ws o

pub judging_starts : {A : Type 0} (ws : List ℕ) (o : Outcome A) → Judging ws o 0
judging_starts ws o = record { within = omega arith; rest = refl }

module _ {A : Type 0} {ws : List ℕ} {o : Outcome A} {n : ℕ} (J : Judging ws o n) where
  abbrev fault_of : Option ℕ
  fault_of = lowest_fault (service_faults (take n ws) (word ws n))

  next : n < length ws → after_services (take n ws) (drop n ws) o
      ≡ judged_service n fault_of (after_services (take (n + 1) ws) (drop (n + 1) ws) o)
  unfolding after_services
  next l =
      ap (λ (t : List ℕ). after_services (take n ws) t o) (drop-next ws n (n + 1) 0 (omega arith) l)
      ∙ ap (λ (k : ℕ). judged_service k fault_of (after_services (take n ws ++ (word ws n ∷ [])) (drop (n + 1) ws) o)) (length-take-le n ws J.within)
      ∙ ap (λ (t : List ℕ). judged_service n fault_of (after_services t (drop (n + 1) ws) o)) (sym longer)
    where
      longer : take (n + 1) ws ≡ take n ws ++ (word ws n ∷ [])
      longer = ap (λ (k : ℕ). take k ws) (let z : n + 1 ≡ suc n = omega arith in z) ∙ take-suc ws n 0 l

  pub judging_on : n < length ws → numbered (Ok tt) ≡ fault_of → Judging ws o (n + 1)
  judging_on l e = record {
    within = omega arith;
    rest =
        ap (λ (f : Option ℕ). judged_service n f (after_services (take (n + 1) ws) (drop (n + 1) ws) o)) e
        ∙ sym (next l) ∙ J.rest;
  }

  pub judging_refuses :
      n < length ws → (fault : Fault) → numbered (Err fault) ≡ fault_of → (number : ℕ) → number ≡ fault_number fault
      → refused number (some 4) n ≡ after_services [] ws o
  judging_refuses l fault e number g =
      ap (λ (k : ℕ). refused k (some 4) n) g
      ∙ ap (λ (f : Option ℕ). judged_service n f (after_services (take (n + 1) ws) (drop (n + 1) ws) o)) e ∙ sym (next l) ∙ J.rest

  pub judging_ends : length ws ≤ n → o ≡ after_services [] ws o
  unfolding after_services
  judging_ends l = sym (ap (λ (t : List ℕ). after_services (take n ws) t o) (drop_of_length-le ws l)) ∙ J.rest

-- What follows services does not change whether one has a fault.
module _ {A B : Type 0} (o : Outcome A) (u : Outcome B) where
  abbrev Alike : List ℕ → List ℕ → Type 0
  Alike earlier ws = ((after_services earlier ws o ≡ o) × (after_services earlier ws u ≡ u))
      ⊎ ((number : ℕ) × (at : ℕ) × (after_services earlier ws o ≡ refused number (some 4) at) × (after_services earlier ws u ≡ refused number (some 4) at))

  alike : (earlier ws : List ℕ) → Alike earlier ws
  unfolding after_services
  alike earlier [] = inl (refl, refl)
  alike earlier (w ∷ ws) = go (lowest_fault (service_faults earlier w)) (alike (earlier ++ (w ∷ [])) ws)
    where
      go : (f : Option ℕ) → Alike (earlier ++ (w ∷ [])) ws
          → ((judged_service (length earlier) f (after_services (earlier ++ (w ∷ [])) ws o) ≡ o)
          × (judged_service (length earlier) f (after_services (earlier ++ (w ∷ [])) ws u) ≡ u))
          ⊎ ((number : ℕ) × (at : ℕ) × (judged_service (length earlier) f (after_services (earlier ++ (w ∷ [])) ws o) ≡ refused number (some 4) at)
          × (judged_service (length earlier) f (after_services (earlier ++ (w ∷ [])) ws u) ≡ refused number (some 4) at))
      go none ih = ih
      go (some number) ih = inr (number, length earlier, refl, refl)

-- How many services there are.
pub service_count : (services : List ℕ) → length services / 4 ≡ length (words_of services)
service_count services = sym (count_of_words services)

-- The records of services

-- The first word of a service's record.
pub first_is : (w isid : ℕ) → w < 4294967296 → isid ≡ isid_of w
    → 1073741824 + w / 2147483648 * 33554432 + w / 1073741824 % 2 * 16777216 + isid ≡ member_first (member_of_service 0 0 w)
first_is w isid h e = omega (
  arith,
  e,
  bit-back (bits w 31 31) (omega arith),
  bit-back (bits w 30 30) (omega arith),
  let z : w / 2147483648 % 2 ≡ w / 2147483648 = omega arith in z,
)

pub member-written : (lent : List ℕ) (at b vid w first : ℕ) → at + 2 ≤ length lent → first ≡ member_first (member_of_service 0 0 w)
    → Appended lent at (member_record (member_of_service b vid w)) (set (set lent at first) (at + 1) (b * 65536 + vid)) (at + 2)
member-written lent at b vid w first r e =
    subst (λ (x : ℕ). Appended lent at (x ∷ (b * 65536 + vid) ∷ []) (set (set lent at first) (at + 1) (b * 65536 + vid)) (at + 2)) e
    (two-words lent at first (b * 65536 + vid) r)

-- Records one after the other, by the numbers of the services.
abbrev pub record_at : ℕ → ℕ → List ℕ → ℕ → List ℕ
record_at b vid ws n = member_record (member_of_service b vid (word ws n))

pub member-at : (b vid : ℕ) (ws : List ℕ) (n service : ℕ) → service ≡ word ws n → {lent written : List ℕ} {at end : ℕ}
    → Appended lent at (member_record (member_of_service b vid service)) written end → Appended lent at (record_at b vid ws n) written end
member-at b vid ws n service e {lent} {written} {at} {end} A =
    subst (λ (w : ℕ). Appended lent at (member_record (member_of_service b vid w)) written end) e A

module _ (b vid : ℕ) (ws : List ℕ) where
  pub records-each : each_of (record_at b vid ws) (length ws) ≡ records_of b vid ws
  records-each =
      sym (flat_map-map (λ w. member_record (member_of_service b vid w)) (word ws) (rising 0 (length ws)))
      ∙ ap (records_of b vid) (by_places ws 0)

  pub records-room : (words : List ℕ) → Room words 0 (records_of b vid ws) → Room words 0 (each_of (record_at b vid ws) (length ws))
  records-room words r = rw records-each r

  pub records-length : length (records_of b vid ws) ≡ 2 * length ws
  records-length = length-flat_map-each (λ w. member_record (member_of_service b vid w)) 2 ws (λ w k. refl) ∙ omega arith

  pub records-written : {lent written : List ℕ} {end : ℕ} → Appended lent 0 (each_of (record_at b vid ws) (length ws)) written end
      → written ≡ spliced lent 0 (records_of b vid ws)
  records-written {lent} A = A.words_are ∙ ap (spliced lent 0) records-each

  -- What the services are judged to be, and what is read then.
  module _ (list : List ℕ) (r : ReadServicesAnswer) (e : read_services_values r ≡ after_services [] ws (answered (2 * length ws))) where
    abbrev asked : Outcome (Written ℕ)
    asked = after_services [] ws (list_answer (records_of b vid ws))

    pub judged-refused : (number at : ℕ) (kind : RecordKind) → r ≡ ReadServicesAnswer.Refused number kind at
        → ◌≡◌ {A = Outcome ℕ × List ℕ} (refused number (kind_number kind) at, list) (lent_to list asked)
    judged-refused number at kind f = go (alike (answered (2 * length ws)) (list_answer (records_of b vid ws)) [] ws)
      where
        given : refused number (kind_number kind) at ≡ after_services [] ws (answered (2 * length ws))
        given = sym (ap read_services_values f) ∙ e

        go : Alike (answered (2 * length ws)) (list_answer (records_of b vid ws)) [] ws
            → ◌≡◌ {A = Outcome ℕ × List ℕ} (refused number (kind_number kind) at, list) (lent_to list asked)
        go (inl (g, h)) = absurd (refused-not-answered (given ∙ g))
        go (inr (n, k, g, h)) =
            ap (λ (o : Outcome ℕ). (o, list)) (given ∙ g) ∙ sym (ap (λ (o : Outcome (Written ℕ)). lent_to list o) h)

    module _ (count : ℕ) (f : r ≡ ReadServicesAnswer.Read count) where
      given : answered count ≡ after_services [] ws (answered (2 * length ws))
      given = sym (ap read_services_values f) ∙ e

      none_faulty : (count ≡ length (records_of b vid ws)) × (asked ≡ list_answer (records_of b vid ws))
      none_faulty = go (alike (answered (2 * length ws)) (list_answer (records_of b vid ws)) [] ws)
        where
          go : Alike (answered (2 * length ws)) (list_answer (records_of b vid ws)) [] ws
              → (count ≡ length (records_of b vid ws)) × (asked ≡ list_answer (records_of b vid ws))
          go (inl (g, h)) = (let z : answered count ≡ answered (2 * length ws) = given ∙ g in let y : count ≡ 2 * length ws = cc in y ∙ sym records-length, h)
          go (inr (n, k, g, h)) = absurd (refused-not-answered (sym (given ∙ g)))

      pub judged-short : length list < count → ◌≡◌ {A = Outcome ℕ × List ℕ} (refused_as 13, list) (lent_to list asked)
      judged-short l =
          fits_not (records_of b vid ws) list (omega (arith, none_faulty.0)) ∙ sym (ap (λ (o : Outcome (Written ℕ)). lent_to list o) none_faulty.1)

      pub judged-room : count ≤ length list → Room list 0 (records_of b vid ws)
      judged-room l = omega (arith, none_faulty.0)

      pub judged-read : count ≤ length list → {list' : List ℕ} → list' ≡ spliced list 0 (records_of b vid ws)
          → ◌≡◌ {A = Outcome ℕ × List ℕ} (answered count, list') (lent_to list asked)
      judged-read l {list'} g =
          ap (λ (n : ℕ). (answered n, list')) none_faulty.0
          ∙ fits_in (records_of b vid ws) list (omega (arith, none_faulty.0)) g
          ∙ sym (ap (λ (o : Outcome (Written ℕ)). lent_to list o) none_faulty.1)

-- What the sub-TLV names

module _ (p : Plan) (ws list : List ℕ) where
  -- 16 where the plan lacks the bridge or the VID.
  abbrev read : Outcome (Written ℕ)
  read = after_services [] (services_of ws) (list_answer (records_of (advertiser p ws) (base_vid_of ws) (services_of ws)))

  pub no_bridge_lem : known_bridge p (advertiser p ws) ≡ false → ◌≡◌ {A = Outcome ℕ × List ℕ} (refused_as 16, list) (lent_to list (plan_content p ws))
  no_bridge_lem e = first_lacking list 16 read (known_bridge p (advertiser p ws)) (known_vid p (base_vid_of ws)) e

  pub no_vid_lem : known_vid p (base_vid_of ws) ≡ false → ◌≡◌ {A = Outcome ℕ × List ℕ} (refused_as 16, list) (lent_to list (plan_content p ws))
  no_vid_lem e = second_lacking list 16 read (known_bridge p (advertiser p ws)) (known_vid p (base_vid_of ws)) e

  pub both-known : known_bridge p (advertiser p ws) ≡ true → known_vid p (base_vid_of ws) ≡ true → (o : Outcome ℕ × List ℕ) (b vid : ℕ) (services : List ℕ)
      → b ≡ advertiser p ws → vid ≡ base_vid_of ws → services ≡ services_of ws
      → o ≡ lent_to list (after_services [] services (list_answer (records_of b vid services))) → o ≡ lent_to list (plan_content p ws)
  both-known k v o b vid services e f g h =
      h
      ∙ ap (λ (t : List ℕ). lent_to list (after_services [] t (list_answer (records_of b vid t)))) g
      ∙ ap (λ (n : ℕ). lent_to list (after_services [] (services_of ws) (list_answer (records_of n vid (services_of ws))))) e
      ∙ ap (λ (n : ℕ). lent_to list (after_services [] (services_of ws) (list_answer (records_of (advertiser p ws) n (services_of ws))))) f
      ∙ none_lacking list 16 read (known_bridge p (advertiser p ws)) (known_vid p (base_vid_of ws)) k v

-- Of bytes: 15, or what their content answers.
module _ (p : Plan) (bytes list : List ℕ) where
  pub no_sub_tlv_lem : no_sub_tlv bytes ≡ true → ◌≡◌ {A = Outcome ℕ × List ℕ} (refused_as 15, list) (lent_to list (plan_read p bytes))
  no_sub_tlv_lem e = ap (λ (b : Bool). lent_to list (refused_if b 15 (plan_content p (sub_tlv_words bytes)))) (sym e)

  pub is_sub_tlv : no_sub_tlv bytes ≡ false → (o : Outcome ℕ × List ℕ) → o ≡ lent_to list (plan_content p (words_of (take (length bytes - 2) (drop 2 bytes))))
      → o ≡ lent_to list (plan_read p bytes)
  is_sub_tlv e o f =
      f
      ∙ ap (λ (ws : List ℕ). lent_to list (plan_content p ws)) (content-words bytes)
      ∙ ap (λ (b : Bool). lent_to list (refused_if b 15 (plan_content p (sub_tlv_words bytes)))) (sym e)
