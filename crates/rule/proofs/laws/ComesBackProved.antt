-- Members written come back the same and in order (02, A2): `ComesBack` holds of every accepted table, every bridge and every VID of it.
-- Assumes nothing.
use Rattle.std.specs.Prelude.{ℕ, zero, suc, ◌+◌, ◌*◌, ◌≤◌, ◌<◌, ◌≡◌, refl, Bool, true, not, ◌&&◌, T, eqb, length, take, drop}
use Rattle.std.proofs.Common.{arith, sym, ◌∙◌, subst, length-append, length-take, length-drop, take_all, lt-ltb}
use Rattle.std.proofs.Math.Path.{ap}
use mathlib.Core.List.{List, [], flat_map}
use Rattle.std.proofs.lemmas.List.{length-map}
use Rattle.lists.specs.Lists.{rising, selected}
use Rattle.lists.specs.Members.{In}
use Rattle.lists.proofs.laws.NumberLaws.{is_true, two-equal}
use Rattle.lists.proofs.laws.MemberLaws.{map-in}
use Rattle.lists.proofs.laws.SelectedLaws.{selected-in, rising-in}
use Rattle.lists.proofs.laws.DistinctLaws.{selected-parts}
use Rattle.lists.proofs.laws.GivenLaws.{every-two-selected, flat_map-same, flat_map-flat_map, flat_map-map, selected-map, by_places}
use Rattle.lists.proofs.laws.AppendingLaws.{each_more}
use Rattle.lists.proofs.laws.PartLaws.{part_in, every-two_part, part_map, parts-joined}
use Rattle.rule.specs.Words.{bits}
use Rattle.rule.specs.Records.{Member, member_of, address}
use Rattle.rule.specs.Outcome.{Outcome, answered, and_then, refused_if, Written, list_answer}
use Rattle.rule.specs.Plan.{Plan, known_vid, bridge_at}
use Rattle.rule.specs.PlanLaws.{PlanLaws, MembersApart}
use Rattle.rule.specs.Check.{verdict}
use Rattle.rule.specs.Services.{sub_tlv_words, member_record, plan_read, read_services_answer, members_of, service_of, sub_tlv, services_part, sub_tlv_count, services_written, sub_tlv_at, sub_tlvs, plan_write, write_services_answer}
use Rattle.rule.specs.ComesBack.{Bytes, member_at, own_words, written_at, member_numbers, words_of_answer, ReservedZero, ComesBack}
use Rattle.rule.proofs.laws.Accepted.{accepted-laws}
use Rattle.rule.proofs.laws.MemberWords.{own-words}
use Rattle.rule.proofs.laws.ServiceLaws.{length_sub_tlv, sub_tlv_words_lem, vid_reserved, service_reserved, vid-fits, members-back}

-- The bytes of the first `n` sub-TLVs.
pub length_of_all : (b_mac vid : ℕ) (services : List ℕ) (n : ℕ)
    → length (flat_map (sub_tlv_at b_mac vid services) (rising 0 n)) ≡ 10 * n + 4 * length (take (60 * n) services)
unfolding flat_map rising
length_of_all b_mac vid services zero = refl
length_of_all b_mac vid services (suc n) =
    ap (λ (t : List ℕ). length t) (each_more (sub_tlv_at b_mac vid services) 0 n)
    ∙ omega (
      arith,
      length-append (flat_map (sub_tlv_at b_mac vid services) (rising 0 n)) (sub_tlv_at b_mac vid services (0 + n)),
      length_of_all b_mac vid services n,
      length_sub_tlv b_mac vid (services_part services (0 + n)),
      ap (λ (k : ℕ). length (take 60 (drop (60 * k) services))) {x = 0 + n} {y = n} (omega arith),
      length-take (60 * n) services,
      length-take 60 (drop (60 * n) services),
      length-take (60 * suc n) services,
      length-drop (60 * n) services,
    )

-- All of them hold all services.
pub count-holds : (services : List ℕ) → length services ≤ 60 * sub_tlv_count services
count-holds services = omega arith

pub length_of_sub_tlvs : (b_mac vid : ℕ) (services : List ℕ) → length (sub_tlvs b_mac vid services) ≡ 10 * sub_tlv_count services + 4 * length services
unfolding sub_tlvs
length_of_sub_tlvs b_mac vid services =
    length_of_all b_mac vid services (sub_tlv_count services)
    ∙ ap (λ (t : List ℕ). 10 * sub_tlv_count services + 4 * length t) (take_all (60 * sub_tlv_count services) services (count-holds services))

module _ (t : List ℕ) (p : Plan) (bytes : Bytes t) (accepted : verdict t ≡ answered p) (b vid : ℕ) (known-bridge : b < length p.bridges)
    (known-vid : T (known_vid p vid)) where
  L : PlanLaws p
  L = accepted-laws t p accepted

  abbrev ms : List Member
  ms = members_of p b vid

  abbrev is_member : Member → Bool
  is_member m = eqb m.bridge b && eqb m.vid vid

  part_fits : (i : ℕ) (m : Member) → In m (take 60 (drop (60 * i) ms)) → (m.bridge ≡ b) × (m.vid ≡ vid) × (256 ≤ m.isid) × (m.isid ≤ 16777214)
  part_fits i m k =
      let (in-plan, named) = selected-in is_member m p.members (part_in 60 (60 * i) m ms k)
      in let (e, f) = two-equal m.bridge b m.vid vid named
      in let F = L.members.fits m in-plan
      in (e, f, F.least_isid, F.isid)

  each_back : (i : ℕ) → read_services_answer t (written_at p b vid i) ≡ list_answer (flat_map member_record (take 60 (drop (60 * i) ms)))
  unfolding read_services_answer
  each_back i =
      ap (λ (o : Outcome Plan). and_then o (λ q. plan_read q (written_at p b vid i))) accepted
      ∙ ap (λ (services : List ℕ). plan_read p (sub_tlv (address (bridge_at p b)) vid services)) (part_map service_of 60 (60 * i) ms)
      ∙ members-back p L b vid known-bridge known-vid (take 60 (drop (60 * i) ms)) (part_fits i)
      (every-two_part MembersApart 60 (60 * i) ms (every-two-selected MembersApart is_member p.members L.members.apart))

  reserved_clear : (i : ℕ) → ReservedZero (sub_tlv_words (written_at p b vid i))
  reserved_clear i =
      subst ReservedZero (sym (sub_tlv_words_lem (address (bridge_at p b)) vid services))
      (vid_reserved (address (bridge_at p b)) vid services (omega (arith, vid-fits p L b vid known-vid)), each-clear)
    where
      services : List ℕ
      services = services_part (services_written p b vid) i

      each-clear : (service : ℕ) → In service services → bits service 29 24 ≡ 0
      each-clear service k =
          let (m, in-ms, e) = map-in service_of service ms (part_in 60 (60 * i) service (services_written p b vid) k)
          in let in-plan = (selected-in is_member m p.members in-ms).0
          in rw e (service_reserved m (omega (arith, (L.members.fits m in-plan).isid)))

  abbrev count : ℕ
  count = sub_tlv_count (services_written p b vid)

  all_read : flat_map (λ i. words_of_answer (read_services_answer t (written_at p b vid i))) (rising 0 count) ≡ flat_map member_record ms
  all_read =
      flat_map-same (λ i. words_of_answer (read_services_answer t (written_at p b vid i))) (λ i. flat_map member_record (take 60 (drop (60 * i) ms)))
      (rising 0 count) (λ i k. ap words_of_answer (each_back i))
      ∙ sym (flat_map-flat_map member_record (λ i. take 60 (drop (60 * i) ms)) (rising 0 count))
      ∙ ap (flat_map member_record) (parts-joined 60 count ms ∙ take_all (60 * count) ms (omega (arith, length-map ms service_of, count-holds (services_written p b vid))))

  all_own : flat_map member_record ms ≡ flat_map (own_words t p) (member_numbers p b vid)
  all_own =
      ap (λ (xs : List Member). flat_map member_record (selected is_member xs)) (sym (by_places p.members (member_of [])))
      ∙ ap (flat_map member_record) (selected-map (member_at p) is_member (rising 0 (length p.members)))
      ∙ flat_map-map member_record (member_at p) (member_numbers p b vid)
      ∙ flat_map-same (λ j. member_record (member_at p j)) (own_words t p) (member_numbers p b vid) (λ j k. sym (own-words t p bytes accepted j (below j k)))
    where
      below : (j : ℕ) → In j (member_numbers p b vid) → j < length p.members
      below j k =
          let (i, _) = selected-in (λ j. is_member (member_at p j)) j (rising 0 (length p.members)) k
          in omega (arith, (rising-in 0 (length p.members) j i).1)

  all-written : write_services_answer t b vid ≡ list_answer (flat_map (written_at p b vid) (rising 0 count))
  unfolding write_services_answer sub_tlvs
  all-written =
      ap (λ (o : Outcome Plan). and_then o (λ q. plan_write q b vid)) accepted
      ∙ ap (λ (k : Bool). refused_if (not (k && known_vid p vid)) 11 all) (lt-ltb b (length p.bridges) known-bridge)
      ∙ ap (λ (k : Bool). refused_if (not (true && k)) 11 all) (is_true (known_vid p vid) known-vid)
    where
      all : Outcome (Written ℕ)
      all = list_answer (flat_map (written_at p b vid) (rising 0 count))

  -- Of every accepted table, every bridge and every VID of it.
  pub comes_back : ComesBack t p b vid
  comes_back = record {
    written = all-written;
    each = each_back;
    in_order = all_read ∙ all_own;
    reserved_zero = reserved_clear;
    short = λ i.
        omega (
          arith,
          length_sub_tlv (address (bridge_at p b)) vid (services_part (services_written p b vid) i),
          length-take 60 (drop (60 * i) (services_written p b vid)),
        );
    all_short = omega (
      arith,
      length_of_all (address (bridge_at p b)) vid (services_written p b vid) count,
      length-take (60 * count) (services_written p b vid),
      length-map ms service_of,
      selected-parts is_member p.members,
      L.members.few,
    );
  }
