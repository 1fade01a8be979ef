-- Service advertisements (02, A2): SPBM Service Identifier sub-TLVs read into member records, and a bridge's members of one VID written as
-- sub-TLVs. Both calls begin with the verdict on the table. Assumes nothing.
use Rattle.std.specs.Prelude.{ℕ, ◌+◌, ◌*◌, ◌-◌, ◌/◌, ◌%◌, ◌^◌, Bool, not, cond, ◌&&◌, ◌||◌, eqb, leb, ltb, length, get_or, take, drop}
use mathlib.Core.List.{List, [], ◌∷◌, ◌++◌, map, flat_map}
use Rattle.std.proofs.Math.Option.{Option, none, some}
use Rattle.lists.specs.Lists.{rising, selected, any_passes, first_passing}
use Rattle.rule.specs.Words.{words_of, bytes_of, word, bits}
use Rattle.rule.specs.Records.{Bridge, Member, address, in_limits, isid_limits}
use Rattle.rule.specs.Outcome.{Outcome, refused, and_then, refused_if, Written, list_answer, lent_to}
use Rattle.rule.specs.Plan.{Plan, known_bridge, known_vid, bridge_at}
use Rattle.rule.specs.Check.{verdict, Fault, fault, lowest_fault}

-- The bytes of a sub-TLV

-- "RFC 6329: type 3, length, B-MAC, 4 reserved bits and Base VID, then T, R, 6 reserved bits and I-SID for each service". Type and length
-- have a byte each. The bytes that follow them make words: the B-MAC is the first word and the upper half of the second, reserved bits
-- and Base VID are its lower half, and each further word is a service.
abbrev pub type_byte : List ℕ → ℕ
type_byte bytes = get_or bytes 0 0

abbrev pub length_byte : List ℕ → ℕ
length_byte bytes = get_or bytes 1 0

unfoldable pub sub_tlv_words : List ℕ → List ℕ
sub_tlv_words bytes = words_of (drop 2 bytes)

abbrev pub b_mac_of : List ℕ → ℕ
b_mac_of ws = word ws 0 * 2 ^ 16 + bits (word ws 1) 31 16

abbrev pub base_vid_of : List ℕ → ℕ
base_vid_of ws = bits (word ws 1) 11 0

abbrev pub services_of : List ℕ → List ℕ
services_of ws = drop 2 ws

abbrev pub isid_of : ℕ → ℕ
isid_of service = bits service 23 0

-- 15. "fewer than 10 bytes are there, type is not 3, or length is not the number of bytes that follow it or not 8 plus a multiple of 4".
abbrev pub no_sub_tlv : List ℕ → Bool
no_sub_tlv bytes =
    ltb (length bytes) 10
    || not (eqb (type_byte bytes) 3)
    || not (eqb (length_byte bytes) (length bytes - 2))
    || not (leb 8 (length_byte bytes) && eqb ((length_byte bytes - 8) % 4) 0)

-- The number of the bridge that the B-MAC is the address of, or the number of bridges where it is none's.
abbrev pub has_address : ℕ → Bridge → Bool
has_address a b = eqb (address b) a

abbrev pub advertiser : Plan → List ℕ → ℕ
advertiser p ws = first_passing (has_address (b_mac_of ws)) p.bridges

-- 16. "the B-MAC or VID isn't in the table".
abbrev pub not_in_table : Plan → List ℕ → Bool
not_in_table p ws = not (known_bridge p (advertiser p ws) && known_vid p (base_vid_of ws))

-- "An I-SID out of range is 6 and one repeated within the sub-TLV is 8": a service, and those before it.
abbrev pub service_faults : List ℕ → ℕ → List Fault
service_faults earlier service =
    fault 6 (not (in_limits isid_limits (isid_of service)))
    ∷ fault 8 (any_passes (λ e. eqb (isid_of e) (isid_of service)) earlier)
    ∷ []

module _ {A : Type 0} where
  abbrev pub judged_service : ℕ → Option ℕ → Outcome A → Outcome A
  judged_service n none o = o
  judged_service n (some number) o = refused number (some 4) n

  -- "the first faulty service counting, with kind member and that service's number from 0 as the word": what follows where no service
  -- has a fault, those in `earlier` having none.
  unfoldable pub after_services : List ℕ → List ℕ → Outcome A → Outcome A
  after_services earlier [] o = o
  after_services earlier (service ∷ more) o =
      judged_service (length earlier) (lowest_fault (service_faults earlier service)) (after_services (earlier ++ (service ∷ [])) more o)

-- Reading

-- The member record of a service: T and R are its two top bits, and "Reserved bits are ignored on reading".
abbrev pub member_of_service : ℕ → ℕ → ℕ → Member
member_of_service b vid service =
    record {
      transmits = eqb (bits service 31 31) 1;
      receives = eqb (bits service 30 30) 1;
      isid = isid_of service;
      bridge = b;
      vid = vid;
    }

-- The two words of a member record, as a table has them: kind 4, bits 27..26 zero.
abbrev pub bit : Bool → ℕ
bit b = cond b 1 0

abbrev pub member_first : Member → ℕ
member_first m = 4 * 2 ^ 28 + bit m.transmits * 2 ^ 25 + bit m.receives * 2 ^ 24 + m.isid

abbrev pub member_record : Member → List ℕ
member_record m = member_first m ∷ (m.bridge * 2 ^ 16 + m.vid) ∷ []

-- "Read one into member records": the words of a record for each service, in order.
abbrev pub records_of : ℕ → ℕ → List ℕ → List ℕ
records_of b vid services = flat_map (λ service. member_record (member_of_service b vid service)) services

-- What the reading call answers, whatever list is lent: of an accepted plan, and of a table. 15 comes "after the table's own", 16 "next and
-- before 6".
abbrev pub plan_content : Plan → List ℕ → Outcome (Written ℕ)
plan_content p ws =
    refused_if (not_in_table p ws) 16
    (after_services [] (services_of ws) (list_answer (records_of (advertiser p ws) (base_vid_of ws) (services_of ws))))

abbrev pub plan_read : Plan → List ℕ → Outcome (Written ℕ)
plan_read p bytes = refused_if (no_sub_tlv bytes) 15 (plan_content p (sub_tlv_words bytes))

unfoldable pub read_services_answer : List ℕ → List ℕ → Outcome (Written ℕ)
read_services_answer t bytes = and_then (verdict t) λ p. plan_read p bytes

-- Read services (sub-TLV): the words of member records into a lent list; how many.
unfoldable pub read_services_outcome : List ℕ → List ℕ → List ℕ → Outcome ℕ × List ℕ
read_services_outcome t bytes lent = lent_to lent (read_services_answer t bytes)

-- Writing

-- "a bridge's members of one VID", in table order.
abbrev pub members_of : Plan → ℕ → ℕ → List Member
members_of p b vid = selected (λ m. eqb m.bridge b && eqb m.vid vid) p.members

-- The service of a member record: reserved bits are "written as zero".
abbrev pub service_of : Member → ℕ
service_of m = bit m.transmits * 2 ^ 31 + bit m.receives * 2 ^ 30 + m.isid

-- The sub-TLV of a B-MAC, a Base VID and services: the words after its length, and its bytes.
abbrev pub content_of : ℕ → ℕ → List ℕ → List ℕ
content_of b_mac vid services = (b_mac / 2 ^ 16) ∷ (b_mac % 2 ^ 16 * 2 ^ 16 + vid) ∷ services

abbrev pub sub_tlv : ℕ → ℕ → List ℕ → List ℕ
sub_tlv b_mac vid services = 3 ∷ (8 + 4 * length services) ∷ flat_map bytes_of (content_of b_mac vid services)

-- "each but the last with 60 services": the services of the sub-TLV `i`, and how many sub-TLVs hold them all, none where there are none.
abbrev pub services_each : ℕ
services_each = 60

abbrev pub services_part : List ℕ → ℕ → List ℕ
services_part services i = take services_each (drop (services_each * i) services)

abbrev pub sub_tlv_count : List ℕ → ℕ
sub_tlv_count services = (length services + (services_each - 1)) / services_each

-- The sub-TLV `i` of a bridge's members of one VID, and the bytes of all.
abbrev pub services_written : Plan → ℕ → ℕ → List ℕ
services_written p b vid = map service_of (members_of p b vid)

abbrev pub sub_tlv_at : ℕ → ℕ → List ℕ → ℕ → List ℕ
sub_tlv_at b_mac vid services i = sub_tlv b_mac vid (services_part services i)

unfoldable pub sub_tlvs : ℕ → ℕ → List ℕ → List ℕ
sub_tlvs b_mac vid services = flat_map (sub_tlv_at b_mac vid services) (rising 0 (sub_tlv_count services))

-- What the writing call answers, whatever list is lent: of an accepted plan, and of a table. "11. The call names a bridge or VID that the
-- table lacks."
abbrev pub plan_write : Plan → ℕ → ℕ → Outcome (Written ℕ)
plan_write p b vid =
    refused_if (not (known_bridge p b && known_vid p vid)) 11
    (list_answer (sub_tlvs (address (bridge_at p b)) vid (services_written p b vid)))

unfoldable pub write_services_answer : List ℕ → ℕ → ℕ → Outcome (Written ℕ)
write_services_answer t b vid = and_then (verdict t) λ p. plan_write p b vid

-- Write services (bridge, VID): the bytes of sub-TLVs into a lent list; how many.
unfoldable pub write_services_outcome : List ℕ → ℕ → ℕ → List ℕ → Outcome ℕ × List ℕ
write_services_outcome t b vid lent = lent_to lent (write_services_answer t b vid)
