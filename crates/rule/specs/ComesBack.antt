-- "Members written come back the same and in order" (02, A2), with reserved bits zero and within what a TLV can carry, as a statement about
-- what the two calls answer. ComesBackProved proves it for every accepted table. Assumes nothing.
use Rattle.std.specs.Prelude.{ℕ, ◌+◌, ◌*◌, ◌≤◌, ◌<◌, ◌≡◌, ◌&&◌, eqb, length, get_or, take, drop}
use mathlib.Core.List.{List, [], flat_map}
use Rattle.lists.specs.Lists.{rising, selected}
use Rattle.lists.specs.Members.{In}
use Rattle.rule.specs.Words.{words_of, word, bits}
use Rattle.rule.specs.Records.{Member, member_of, address}
use Rattle.rule.specs.Outcome.{Outcome, answered, refused, Written, list_answer}
use Rattle.rule.specs.Plan.{Plan, bridge_at}
use Rattle.rule.specs.Services.{sub_tlv_words, services_of, member_record, read_services_answer, members_of, sub_tlv_count, services_written, sub_tlv_at, write_services_answer}

-- A list of bytes.
abbrev pub Bytes : List ℕ → Type 0
Bytes t = (x : ℕ) → In x t → x < 256

-- Where the member records of a plan's table begin.
abbrev pub members_start : Plan → ℕ
members_start p = 3 * length p.bridges + 3 * length p.half_links + length p.vids

-- The member record `j`, and the table's own words of it.
abbrev pub member_at : Plan → ℕ → Member
member_at p j = get_or p.members j (member_of [])

abbrev pub own_words : List ℕ → Plan → ℕ → List ℕ
own_words t p j = take 2 (drop (members_start p + 2 * j) (words_of t))

-- The sub-TLV `i` of those that are written, and the numbers of the member records that they hold.
abbrev pub written_at : Plan → ℕ → ℕ → ℕ → List ℕ
written_at p b vid = sub_tlv_at (address (bridge_at p b)) vid (services_written p b vid)

abbrev pub member_numbers : Plan → ℕ → ℕ → List ℕ
member_numbers p b vid = selected (λ j. eqb (member_at p j).bridge b && eqb (member_at p j).vid vid) (rising 0 (length p.members))

-- The words of an answer.
abbrev pub words_of_answer : Outcome (Written ℕ) → List ℕ
words_of_answer (answered w) = w.words
words_of_answer (refused number kind at) = []

-- The words after a sub-TLV's length have no reserved bit set.
abbrev pub ReservedZero : List ℕ → Type 0
ReservedZero ws = (bits (word ws 1) 15 12 ≡ 0) × ((service : ℕ) → In service (services_of ws) → bits service 29 24 ≡ 0)

-- What is written for a bridge and a VID, and what is read from it.
pub record ComesBack (t : List ℕ) (p : Plan) (b vid : ℕ) : Type 0 where
  -- The writing call's bytes are those sub-TLVs one after the other.
  pub written : write_services_answer t b vid ≡ list_answer (flat_map (written_at p b vid) (rising 0 (sub_tlv_count (services_written p b vid))))
  -- Each is read without refusal: the records of its part of the members.
  pub each : (i : ℕ) → read_services_answer t (written_at p b vid i) ≡ list_answer (flat_map member_record (take 60 (drop (60 * i) (members_of p b vid))))
  -- The words read from all of them, in order, are the table's own words of those member records.
  pub in_order : flat_map (λ i. words_of_answer (read_services_answer t (written_at p b vid i))) (rising 0 (sub_tlv_count (services_written p b vid)))
      ≡ flat_map (own_words t p) (member_numbers p b vid)
  -- "Reserved bits are .. written as zero": the 4 above the Base VID, and the 6 of each service.
  pub reserved_zero : (i : ℕ) → ReservedZero (sub_tlv_words (written_at p b vid i))
  -- "which is what the MT-Capability TLV around it can carry": with two bytes more it stays within the 255 of a TLV.
  pub short : (i : ℕ) → length (written_at p b vid i) ≤ 250
  pub all_short : length (flat_map (written_at p b vid) (rising 0 (sub_tlv_count (services_written p b vid)))) ≤ 276
