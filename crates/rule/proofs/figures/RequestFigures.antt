-- The figures of document 02, request by request: one collection, on tables given as words, and one proof over it. The starred figures of
-- document 01 are a collection of their own (Figures). Assumes nothing.
use Rattle.std.specs.Prelude.{ℕ, ◌+◌, ◌*◌, ◌^◌, ◌≡◌, refl, get_or, take, drop}
use mathlib.Core.List.{List, [], ◌∷◌, ◌++◌, map, flat_map}
use Rattle.std.proofs.Math.Option.{none, some}
use Rattle.lists.specs.Lists.{rising, selected, any_passes, first_passing, lowest_by}
use Rattle.graph.specs.Order.{insert_upward, sorted, is_lower}
use Rattle.graph.specs.Graph.{cost_onward}
use Rattle.graph.specs.Chosen.{neighbours, onward, paths, chosen}
use Rattle.rule.specs.Words.{words_of}
use Rattle.rule.specs.Records.{layout_of}
use Rattle.rule.specs.Check.{lowest_fault, read_on, verdict}
use Rattle.rule.specs.Links.{links_of, usable_links, count_usable, links_between, hop_link}
use Rattle.rule.specs.Identifiers.{masked_bytes, masked_identifier}
use Rattle.rule.specs.Paths.{chosen_path}
use Rattle.rule.specs.Calls.{check_outcome, path_answer}
use Rattle.rule.specs.Services.{sub_tlv_words, after_services, read_services_answer, sub_tlvs, write_services_answer}
use Rattle.rule.proofs.figures.Tables.{table}
use Rattle.rule.proofs.figures.Figures.{diamond, parallel_equal, parallel_cheaper, path, hop, check, reading, writing, path_is, link_is, counts, list_is, refusal, refusal_of, shown, Figure, figure}

-- The diamond with other first words of its bridges' records: bit 27 marks a bridge as overloaded.
abbrev diamond_with : ℕ → ℕ → ℕ → ℕ → List (List ℕ)
diamond_with first second third fourth =
    (first ∷ 0x80000200 ∷ 0x00000001 ∷ [])
    ∷ (second ∷ 0x80000200 ∷ 0x00000002 ∷ [])
    ∷ (third ∷ 0x80000200 ∷ 0x00000003 ∷ [])
    ∷ (fourth ∷ 0x80000200 ∷ 0x00000004 ∷ [])
    ∷ drop 4 diamond

abbrev overloaded1 : List (List ℕ)
overloaded1 = diamond_with 0x10000001 0x18000002 0x10000003 0x10000004

abbrev overloaded12 : List (List ℕ)
overloaded12 = diamond_with 0x10000001 0x18000002 0x18000003 0x10000004

abbrev overloaded03 : List (List ℕ)
overloaded03 = diamond_with 0x18000001 0x10000002 0x10000003 0x18000004

abbrev overloaded01 : List (List ℕ)
overloaded01 = diamond_with 0x18000001 0x18000002 0x10000003 0x10000004

-- The table with bit 27 of the first word of its record `n` set, counted from 0: a half-link whose port is down.
abbrev with_down : ℕ → List (List ℕ) → List (List ℕ)
with_down n t = take n t ++ (down (get_or t n []) ∷ drop (n + 1) t)
  where
    down : List ℕ → List ℕ
    down [] = []
    down (w ∷ ws) = (w + 0x08000000) ∷ ws

-- In the diamond the records 4 and 5 are the halves of the link between 0 and 1, and 8 and 9 those of the link between 0 and 2.
abbrev down01 : List (List ℕ)
down01 = with_down 4 diamond

abbrev down10 : List (List ℕ)
down10 = with_down 5 diamond

abbrev down01and20 : List (List ℕ)
down01and20 = with_down 9 down01

-- Two bridges, and half-links between them behind one of link 7 at port 1 of bridge 0, whose port is down.
abbrev behind_down : List (List ℕ) → List (List ℕ)
behind_down hs =
    (0x10000001 ∷ 0x80000200 ∷ 0x00000001 ∷ [])
    ∷ (0x10000002 ∷ 0x80000200 ∷ 0x00000002 ∷ [])
    ∷ (0x2800000a ∷ 0x00000001 ∷ 0x00010007 ∷ [])
    ∷ hs

-- Two bridges, VID 10 and three services of bridge 0: T alone, R alone and neither; of the first, bridge 1 is a member with R.
abbrev services : List (List ℕ)
services =
    (0x10000001 ∷ 0x80000200 ∷ 0x00000001 ∷ [])
    ∷ (0x10000002 ∷ 0x80000200 ∷ 0x00000002 ∷ [])
    ∷ (0x300a0001 ∷ [])
    ∷ (0x42000100 ∷ 0x0000000a ∷ [])
    ∷ (0x41000100 ∷ 0x0001000a ∷ [])
    ∷ (0x41000101 ∷ 0x0000000a ∷ [])
    ∷ (0x40000102 ∷ 0x0000000a ∷ [])
    ∷ (0xf000000f ∷ [])
    ∷ []

-- A sub-TLV by its type, its length and the words after them.
abbrev sub_tlv_of : ℕ → ℕ → List ℕ → List ℕ
sub_tlv_of type len ws = type ∷ len ∷ table (ws ∷ [])

-- The diamond with another second word of its bridge 1, in which the priority is, and another last one.
abbrev with_bridge_1 : ℕ → ℕ → List (List ℕ)
with_bridge_1 second third = take 1 diamond ++ ((0x10000002 ∷ second ∷ third ∷ []) ∷ drop 2 diamond)

-- The diamond with bridge 1 at another priority.
abbrev diamond_at : ℕ → List (List ℕ)
diamond_at priority = with_bridge_1 (priority * 2 ^ 16 + 0x0200) 0x00000002

-- VID 10 has index 1 and VID 11 index 2: without the bit 0 to 3 goes by 1 and by 2.
abbrev figures : List Figure
figures =
    -- A1: "An overloaded bridge may begin or end a path and never lies between."
    figure (path overloaded1 10 0 3) (path_is 20 2 (0 ∷ 2 ∷ 3 ∷ []))
    ∷ figure (path overloaded1 10 3 0) (path_is 20 2 (3 ∷ 2 ∷ 0 ∷ []))
    ∷ figure (path overloaded1 10 0 1) (path_is 10 1 (0 ∷ 1 ∷ []))
    ∷ figure (path overloaded1 10 1 2) (path_is 20 2 (1 ∷ 0 ∷ 2 ∷ []))
    -- "12 is given when every chain leads through such a bridge". The two bridges may begin and end one.
    ∷ figure (path overloaded12 10 0 3) (refusal 12)
    ∷ figure (path overloaded12 11 0 3) (refusal 12)
    ∷ figure (path overloaded12 10 1 2) (path_is 20 2 (1 ∷ 0 ∷ 2 ∷ []))
    ∷ figure (path overloaded12 11 1 2) (path_is 20 2 (1 ∷ 3 ∷ 2 ∷ []))
    -- Both ends overloaded.
    ∷ figure (path overloaded03 10 0 3) (path_is 20 2 (0 ∷ 1 ∷ 3 ∷ []))
    ∷ figure (path overloaded03 10 1 2) (refusal 12)
    ∷ figure (path overloaded01 10 0 1) (path_is 10 1 (0 ∷ 1 ∷ []))
    -- Links and counts are those of the diamond; bit 26 stays a zero bit.
    ∷ figure (check overloaded12) (counts 4 8 4 4 0)
    ∷ figure (check (diamond_with 0x10000001 0x14000002 0x10000003 0x10000004)) (refusal 4)
    -- A2: "type 3, length, B-MAC, 4 reserved bits and Base VID, then T, R, 6 reserved bits and I-SID for each service".
    ∷ figure (writing services 0 10) (list_is (sub_tlv_of 3 20 (0x02000000 ∷ 0x0001000a ∷ 0x80000100 ∷ 0x40000101 ∷ 0x00000102 ∷ [])))
    ∷ figure (writing services 1 10) (list_is (sub_tlv_of 3 12 (0x02000000 ∷ 0x0002000a ∷ 0x40000100 ∷ [])))
    ∷ figure (writing services 2 10) (refusal_of 11 none 0)
    ∷ figure (writing services 0 11) (refusal_of 11 none 0)
    -- "A bridge without members of that VID gives no bytes."
    ∷ figure (writing diamond 0 10) (list_is [])
    -- "Members written come back the same and in order."
    ∷ figure (reading services (sub_tlv_of 3 20 (0x02000000 ∷ 0x0001000a ∷ 0x80000100 ∷ 0x40000101 ∷ 0x00000102 ∷ [])))
    (list_is (0x42000100 ∷ 0x0000000a ∷ 0x41000101 ∷ 0x0000000a ∷ 0x40000102 ∷ 0x0000000a ∷ []))
    -- "Reserved bits are ignored on reading": all are set. The table's own members play no part.
    ∷ figure (reading services (sub_tlv_of 3 12 (0x02000000 ∷ 0x0002f00a ∷ 0xbf000100 ∷ []))) (list_is (0x42000100 ∷ 0x0001000a ∷ []))
    ∷ figure (reading services (sub_tlv_of 3 8 (0x02000000 ∷ 0x0002000a ∷ []))) (list_is [])
    -- 15: nine bytes, another type, a length that is not the number of bytes that follow it, one that is not 8 plus a multiple of 4, two
    -- sub-TLVs in a row.
    ∷ figure (reading services (3 ∷ 7 ∷ 2 ∷ 0 ∷ 0 ∷ 0 ∷ 0 ∷ 1 ∷ 0 ∷ [])) (refusal_of 15 none 0)
    ∷ figure (reading services (sub_tlv_of 2 8 (0x02000000 ∷ 0x0001000a ∷ []))) (refusal_of 15 none 0)
    ∷ figure (reading services (sub_tlv_of 3 12 (0x02000000 ∷ 0x0001000a ∷ []))) (refusal_of 15 none 0)
    ∷ figure (reading services (3 ∷ 9 ∷ 2 ∷ 0 ∷ 0 ∷ 0 ∷ 0 ∷ 1 ∷ 0 ∷ 10 ∷ 0 ∷ [])) (refusal_of 15 none 0)
    ∷ figure (reading services (sub_tlv_of 3 8 (0x02000000 ∷ 0x0001000a ∷ 0x03080200 ∷ 0x00000001 ∷ 0x000a0000 ∷ []))) (refusal_of 15 none 0)
    -- 16: a B-MAC that is no bridge's address, a VID without a record; 15 comes before it, and it before 6.
    ∷ figure (reading services (sub_tlv_of 3 8 (0x02000000 ∷ 0x0003000a ∷ []))) (refusal_of 16 none 0)
    ∷ figure (reading services (sub_tlv_of 3 8 (0x02000000 ∷ 0x0001000b ∷ []))) (refusal_of 16 none 0)
    ∷ figure (reading services (sub_tlv_of 2 8 (0x02000000 ∷ 0x0003000a ∷ []))) (refusal_of 15 none 0)
    ∷ figure (reading services (sub_tlv_of 3 12 (0x02000000 ∷ 0x0003000a ∷ 0x80000000 ∷ []))) (refusal_of 16 none 0)
    -- 6 and 8: "the first faulty service counting, with kind member and that service's number from 0 as the word".
    ∷ figure (reading services (sub_tlv_of 3 12 (0x02000000 ∷ 0x0001000a ∷ 0x800000ff ∷ []))) (refusal_of 6 (some 4) 0)
    ∷ figure (reading services (sub_tlv_of 3 16 (0x02000000 ∷ 0x0001000a ∷ 0x80fffffe ∷ 0x80ffffff ∷ []))) (refusal_of 6 (some 4) 1)
    ∷ figure (reading services (sub_tlv_of 3 16 (0x02000000 ∷ 0x0001000a ∷ 0x80000100 ∷ 0x40000100 ∷ []))) (refusal_of 8 (some 4) 1)
    ∷ figure (reading services (sub_tlv_of 3 20 (0x02000000 ∷ 0x0001000a ∷ 0x80000100 ∷ 0x80000100 ∷ 0x80000000 ∷ []))) (refusal_of 8 (some 4) 1)
    -- "after the table's own".
    ∷ figure (reading ((0x40000000 ∷ []) ∷ []) []) (refusal_of 3 (some 4) 0)
    ∷ figure (writing ((0x40000000 ∷ []) ∷ []) 0 10) (refusal_of 3 (some 4) 0)
    -- A3: "A link is usable only when neither half is down." "and check's third count with it".
    ∷ figure (path down01 10 0 3) (path_is 20 2 (0 ∷ 2 ∷ 3 ∷ []))
    ∷ figure (path down01 10 3 0) (path_is 20 2 (3 ∷ 2 ∷ 0 ∷ []))
    ∷ figure (check down01) (counts 4 8 3 4 0)
    ∷ figure (path down10 10 0 3) (path_is 20 2 (0 ∷ 2 ∷ 3 ∷ []))
    ∷ figure (path down10 10 3 0) (path_is 20 2 (3 ∷ 2 ∷ 0 ∷ []))
    ∷ figure (check down10) (counts 4 8 3 4 0)
    -- "Between two parts of a plan that marked links alone join, 12 is given."
    ∷ figure (path down01and20 10 0 3) (refusal 12)
    ∷ figure (path down01and20 10 3 0) (refusal 12)
    ∷ figure (check down01and20) (counts 4 8 2 4 0)
    -- Parallel links 7 and 9: the cheapest that is still usable, with its own cost and port.
    ∷ figure (hop (with_down 4 parallel_equal) 0 1) (link_is 9 1)
    ∷ figure (hop (with_down 5 parallel_equal) 0 1) (link_is 9 1)
    ∷ figure (hop (with_down 5 parallel_cheaper) 0 1) (link_is 7 1)
    ∷ figure (path (with_down 5 parallel_cheaper) 10 0 1) (path_is 12 1 (0 ∷ 1 ∷ []))
    -- A half-link that is down stands in the table: its metric has its range, its port and its link number are taken. Bit 26 stays a zero bit.
    ∷ figure (check ((0x28000000 ∷ 0x00000001 ∷ 0x00010007 ∷ []) ∷ [])) (refusal 6)
    ∷ figure (check (behind_down ((0x2000000a ∷ 0x00000001 ∷ 0x00010008 ∷ []) ∷ []))) (refusal 8)
    ∷ figure (check (behind_down ((0x2000000a ∷ 0x00000001 ∷ 0x00020007 ∷ []) ∷ []))) (refusal 9)
    ∷ figure (check (behind_down ((0x2c00000a ∷ 0x00010000 ∷ 0x00010007 ∷ []) ∷ []))) (refusal 4)
    -- A6: "In the diamond with bridge 1 at 8001, index 1 now goes by 1." All 12 bits set say no more than one.
    ∷ figure (path (diamond_at 0x8001) 10 0 3) (path_is 20 2 (0 ∷ 1 ∷ 3 ∷ []))
    ∷ figure (path (diamond_at 0x8001) 11 0 3) (path_is 20 2 (0 ∷ 2 ∷ 3 ∷ []))
    ∷ figure (path (diamond_at 0x8001) 10 3 0) (path_is 20 2 (3 ∷ 1 ∷ 0 ∷ []))
    ∷ figure (path (diamond_at 0x8fff) 10 0 3) (path_is 20 2 (0 ∷ 1 ∷ 3 ∷ []))
    ∷ figure (path (diamond_at 0x8fff) 11 0 3) (path_is 20 2 (0 ∷ 2 ∷ 3 ∷ []))
    -- The 4 bits above them count as they did.
    ∷ figure (path (diamond_at 0x9001) 10 0 3) (path_is 20 2 (0 ∷ 2 ∷ 3 ∷ []))
    ∷ figure (path (diamond_at 0x9001) 11 0 3) (path_is 20 2 (0 ∷ 1 ∷ 3 ∷ []))
    -- Records are read as before: every priority is taken, and 8 goes by the address, here that of bridge 0.
    ∷ figure (check (diamond_at 0xffff)) (counts 4 8 4 4 0)
    ∷ figure (check (with_bridge_1 0x80010200 0x00000001)) (refusal 8)
    ∷ []

-- Every figure shows what document 02 says.
figures_hold : map (λ f. shown f.question) figures ≡ map (λ f. f.expected) figures
unfolding words_of layout_of lowest_fault read_on verdict links_of usable_links count_usable links_between hop_link
    masked_bytes masked_identifier chosen_path check_outcome path_answer
    sub_tlv_words after_services read_services_answer sub_tlvs write_services_answer first_passing
    rising selected any_passes lowest_by insert_upward sorted is_lower cost_onward neighbours onward paths chosen flat_map
figures_hold = refl
