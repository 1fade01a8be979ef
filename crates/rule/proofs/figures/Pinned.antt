-- Small tables and values that pin the definitions to document 01 where the figures and the worked example do not reach: every
-- refusal in each of its forms, both ends of every range, every constant, and what is given where there is nothing to give.
-- One collection, and one proof over it. Assumes nothing.
use Rattle.std.specs.Prelude.{ℕ, ◌+◌, ◌*◌, ◌/◌, ◌%◌, ◌≡◌, refl, Bool, cond, get_or, take, drop, replicate}
use mathlib.Core.List.{List, [], ◌∷◌, ◌++◌, map, flat_map}
use Rattle.std.proofs.Math.Option.{Option, none, some}
use Rattle.lists.specs.Lists.{rising, selected, any_passes, lowest_by}
use Rattle.graph.specs.Order.{insert_upward, sorted, is_lower}
use Rattle.graph.specs.Graph.{cost_onward}
use Rattle.graph.specs.Chosen.{neighbours, onward, paths, chosen}
use Rattle.lists.specs.Members.{sum_over}
use Rattle.rule.specs.Words.{words_of, word}
use Rattle.rule.proofs.figures.Tables.{table}
use Rattle.rule.specs.Records.{Record, bridge, half_link, vid, member, traffic, end, bridge_of, half_link_of, vid_of, member_of, all_within, least_metric, greatest_usable_metric, unusable_metric, layouts, layout_of}
use Rattle.rule.specs.Outcome.{Outcome, answered, refused}
use Rattle.rule.specs.Plan.{Plan, with_record, alike, bridge_at, vid_at}
use Rattle.rule.specs.Check.{longest_table, lowest_fault, read_on, verdict}
use Rattle.rule.specs.Links.{Link, number, links_of, usable_links, count_usable, links_between, joined, hop_link, graph_of}
use Rattle.rule.specs.Identifiers.{mask_of, masked_bytes, masked_identifier, without_extension}
use Rattle.rule.specs.Paths.{chosen_path}
use Rattle.rule.specs.Entries.{entry_words, list_of, first_port, leaving_port, entry_list_of, entries_of, individual_entries, group_entries, listed_ports, receiver_ports}
use Rattle.rule.specs.Answers.{CostAndHops, kind_number, check_values, path_values, tree_values, entries_values, lookup_values}
use Rattle.rule.specs.Calls.{counts_of, check_outcome, path_answer, path_outcome, last_but_one, tree_of, tree_outcome, entries_answer, entries_outcome}
use Rattle.rule.specs.Lookup.{entries_in, faulty_list, matching_ports, lookup_outcome}
use Rattle.rule.specs.Exported.{exported_check, exported_path_cost}
use Rattle.rule.specs.Frames.{crossed, arrival_port, entry_ports, leaves, crossings, stood, copies_leave, copies, copies_cross, reached}
use Rattle.rule.specs.declared.answer.Counts.{Counts}
use Rattle.rule.specs.declared.answer.RecordKind.TheVariants.{None as NoKind, Bridge as BridgeKind, HalfLink as HalfLinkKind, Vid as VidKind, Member as MemberKind, Traffic as TrafficKind, End as EndKind}
use Rattle.rule.specs.declared.answer.CheckAnswer.{CheckAnswer}
use Rattle.rule.specs.declared.answer.PathAnswer.{PathAnswer}
use Rattle.rule.specs.declared.answer.TreeAnswer.{TreeAnswer}
use Rattle.rule.specs.declared.answer.EntriesAnswer.{EntriesAnswer}
use Rattle.rule.specs.declared.answer.LookupAnswer.{LookupAnswer}

-- What a definition gives is shown as numbers or as a refusal, and rows of numbers behind it: the records of a plan, or the later
-- contents of lent lists. A test shows 1 or 0.
abbrev Shown : Type 0
Shown = Outcome (List ℕ) × List (List ℕ)

abbrev numbers : List ℕ → Shown
numbers ns = (answered ns, [])

abbrev rows : List (List ℕ) → Shown
rows rs = (answered [], rs)

abbrev flag : Bool → ℕ
flag b = cond b 1 0

-- The refusal of a record of a kind, and one without a kind.
abbrev fault : ℕ → ℕ → ℕ → Shown
fault number kind at = (refused number (some kind) at, [])

abbrev bare : ℕ → ℕ → Shown
bare number at = (refused number none at, [])

-- An outcome, with what `f` shows of its answer.
module _ {A : Type 0} where
  abbrev shown_by : (A → Shown) → Outcome A → Shown
  shown_by f (answered a) = f a
  shown_by f (refused number kind at) = (refused number kind at, [])

  -- The same, with the later contents of lent lists.
  abbrev lent_by : (A → List ℕ) → Outcome A → List (List ℕ) → Shown
  lent_by f (answered a) lent = (answered (f a), lent)
  lent_by f (refused number kind at) lent = (refused number kind at, lent)

-- The fields of a record.
abbrev fields_of : Record → List ℕ
fields_of (bridge b) = flag b.overloaded ∷ b.sp_source_id ∷ b.identifier ∷ []
fields_of (half_link h) = flag h.down ∷ h.metric ∷ h.near ∷ h.far ∷ h.port ∷ h.link ∷ []
fields_of (vid v) = v.vid ∷ v.index ∷ []
fields_of (member m) = flag m.transmits ∷ flag m.receives ∷ m.isid ∷ m.bridge ∷ m.vid ∷ []
fields_of (traffic t) = t.vid ∷ t.amount ∷ t.from ∷ t.to ∷ []
fields_of (end n) = n ∷ []

-- What the words of a record hold as each kind: the zero bits, and the fields.
abbrev field_rows : List ℕ → Shown
field_rows ws = rows (map (λ l. l.zero_bits ws ∷ fields_of (l.decoded ws)) layouts)

-- A decoded plan: a row for each record, which begins with its kind.
abbrev record_rows : Plan → Shown
record_rows p =
    rows
    (map (λ b. 1 ∷ fields_of (bridge b)) p.bridges
    ++ (map (λ h. 2 ∷ fields_of (half_link h)) p.half_links
    ++ (map (λ v. 3 ∷ fields_of (vid v)) p.vids
    ++ (map (λ m. 4 ∷ fields_of (member m)) p.members ++ map (λ t. 5 ∷ fields_of (traffic t)) p.traffic))))

abbrev five_counts : Counts → List ℕ
five_counts c = c.bridges ∷ c.half_links ∷ c.usable_links ∷ c.vids ∷ c.members ∷ []

abbrev cost_and_hops : CostAndHops → List ℕ
cost_and_hops v = v.cost ∷ v.hops ∷ []

abbrev optional : Option ℕ → List ℕ
optional none = []
optional (some n) = n ∷ []

abbrev link_numbers : List Link → Shown
link_numbers ls = numbers (map number ls)

-- The verdict on a table given by its rows, and on a table of as many zero bytes.
abbrev check : List (List ℕ) → Shown
check t = shown_by record_rows (verdict (table t))

abbrev zero_bytes : ℕ → Shown
zero_bytes n = shown_by record_rows (verdict (replicate n 0))

-- Records of which the tables are made: bridges 0 to 2, the two halves of link 7 between 0 and 1, a VID, a member, traffic from 0 to 1.
abbrev bridge0 : List ℕ
bridge0 = 0x10000001 ∷ 0x80000200 ∷ 0x00000001 ∷ []

abbrev bridge1 : List ℕ
bridge1 = 0x10000002 ∷ 0x80000200 ∷ 0x00000002 ∷ []

abbrev bridge2 : List ℕ
bridge2 = 0x10000003 ∷ 0x80000200 ∷ 0x00000003 ∷ []

abbrev half01 : List ℕ
half01 = 0x2000000a ∷ 0x00000001 ∷ 0x00010007 ∷ []

abbrev half10 : List ℕ
half10 = 0x2000000c ∷ 0x00010000 ∷ 0x00020007 ∷ []

abbrev vid10 : List ℕ
vid10 = 0x300a0001 ∷ []

abbrev member0 : List ℕ
member0 = 0x43000100 ∷ 0x0000000a ∷ []

abbrev traffic01 : List ℕ
traffic01 = 0x500a0005 ∷ 0x00000001 ∷ []

-- As many bridges, VIDs of index 1 and members of bridge 0 as there are numbers, all different.
abbrev many_bridges : ℕ → List (List ℕ)
many_bridges n = map (λ k. (0x10000000 + k) ∷ 0x80000200 ∷ k ∷ []) (rising 1 n)

abbrev many_vids : ℕ → List (List ℕ)
many_vids n = map (λ k. (0x30000001 + k * 0x10000) ∷ []) (rising 1 n)

abbrev many_members : ℕ → List (List ℕ)
many_members n = map (λ k. (0x40000100 + k) ∷ 0x00000001 ∷ []) (rising 1 n)

-- As many traffic records of VID 1, each from one of 17 bridges to another, all different.
abbrev many_traffic : ℕ → List (List ℕ)
many_traffic n = map (λ k. 0x50010001 ∷ (k / 16 * 0x10000 + (k / 16 + 1 + k % 16) % 17) ∷ []) (rising 0 n)

-- Bridges 0, 1 and 2 in a chain of the links 7 and 9, bridge 3 alone. Link 8 between 0 and 1 is unusable, link 11 is a half-link
-- alone. Bridge 0 sends in VID 10 and 11, bridge 2 in VID 10, and bridge 1 in a service without receivers.
abbrev chain : List (List ℕ)
chain =
    (0x100abcde ∷ 0x80000200 ∷ 0x00000001 ∷ [])
    ∷ (0x10000001 ∷ 0x80000200 ∷ 0x00000002 ∷ [])
    ∷ (0x10054321 ∷ 0x8000fedc ∷ 0xba987654 ∷ [])
    ∷ (0x10000004 ∷ 0x80000200 ∷ 0x00000004 ∷ [])
    ∷ (0x2000000a ∷ 0x00000001 ∷ 0x00050007 ∷ [])
    ∷ (0x2000000c ∷ 0x00010000 ∷ 0x00060007 ∷ [])
    ∷ (0x20000014 ∷ 0x00020001 ∷ 0x00030009 ∷ [])
    ∷ (0x20000013 ∷ 0x00010002 ∷ 0x0fff0009 ∷ [])
    ∷ (0x20000001 ∷ 0x00000001 ∷ 0x00070008 ∷ [])
    ∷ (0x20ffffff ∷ 0x00010000 ∷ 0x00070008 ∷ [])
    ∷ (0x20000001 ∷ 0x00000002 ∷ 0x0009000b ∷ [])
    ∷ (0x300a0001 ∷ [])
    ∷ (0x300b0002 ∷ [])
    ∷ (0x43000100 ∷ 0x0000000a ∷ [])
    ∷ (0x41000100 ∷ 0x0001000a ∷ [])
    ∷ (0x43000100 ∷ 0x0002000a ∷ [])
    ∷ (0x41000101 ∷ 0x0001000a ∷ [])
    ∷ (0x42000101 ∷ 0x0000000b ∷ [])
    ∷ (0x41000101 ∷ 0x0002000b ∷ [])
    ∷ (0x41000100 ∷ 0x0003000a ∷ [])
    ∷ (0x42000102 ∷ 0x0001000a ∷ [])
    ∷ (0xf0000033 ∷ [])
    ∷ []

-- Its entries, bridge by bridge.
abbrev entries0 : List ℕ
entries0 =
    0x800a0005 ∷ 0x00000200 ∷ 0x00000002
    ∷ 0x800a0005 ∷ 0x0000fedc ∷ 0xba987654
    ∷ 0x900a0005 ∷ 0x0000a3bc ∷ 0xde000100
    ∷ 0x800b0005 ∷ 0x00000200 ∷ 0x00000002
    ∷ 0x800b0005 ∷ 0x0000fedc ∷ 0xba987654
    ∷ 0x900b0005 ∷ 0x0000a3bc ∷ 0xde000101
    ∷ []

abbrev entries1 : List ℕ
entries1 =
    0x800a0006 ∷ 0x00000200 ∷ 0x00000001
    ∷ 0x800a0fff ∷ 0x0000fedc ∷ 0xba987654
    ∷ 0x900a0fff ∷ 0x0000a3bc ∷ 0xde000100
    ∷ 0x900a0006 ∷ 0x00005343 ∷ 0x21000100
    ∷ 0x800b0006 ∷ 0x00000200 ∷ 0x00000001
    ∷ 0x800b0fff ∷ 0x0000fedc ∷ 0xba987654
    ∷ 0x900b0fff ∷ 0x0000a3bc ∷ 0xde000101
    ∷ []

abbrev entries2 : List ℕ
entries2 =
    0x800a0003 ∷ 0x00000200 ∷ 0x00000001
    ∷ 0x800a0003 ∷ 0x00000200 ∷ 0x00000002
    ∷ 0x900a0003 ∷ 0x00005343 ∷ 0x21000100
    ∷ 0x800b0003 ∷ 0x00000200 ∷ 0x00000001
    ∷ 0x800b0003 ∷ 0x00000200 ∷ 0x00000002
    ∷ []

abbrev lists : ℕ → List ℕ
lists u = get_or (entries0 ∷ entries1 ∷ entries2 ∷ []) u []

-- What is asked of the plan of the chain.
abbrev of_chain : (Plan → Shown) → Shown
of_chain ask = shown_by ask (verdict (table chain))

-- The chain with the port of the half of link 9 at bridge 2 down.
abbrev chain_down : List (List ℕ)
chain_down = take 6 chain ++ ((0x28000014 ∷ 0x00020001 ∷ 0x00030009 ∷ []) ∷ drop 7 chain)

-- The calls on the chain: path in VID 10, and tree with three lent lists.
abbrev path_of : ℕ → ℕ → List ℕ → Shown
path_of a b lent = given (path_outcome (table chain) 10 a b lent)
  where
    given : Outcome CostAndHops × List ℕ → Shown
    given r = lent_by cost_and_hops r.0 (r.1 ∷ [])

abbrev tree_from : ℕ → ℕ → List ℕ → List ℕ → List ℕ → Shown
tree_from v a costs hop_counts lasts = given (tree_outcome (table chain) v a costs hop_counts lasts)
  where
    given : Outcome ℕ × List ℕ × List ℕ × List ℕ → Shown
    given (o, xs, ys, zs) = lent_by (λ n. n ∷ []) o (xs ∷ ys ∷ zs ∷ [])

abbrev entries_kept : Outcome ℕ × List ℕ → Shown
entries_kept r = lent_by (λ n. n ∷ []) r.0 (r.1 ∷ [])

-- Lookup in VID 10 of the address 1.
abbrev looked_up : List ℕ → ℕ → Shown
looked_up ws n = shown_by (λ o. numbers (optional o)) (lookup_outcome ws 10 1 n)

-- The individual frame in VID 10 for bridge 2, by the chain's entries, and the copies of the group frame of bridge 0.
abbrev frame_links : Plan → ℕ → ℕ → List Link
frame_links p n a = crossings (leaves p.half_links lists 10 0xfedcba987654) 2 n a

abbrev copies_at : Plan → ℕ → List Link
copies_at p u = copies_leave p.half_links lists 10 0xa3bcde000100 u

-- Three entries with the address 1 in VID 10, between them one with another VID and one with another address.
abbrev five_entries : List ℕ
five_entries =
    0x800a0001 ∷ 0x00000000 ∷ 0x00000001
    ∷ 0x8ffe0005 ∷ 0x00000000 ∷ 0x00000001
    ∷ 0x800a0fff ∷ 0x00000000 ∷ 0x00000001
    ∷ 0x800a0006 ∷ 0x00000002 ∷ 0x00000001
    ∷ 0x800a0002 ∷ 0x00000000 ∷ 0x00000001
    ∷ []

record Pin : Type 0 where
  asked : Shown
  expected : Shown

abbrev pin : Shown → Shown → Pin
pin a e = record { asked = a; expected = e }

abbrev pins : List Pin
pins =
    -- "1. The table's length is 0, above 7,492 bytes, or no multiple of 4": 9,540 with traffic (02, A5). "Kind is none and the word 0 for 1".
    pin (zero_bytes 0) (bare 1 0)
    ∷ pin (zero_bytes 1) (bare 1 0)
    ∷ pin (zero_bytes 6) (bare 1 0)
    ∷ pin (zero_bytes 9544) (bare 1 0)
    ∷ pin (zero_bytes 9540) (bare 2 0)
    -- "2. The kind is unknown or lower than that of the record before." "for 2 kind is none".
    ∷ pin (check ((0x00000000 ∷ []) ∷ [])) (bare 2 0)
    ∷ pin (check (vid10 ∷ (0x60000000 ∷ []) ∷ [])) (bare 2 1)
    ∷ pin (check (bridge0 ∷ (0xe0000000 ∷ []) ∷ [])) (bare 2 3)
    ∷ pin (check (vid10 ∷ bridge0 ∷ [])) (bare 2 1)
    ∷ pin (check (bridge0 ∷ bridge1 ∷ half01 ∷ bridge2 ∷ [])) (bare 2 9)
    ∷ pin (check (bridge0 ∷ bridge1 ∷ vid10 ∷ traffic01 ∷ member0 ∷ [])) (bare 2 9)
    -- "3. The record's words aren't all there, or the table ends with no end record." "for a missing end record kind is none and the
    -- word is the number of words".
    ∷ pin (check ((0x10000001 ∷ []) ∷ [])) (fault 3 1 0)
    ∷ pin (check ((0x10000001 ∷ 0x80000200 ∷ []) ∷ [])) (fault 3 1 0)
    ∷ pin (check (bridge0 ∷ (0x2000000a ∷ 0x00000001 ∷ []) ∷ [])) (fault 3 2 3)
    ∷ pin (check (vid10 ∷ (0x43000100 ∷ []) ∷ [])) (fault 3 4 1)
    ∷ pin (check (vid10 ∷ (0x500a0005 ∷ []) ∷ [])) (fault 3 5 1)
    ∷ pin (check (vid10 ∷ [])) (bare 3 1)
    ∷ pin (check (bridge0 ∷ bridge1 ∷ [])) (bare 3 6)
    -- "4. A zero bit is set": bits 26..20 of a bridge (02, A1, took bit 27), 26..24 of a half-link (A3 took bit 27), 27..26 of a member.
    ∷ pin (check ((0x14000001 ∷ 0x80000200 ∷ 0x00000001 ∷ []) ∷ [])) (fault 4 1 0)
    ∷ pin (check ((0x1c000001 ∷ 0x80000200 ∷ 0x00000001 ∷ []) ∷ [])) (fault 4 1 0)
    ∷ pin (check ((0x10100001 ∷ 0x80000200 ∷ 0x00000001 ∷ []) ∷ [])) (fault 4 1 0)
    ∷ pin (check ((0x2400000a ∷ 0x00000001 ∷ 0x00010007 ∷ []) ∷ [])) (fault 4 2 0)
    ∷ pin (check ((0x2c00000a ∷ 0x00000001 ∷ 0x00010007 ∷ []) ∷ [])) (fault 4 2 0)
    ∷ pin (check ((0x2100000a ∷ 0x00000001 ∷ 0x00010007 ∷ []) ∷ [])) (fault 4 2 0)
    ∷ pin (check ((0x48000100 ∷ 0x0000000a ∷ []) ∷ [])) (fault 4 4 0)
    ∷ pin (check ((0x44000100 ∷ 0x0000000a ∷ []) ∷ [])) (fault 4 4 0)
    -- "5. There is one record more of this kind than the limit": the last of 65, 17, 65 and 257. The limit of half-links is below.
    ∷ pin (check (many_bridges 65)) (fault 5 1 192)
    ∷ pin (check (many_vids 17)) (fault 5 3 16)
    ∷ pin (check (bridge0 ∷ many_vids 1 ++ many_members 65)) (fault 5 4 132)
    ∷ pin (check (many_bridges 17 ++ (many_vids 1 ++ many_traffic 257))) (fault 5 5 564)
    -- "6. A value is outside its range": a bridge's SPsourceID 0, address 0, group address.
    ∷ pin (check ((0x10000000 ∷ 0x80000200 ∷ 0x00000001 ∷ []) ∷ [])) (fault 6 1 0)
    ∷ pin (check ((0x10000001 ∷ 0x80000000 ∷ 0x00000000 ∷ []) ∷ [])) (fault 6 1 0)
    ∷ pin (check ((0x10000001 ∷ 0x80000100 ∷ 0x00000001 ∷ []) ∷ [])) (fault 6 1 0)
    -- Metric 0, port 0 and 4,096, link number 0.
    ∷ pin (check ((0x20000000 ∷ 0x00000001 ∷ 0x00010007 ∷ []) ∷ [])) (fault 6 2 0)
    ∷ pin (check ((0x2000000a ∷ 0x00000001 ∷ 0x00000007 ∷ []) ∷ [])) (fault 6 2 0)
    ∷ pin (check ((0x2000000a ∷ 0x00000001 ∷ 0x10000007 ∷ []) ∷ [])) (fault 6 2 0)
    ∷ pin (check ((0x2000000a ∷ 0x00000001 ∷ 0x00010000 ∷ []) ∷ [])) (fault 6 2 0)
    -- VID 0 and 4,095, ECT index 0 and 17.
    ∷ pin (check ((0x30000001 ∷ []) ∷ [])) (fault 6 3 0)
    ∷ pin (check ((0x3fff0001 ∷ []) ∷ [])) (fault 6 3 0)
    ∷ pin (check ((0x300a0000 ∷ []) ∷ [])) (fault 6 3 0)
    ∷ pin (check ((0x300a0011 ∷ []) ∷ [])) (fault 6 3 0)
    -- I-SID 255 and 16,777,215, a member's VID 0 and 4,095.
    ∷ pin (check ((0x430000ff ∷ 0x0000000a ∷ []) ∷ [])) (fault 6 4 0)
    ∷ pin (check ((0x43ffffff ∷ 0x0000000a ∷ []) ∷ [])) (fault 6 4 0)
    ∷ pin (check ((0x43000100 ∷ 0x00000000 ∷ []) ∷ [])) (fault 6 4 0)
    ∷ pin (check ((0x43000100 ∷ 0x00000fff ∷ []) ∷ [])) (fault 6 4 0)
    -- "Amount zero is 6" (02, A5), and so is a VID of 0 and 4,095.
    ∷ pin (check ((0x500a0000 ∷ 0x00000001 ∷ []) ∷ [])) (fault 6 5 0)
    ∷ pin (check ((0x50000005 ∷ 0x00000001 ∷ []) ∷ [])) (fault 6 5 0)
    ∷ pin (check ((0x5fff0005 ∷ 0x00000001 ∷ []) ∷ [])) (fault 6 5 0)
    -- "or the end count is wrong".
    ∷ pin (check ((0xf0000001 ∷ []) ∷ [])) (fault 6 15 0)
    ∷ pin (check (bridge0 ∷ (0xf0000002 ∷ []) ∷ [])) (fault 6 15 3)
    ∷ pin (check (bridge0 ∷ (0xf8000003 ∷ []) ∷ [])) (fault 6 15 3)
    -- "7. A bridge or VID that a half-link or member names has no record, or near and far bridge are equal."
    ∷ pin (check (bridge0 ∷ bridge1 ∷ (0x2000000a ∷ 0x00020001 ∷ 0x00010007 ∷ []) ∷ [])) (fault 7 2 6)
    ∷ pin (check (bridge0 ∷ bridge1 ∷ (0x2000000a ∷ 0x00000002 ∷ 0x00010007 ∷ []) ∷ [])) (fault 7 2 6)
    ∷ pin (check (bridge0 ∷ bridge1 ∷ (0x2000000a ∷ 0x00010001 ∷ 0x00010007 ∷ []) ∷ [])) (fault 7 2 6)
    ∷ pin (check (bridge0 ∷ vid10 ∷ (0x43000100 ∷ 0x0001000a ∷ []) ∷ [])) (fault 7 4 4)
    ∷ pin (check (bridge0 ∷ vid10 ∷ (0x43000100 ∷ 0x0000000b ∷ []) ∷ [])) (fault 7 4 4)
    -- "an unknown name or equal ends 7" (02, A5): from, to, both and the VID.
    ∷ pin (check (bridge0 ∷ bridge1 ∷ vid10 ∷ (0x500a0005 ∷ 0x00020001 ∷ []) ∷ [])) (fault 7 5 7)
    ∷ pin (check (bridge0 ∷ bridge1 ∷ vid10 ∷ (0x500a0005 ∷ 0x00000002 ∷ []) ∷ [])) (fault 7 5 7)
    ∷ pin (check (bridge0 ∷ bridge1 ∷ vid10 ∷ (0x500a0005 ∷ 0x00010001 ∷ []) ∷ [])) (fault 7 5 7)
    ∷ pin (check (bridge0 ∷ bridge1 ∷ vid10 ∷ (0x500b0005 ∷ 0x00000001 ∷ []) ∷ [])) (fault 7 5 7)
    -- "8. A record repeats an earlier one's address, SPsourceID, near bridge with port, VID, or bridge with I-SID and VID." The address
    -- is repeated with another priority.
    ∷ pin (check (bridge0 ∷ bridge1 ∷ (0x10000003 ∷ 0x90000200 ∷ 0x00000001 ∷ []) ∷ [])) (fault 8 1 6)
    ∷ pin (check (bridge0 ∷ bridge1 ∷ (0x10000002 ∷ 0x80000200 ∷ 0x00000003 ∷ []) ∷ [])) (fault 8 1 6)
    ∷ pin (check (bridge0 ∷ bridge1 ∷ bridge2 ∷ half01 ∷ (0x2000000a ∷ 0x00000002 ∷ 0x00010008 ∷ []) ∷ [])) (fault 8 2 12)
    ∷ pin (check (vid10 ∷ (0x300b0001 ∷ []) ∷ (0x300a0002 ∷ []) ∷ [])) (fault 8 3 2)
    ∷ pin (check (bridge0 ∷ vid10 ∷ member0 ∷ (0x40000100 ∷ 0x0000000a ∷ []) ∷ [])) (fault 8 4 6)
    -- "a repeated VID, from and to 8" (02, A5), here with another amount.
    ∷ pin (check (bridge0 ∷ bridge1 ∷ vid10 ∷ traffic01 ∷ (0x500a0006 ∷ 0x00000001 ∷ []) ∷ [])) (fault 8 5 9)
    -- "9. It is a third half-link of a link number, or the second and no mirror of the first", by its near or its far bridge.
    ∷ pin (check (bridge0 ∷ bridge1 ∷ half01 ∷ half10 ∷ (0x2000000a ∷ 0x00010000 ∷ 0x00030007 ∷ []) ∷ [])) (fault 9 2 12)
    ∷ pin (check (bridge0 ∷ bridge1 ∷ bridge2 ∷ half01 ∷ (0x2000000a ∷ 0x00020000 ∷ 0x00010007 ∷ []) ∷ [])) (fault 9 2 12)
    ∷ pin (check (bridge0 ∷ bridge1 ∷ bridge2 ∷ half01 ∷ (0x2000000a ∷ 0x00010002 ∷ 0x00010007 ∷ []) ∷ [])) (fault 9 2 12)
    -- "10. Words follow the end record; this is a fault of the end record, and those words are not read as records."
    ∷ pin (check ((0xf0000000 ∷ []) ∷ (0x00000000 ∷ []) ∷ [])) (fault 10 15 0)
    ∷ pin (check (vid10 ∷ (0xf0000001 ∷ []) ∷ (0xf0000002 ∷ []) ∷ [])) (fault 10 15 1)
    -- "and of its faults the lowest": 2 before 3, 3 before 4, and so on. The half-links and members with 6 above name bridges that are
    -- not there: 6 before 7.
    ∷ pin (check (vid10 ∷ (0x10000001 ∷ []) ∷ [])) (bare 2 1)
    ∷ pin (check ((0x10100001 ∷ []) ∷ [])) (fault 3 1 0)
    ∷ pin (check (many_bridges 64 ++ ((0x10100001 ∷ 0x80000200 ∷ 0x00000001 ∷ []) ∷ []))) (fault 4 1 192)
    ∷ pin (check (many_vids 16 ++ ((0x30010000 ∷ []) ∷ []))) (fault 5 3 16)
    ∷ pin (check (bridge0 ∷ bridge1 ∷ half01 ∷ (0x2000000a ∷ 0x00000000 ∷ 0x00010007 ∷ []) ∷ [])) (fault 7 2 9)
    ∷ pin (check (bridge0 ∷ bridge1 ∷ half01 ∷ half01 ∷ [])) (fault 8 2 9)
    ∷ pin (check ((0xf0000001 ∷ []) ∷ (0x00000000 ∷ []) ∷ [])) (fault 6 15 0)
    -- "For 2 to 10 the first faulty record counts".
    ∷ pin (check ((0x10000000 ∷ 0x80000200 ∷ 0x00000001 ∷ []) ∷ (0x14000001 ∷ 0x80000200 ∷ 0x00000001 ∷ []) ∷ [])) (fault 6 1 0)
    -- "A table is accepted when none of 1 to 10 applies to it": both ends of each range, any priority, overloaded or not, down or not, and
    -- half-links, members and traffic that differ from each other in one value alone, or in the direction alone: "the opposite direction
    -- is no repeat" (02, A5). "T and R may both be 0."
    ∷ pin
    (check
    ((0x10000001 ∷ 0x00000000 ∷ 0x00000001 ∷ [])
    ∷ (0x180fffff ∷ 0xfffffeff ∷ 0xffffffff ∷ [])
    ∷ (0x20000001 ∷ 0x00000001 ∷ 0x00010001 ∷ [])
    ∷ (0x20ffffff ∷ 0x00010000 ∷ 0x00010001 ∷ [])
    ∷ (0x28fffffe ∷ 0x00000001 ∷ 0x0fffffff ∷ [])
    ∷ (0x30010001 ∷ [])
    ∷ (0x3ffe0010 ∷ [])
    ∷ (0x40000100 ∷ 0x00000001 ∷ [])
    ∷ (0x42000100 ∷ 0x00010001 ∷ [])
    ∷ (0x41000100 ∷ 0x00000ffe ∷ [])
    ∷ (0x43fffffe ∷ 0x00000001 ∷ [])
    ∷ (0x50010001 ∷ 0x00000001 ∷ [])
    ∷ (0x5001ffff ∷ 0x00010000 ∷ [])
    ∷ (0x5ffe0001 ∷ 0x00000001 ∷ [])
    ∷ (0xf000001f ∷ [])
    ∷ []))
    (rows
    ((1 ∷ 0 ∷ 1 ∷ 1 ∷ [])
    ∷ (1 ∷ 1 ∷ 1048575 ∷ 0xfffffeffffffffff ∷ [])
    ∷ (2 ∷ 0 ∷ 1 ∷ 0 ∷ 1 ∷ 1 ∷ 1 ∷ [])
    ∷ (2 ∷ 0 ∷ 16777215 ∷ 1 ∷ 0 ∷ 1 ∷ 1 ∷ [])
    ∷ (2 ∷ 1 ∷ 16777214 ∷ 0 ∷ 1 ∷ 4095 ∷ 65535 ∷ [])
    ∷ (3 ∷ 1 ∷ 1 ∷ [])
    ∷ (3 ∷ 4094 ∷ 16 ∷ [])
    ∷ (4 ∷ 0 ∷ 0 ∷ 256 ∷ 0 ∷ 1 ∷ [])
    ∷ (4 ∷ 1 ∷ 0 ∷ 256 ∷ 1 ∷ 1 ∷ [])
    ∷ (4 ∷ 0 ∷ 1 ∷ 256 ∷ 0 ∷ 4094 ∷ [])
    ∷ (4 ∷ 1 ∷ 1 ∷ 16777214 ∷ 0 ∷ 1 ∷ [])
    ∷ (5 ∷ 1 ∷ 1 ∷ 0 ∷ 1 ∷ [])
    ∷ (5 ∷ 1 ∷ 65535 ∷ 1 ∷ 0 ∷ [])
    ∷ (5 ∷ 4094 ∷ 1 ∷ 0 ∷ 1 ∷ [])
    ∷ []))
    -- The kinds, words and limits of "The table", and 9,540 bytes (02, A5): the words of a longest table four times.
    ∷ pin (rows (map (λ l. l.kind ∷ l.words ∷ l.limit ∷ []) layouts))
    (rows
    ((1 ∷ 3 ∷ 64 ∷ [])
    ∷ (2 ∷ 3 ∷ 512 ∷ [])
    ∷ (3 ∷ 1 ∷ 16 ∷ [])
    ∷ (4 ∷ 2 ∷ 64 ∷ [])
    ∷ (5 ∷ 2 ∷ 256 ∷ [])
    ∷ (15 ∷ 1 ∷ 1 ∷ [])
    ∷ []))
    ∷ pin (numbers (4 * sum_over (λ l. l.words * l.limit) layouts ∷ longest_table ∷ [])) (numbers (9540 ∷ 9540 ∷ []))
    -- "Ranges: SPsourceID 1 to 1,048,575; address neither zero nor a group address; metric 1 to 16,777,215; port 1 to 4,095; link number
    -- 1 to 65,535; VID 1 to 4,094; ECT index 1 to 16; I-SID 256 to 16,777,214", "amount 1 to 65,535" (02, A5): the least and the
    -- greatest values, row by row.
    ∷ pin (rows (map (λ l. flat_map (λ g. g.limits.least ∷ g.limits.greatest ∷ []) l.ranges) layouts))
    (rows
    ((1 ∷ 1048575 ∷ 1 ∷ 0xffffffffffff ∷ 0 ∷ 0 ∷ [])
    ∷ (1 ∷ 16777215 ∷ 1 ∷ 4095 ∷ 1 ∷ 65535 ∷ [])
    ∷ (1 ∷ 4094 ∷ 1 ∷ 16 ∷ [])
    ∷ (256 ∷ 16777214 ∷ 1 ∷ 4094 ∷ [])
    ∷ (1 ∷ 4094 ∷ 1 ∷ 65535 ∷ [])
    ∷ []
    ∷ []))
    -- "ECT masks, index 1 to 16, hexadecimal: 00 FF 88 77 44 33 CC BB 22 11 66 55 AA 99 DD EE."
    ∷ pin (numbers (map mask_of (rising 1 16)))
    (numbers (0x00 ∷ 0xff ∷ 0x88 ∷ 0x77 ∷ 0x44 ∷ 0x33 ∷ 0xcc ∷ 0xbb ∷ 0x22 ∷ 0x11 ∷ 0x66 ∷ 0x55 ∷ 0xaa ∷ 0x99 ∷ 0xdd ∷ 0xee ∷ []))
    -- "19..0 SPsourceID", "near bridge (16), far bridge (16)" and so on: the zero bits and fields of words of ones, and their places.
    ∷ pin (field_rows (0xffffffff ∷ 0xffffffff ∷ 0xffffffff ∷ []))
    (rows
    ((0x7f ∷ 1 ∷ 0xfffff ∷ 0xffffffffffffffff ∷ [])
    ∷ (7 ∷ 1 ∷ 0xffffff ∷ 0xffff ∷ 0xffff ∷ 0xffff ∷ 0xffff ∷ [])
    ∷ (0 ∷ 0xfff ∷ 0xffff ∷ [])
    ∷ (3 ∷ 1 ∷ 1 ∷ 0xffffff ∷ 0xffff ∷ 0xffff ∷ [])
    ∷ (0 ∷ 0xfff ∷ 0xffff ∷ 0xffff ∷ 0xffff ∷ [])
    ∷ (0 ∷ 0xfffffff ∷ [])
    ∷ []))
    ∷ pin (field_rows (0x1e345678 ∷ 0x9abcdef0 ∷ 0x13579bdf ∷ []))
    (rows
    ((0x63 ∷ 1 ∷ 0x45678 ∷ 0x9abcdef013579bdf ∷ [])
    ∷ (6 ∷ 1 ∷ 0x345678 ∷ 0x9abc ∷ 0xdef0 ∷ 0x1357 ∷ 0x9bdf ∷ [])
    ∷ (0 ∷ 0xe34 ∷ 0x5678 ∷ [])
    ∷ (3 ∷ 1 ∷ 0 ∷ 0x345678 ∷ 0x9abc ∷ 0xdef0 ∷ [])
    ∷ (0 ∷ 0xe34 ∷ 0x5678 ∷ 0x9abc ∷ 0xdef0 ∷ [])
    ∷ (0 ∷ 0xe345678 ∷ [])
    ∷ []))
    -- "The metric type carries three named values: 1, the least; 16,777,214, the greatest usable; 16,777,215, unusable."
    ∷ pin (numbers (least_metric ∷ greatest_usable_metric ∷ unusable_metric ∷ [])) (numbers (1 ∷ 16777214 ∷ 16777215 ∷ []))
    ∷ pin (numbers (all_within (record { least = 3; greatest = 5 }))) (numbers (3 ∷ 4 ∷ 5 ∷ []))
    -- "Bytes make words of 32 bits, high byte first." Bytes that make no whole word are left out, and there is no word behind the last.
    ∷ pin (numbers (words_of (1 ∷ 2 ∷ 3 ∷ []))) (numbers [])
    ∷ pin (numbers (words_of (1 ∷ 2 ∷ []))) (numbers [])
    ∷ pin (numbers (words_of (1 ∷ 2 ∷ 3 ∷ 4 ∷ 5 ∷ []))) (numbers (0x01020304 ∷ []))
    ∷ pin (numbers (word (5 ∷ []) 0 ∷ word (5 ∷ []) 1 ∷ [])) (numbers (5 ∷ 0 ∷ []))
    -- What an index that no VID has gives, a bridge and a VID that are not there, and the number of records of each kind.
    ∷ pin (numbers (map mask_of (0 ∷ 17 ∷ []))) (numbers (0 ∷ 0 ∷ []))
    ∷ pin (of_chain λ p. numbers (fields_of (bridge (bridge_at p 4)) ++ fields_of (vid (vid_at p 2)))) (numbers (0 ∷ 0 ∷ 0 ∷ 0 ∷ 0 ∷ []))
    ∷ pin (of_chain λ p. numbers ((bridge_at p 3).sp_source_id ∷ (vid_at p 1).vid ∷ (vid_at p 1).index ∷ [])) (numbers (4 ∷ 11 ∷ 2 ∷ []))
    ∷ pin
    (of_chain λ p.
    numbers
    (map (alike p)
    (bridge (bridge_of []) ∷ half_link (half_link_of []) ∷ vid (vid_of []) ∷ member (member_of []) ∷ end 0 ∷ [])))
    (numbers (4 ∷ 7 ∷ 2 ∷ 8 ∷ 0 ∷ []))
    ∷ pin (of_chain λ p. numbers (five_counts (counts_of (with_record p (end 0))))) (numbers (4 ∷ 7 ∷ 2 ∷ 2 ∷ 8 ∷ []))
    -- "Each of the eight bytes of a Bridge Identifier is XORed with the mask of the VID's index."
    ∷ pin (numbers (masked_identifier 6 0x8000020000000001 ∷ [])) (numbers (0xb333313333333332 ∷ []))
    -- "the identifier with those 12 bits cleared": all bits set, and either end of the 12 and its neighbours alone.
    ∷ pin
    (numbers
    (map without_extension
    (0xffffffffffffffff
    ∷ 0x0fff000000000000
    ∷ 0x1000000000000000
    ∷ 0x0800000000000000
    ∷ 0x0001000000000000
    ∷ 0x0000800000000000
    ∷ [])))
    (numbers (0xf000ffffffffffff ∷ 0 ∷ 0x1000000000000000 ∷ 0 ∷ 0 ∷ 0x0000800000000000 ∷ []))
    -- "A half-link alone isn't used." "A link costs the greater of its two metrics": the cost of each hop, 0 where two bridges are not
    -- joined, and which bridges are joined to 0 and to 1.
    ∷ pin
    (of_chain λ p. rows (map (λ u. map (λ v. (graph_of p).hop u v) (rising 0 4)) (rising 0 4)))
    (rows
    ((0 ∷ 12 ∷ 0 ∷ 0 ∷ [])
    ∷ (12 ∷ 0 ∷ 20 ∷ 0 ∷ [])
    ∷ (0 ∷ 20 ∷ 0 ∷ 0 ∷ [])
    ∷ (0 ∷ 0 ∷ 0 ∷ 0 ∷ [])
    ∷ []))
    ∷ pin (of_chain λ p. rows (map (λ u. map (λ v. flag (joined p.half_links u v)) (rising 0 4)) (0 ∷ 1 ∷ [])))
    (rows ((0 ∷ 1 ∷ 0 ∷ 0 ∷ []) ∷ (1 ∷ 0 ∷ 1 ∷ 0 ∷ []) ∷ []))
    -- Path: the path of a bridge to itself, "12. No path exists", "11. The call names a bridge or VID that the table lacks". "Lent lists
    -- keep every word."
    ∷ pin (path_of 0 2 (7 ∷ 7 ∷ 7 ∷ 7 ∷ [])) (answered (32 ∷ 2 ∷ []), (0 ∷ 1 ∷ 2 ∷ 7 ∷ []) ∷ [])
    ∷ pin (path_of 1 1 (7 ∷ [])) (answered (0 ∷ 0 ∷ []), (1 ∷ []) ∷ [])
    ∷ pin (path_of 0 3 (7 ∷ [])) (refused 12 none 0, (7 ∷ []) ∷ [])
    ∷ pin (path_of 4 0 (7 ∷ [])) (refused 11 none 0, (7 ∷ []) ∷ [])
    ∷ pin (path_of 0 4 (7 ∷ [])) (refused 11 none 0, (7 ∷ []) ∷ [])
    -- Tree: the cost, hops and last bridge but one of the path to each bridge, or 0, 0 and 65,535 where none leads there.
    ∷ pin (tree_from 10 0 (7 ∷ 7 ∷ 7 ∷ 7 ∷ []) (8 ∷ 8 ∷ 8 ∷ 8 ∷ 8 ∷ []) (9 ∷ 9 ∷ 9 ∷ 9 ∷ 9 ∷ 9 ∷ []))
    (answered (4 ∷ []), (0 ∷ 12 ∷ 32 ∷ 0 ∷ []) ∷ (0 ∷ 1 ∷ 2 ∷ 0 ∷ 8 ∷ []) ∷ (0 ∷ 0 ∷ 1 ∷ 65535 ∷ 9 ∷ 9 ∷ []) ∷ [])
    ∷ pin (tree_from 10 0 (7 ∷ 7 ∷ 7 ∷ []) (8 ∷ 8 ∷ 8 ∷ 8 ∷ []) (9 ∷ 9 ∷ 9 ∷ 9 ∷ []))
    (refused 13 none 0, (7 ∷ 7 ∷ 7 ∷ []) ∷ (8 ∷ 8 ∷ 8 ∷ 8 ∷ []) ∷ (9 ∷ 9 ∷ 9 ∷ 9 ∷ []) ∷ [])
    ∷ pin (tree_from 10 0 (7 ∷ 7 ∷ 7 ∷ 7 ∷ []) (8 ∷ 8 ∷ 8 ∷ []) (9 ∷ 9 ∷ 9 ∷ 9 ∷ []))
    (refused 13 none 0, (7 ∷ 7 ∷ 7 ∷ 7 ∷ []) ∷ (8 ∷ 8 ∷ 8 ∷ []) ∷ (9 ∷ 9 ∷ 9 ∷ 9 ∷ []) ∷ [])
    ∷ pin (tree_from 10 0 (7 ∷ 7 ∷ 7 ∷ 7 ∷ []) (8 ∷ 8 ∷ 8 ∷ 8 ∷ []) (9 ∷ 9 ∷ 9 ∷ []))
    (refused 13 none 0, (7 ∷ 7 ∷ 7 ∷ 7 ∷ []) ∷ (8 ∷ 8 ∷ 8 ∷ 8 ∷ []) ∷ (9 ∷ 9 ∷ 9 ∷ []) ∷ [])
    ∷ pin (tree_from 10 4 (7 ∷ []) (8 ∷ []) (9 ∷ [])) (refused 11 none 0, (7 ∷ []) ∷ (8 ∷ []) ∷ (9 ∷ []) ∷ [])
    ∷ pin (tree_from 12 0 (7 ∷ []) (8 ∷ []) (9 ∷ [])) (refused 11 none 0, (7 ∷ []) ∷ (8 ∷ []) ∷ (9 ∷ []) ∷ [])
    ∷ pin (numbers (map last_but_one ([] ∷ (4 ∷ []) ∷ (4 ∷ 5 ∷ []) ∷ (4 ∷ 5 ∷ 6 ∷ 7 ∷ []) ∷ []))) (numbers (0 ∷ 4 ∷ 4 ∷ 6 ∷ []))
    -- Entries: "First, for each other bridge by number that a path reaches, one entry"; "Then, for each member record of that VID with T,
    -- in table order, a group entry for each port"; "top 4 bits of SPsourceID then hexadecimal 3".
    ∷ pin (of_chain λ p. numbers (entry_list_of p 1)) (numbers entries1)
    ∷ pin (of_chain λ p. rows (map (λ u. flat_map entry_words (individual_entries p (vid_at p 0) u)) (0 ∷ 2 ∷ 3 ∷ [])))
    (rows (take 6 entries0 ∷ take 6 entries2 ∷ [] ∷ []))
    ∷ pin
    (of_chain λ p.
    rows
    (map
    (λ u. flat_map (receiver_ports p (vid_at p 0) u p.members) (selected (λ m. m.transmits) (take 3 p.members)))
    (0 ∷ 2 ∷ [])))
    (rows ((5 ∷ 5 ∷ []) ∷ (3 ∷ 3 ∷ []) ∷ []))
    ∷ pin (entries_kept (entries_outcome (table chain) 4 (7 ∷ 7 ∷ []))) (refused 11 none 0, (7 ∷ 7 ∷ []) ∷ [])
    -- "passes this bridge and leaves it there": the port of a path without a hop, of one that ends at the bridge, of one that does not
    -- pass it.
    ∷ pin
    (of_chain λ p.
    rows
    (map (λ q. optional (first_port p.half_links q)) ([] ∷ (0 ∷ []) ∷ (0 ∷ 3 ∷ []) ∷ (1 ∷ 2 ∷ []) ∷ [])
    ++ map (λ b. optional (leaving_port p.half_links b (0 ∷ 1 ∷ 2 ∷ []))) (rising 0 4)))
    (rows ([] ∷ [] ∷ [] ∷ (4095 ∷ []) ∷ (5 ∷ []) ∷ (4095 ∷ []) ∷ [] ∷ [] ∷ []))
    -- Lookup: "port of the matching entry n, counted from 0 in list order, or none", and it "accepts an empty list".
    ∷ pin (looked_up [] 0) (numbers [])
    ∷ pin (looked_up five_entries 0) (numbers (1 ∷ []))
    ∷ pin (looked_up five_entries 1) (numbers (4095 ∷ []))
    ∷ pin (looked_up five_entries 2) (numbers (2 ∷ []))
    ∷ pin (looked_up five_entries 3) (numbers [])
    -- "14. Lookup's list has a length that is no multiple of 3".
    ∷ pin (looked_up (0x800a0001 ∷ []) 0) (bare 14 0)
    ∷ pin (looked_up (0x800a0001 ∷ 0x00000000 ∷ []) 0) (bare 14 0)
    ∷ pin (looked_up (0x800a0001 ∷ 0x00000000 ∷ 0x00000001 ∷ 0x800a0001 ∷ []) 0) (bare 14 0)
    -- "an unknown kind".
    ∷ pin (looked_up (0x700a0001 ∷ 0x00000000 ∷ 0x00000001 ∷ []) 0) (bare 14 0)
    ∷ pin (looked_up (0xa00a0001 ∷ 0x00000200 ∷ 0x00000001 ∷ []) 0) (bare 14 0)
    -- "a VID or port outside its range".
    ∷ pin (looked_up (0x80000001 ∷ 0x00000000 ∷ 0x00000001 ∷ []) 0) (bare 14 0)
    ∷ pin (looked_up (0x8fff0001 ∷ 0x00000000 ∷ 0x00000001 ∷ []) 0) (bare 14 0)
    ∷ pin (looked_up (0x800a0000 ∷ 0x00000000 ∷ 0x00000001 ∷ []) 0) (bare 14 0)
    ∷ pin (looked_up (0x800a1000 ∷ 0x00000000 ∷ 0x00000001 ∷ []) 0) (bare 14 0)
    -- "a zero bit set": bits 31..16 of the second word.
    ∷ pin (looked_up (0x800a0001 ∷ 0x80000000 ∷ 0x00000001 ∷ []) 0) (bare 14 0)
    ∷ pin (looked_up (0x800a0001 ∷ 0x00010000 ∷ 0x00000001 ∷ []) 0) (bare 14 0)
    -- "an address whose group bit disagrees with the kind", here in the second entry.
    ∷ pin (looked_up (0x800a0001 ∷ 0x00000000 ∷ 0x00000001 ∷ 0x900a0001 ∷ 0x00000200 ∷ 0x00000001 ∷ []) 0) (bare 14 0)
    -- "Exported check gives 0 or the refusal number." "Exported path cost gives the cost as a 64-bit number, or 4,294,967,296 plus the
    -- refusal number".
    ∷ pin
    (numbers
    (exported_check (table chain)
    ∷ exported_check []
    ∷ exported_check (table (bridge0 ∷ half01 ∷ []))
    ∷ exported_path_cost (table chain) 10 0 2
    ∷ exported_path_cost [] 10 0 2
    ∷ exported_path_cost (table (bridge0 ∷ half01 ∷ [])) 10 0 2
    ∷ exported_path_cost (table chain) 10 0 4
    ∷ exported_path_cost (table chain) 10 0 3
    ∷ []))
    (numbers (0 ∷ 1 ∷ 7 ∷ 32 ∷ 4294967297 ∷ 4294967303 ∷ 4294967307 ∷ 4294967308 ∷ []))
    -- Frames: "the port of the one entry of kind 8 there", "Without such a link the frame is lost": bridge 0 has a usable link at port 5
    -- alone, of the ports 5, 6, 7 and 9.
    ∷ pin (of_chain λ p. rows (map (λ port. map number (list_of (crossed p.half_links 0 port))) (5 ∷ 6 ∷ 7 ∷ 9 ∷ [])))
    (rows ((7 ∷ []) ∷ [] ∷ [] ∷ [] ∷ []))
    -- By a port of a link that is down it is lost: the frame from bridge 0 where the half of link 9 at bridge 2 is down.
    ∷ pin (shown_by (λ p. link_numbers (frame_links p 4 0)) (verdict (table chain_down))) (numbers (7 ∷ []))
    ∷ pin (of_chain λ p. rows (map (λ n. stood 0 (frame_links p n 0)) (rising 0 4)))
    (rows ((0 ∷ []) ∷ (0 ∷ 1 ∷ []) ∷ (0 ∷ 1 ∷ 2 ∷ []) ∷ (0 ∷ 1 ∷ 2 ∷ []) ∷ []))
    ∷ pin (of_chain λ p. numbers (map arrival_port (frame_links p 4 0))) (numbers (6 ∷ 3 ∷ []))
    ∷ pin (of_chain λ p. link_numbers (crossings (leaves p.half_links (λ u. entries0 ++ entries0) 10 0xfedcba987654) 2 3 0)) (numbers [])
    -- "A group frame begins in round 0 as one copy at its sender", "With no such entry it ends there", "all rounds count".
    ∷ pin (of_chain λ p. rows (map (copies (copies_at p) 0) (rising 0 4))) (rows ((0 ∷ []) ∷ (1 ∷ []) ∷ (2 ∷ []) ∷ [] ∷ []))
    ∷ pin (of_chain λ p. rows (map (reached (copies_at p) 0) (rising 0 4))) (rows ([] ∷ (1 ∷ []) ∷ (1 ∷ 2 ∷ []) ∷ (1 ∷ 2 ∷ []) ∷ []))
    ∷ pin (of_chain λ p. link_numbers (copies_cross (copies_at p) 0 3)) (numbers (7 ∷ 9 ∷ []))
    -- The numbers of the kinds, and the values of each case of an answer.
    ∷ pin
    (rows (map (λ k. optional (kind_number k)) (NoKind ∷ BridgeKind ∷ HalfLinkKind ∷ VidKind ∷ MemberKind ∷ TrafficKind ∷ EndKind ∷ [])))
    (rows ([] ∷ (1 ∷ []) ∷ (2 ∷ []) ∷ (3 ∷ []) ∷ (4 ∷ []) ∷ (5 ∷ []) ∷ (15 ∷ []) ∷ []))
    ∷ pin (shown_by (λ c. numbers (five_counts c)) (check_values (CheckAnswer.Refused 6 VidKind 9))) (fault 6 3 9)
    ∷ pin (shown_by (λ v. numbers (cost_and_hops v)) (path_values (PathAnswer.Refused 6 VidKind 9))) (fault 6 3 9)
    ∷ pin (shown_by (λ n. numbers (n ∷ [])) (tree_values (TreeAnswer.Refused 6 VidKind 9))) (fault 6 3 9)
    ∷ pin (shown_by (λ n. numbers (n ∷ [])) (entries_values (EntriesAnswer.Refused 6 VidKind 9))) (fault 6 3 9)
    ∷ pin (shown_by (λ o. numbers (optional o)) (lookup_values (LookupAnswer.Refused 14 NoKind 0))) (bare 14 0)
    ∷ pin (shown_by (λ o. numbers (optional o)) (lookup_values (LookupAnswer.Port 5))) (numbers (5 ∷ []))
    ∷ pin (shown_by (λ o. numbers (optional o)) (lookup_values LookupAnswer.None)) (numbers [])
    ∷ pin (shown_by (λ n. numbers (n ∷ [])) (tree_values (TreeAnswer.Given 5))) (numbers (5 ∷ []))
    ∷ pin (shown_by (λ n. numbers (n ∷ [])) (entries_values (EntriesAnswer.Written 5))) (numbers (5 ∷ []))
    ∷ pin
    (shown_by (λ c. numbers (five_counts c))
    (check_values (CheckAnswer.Accepted (record { bridges = 1; half_links = 2; usable_links = 3; vids = 4; members = 5 }))))
    (numbers (1 ∷ 2 ∷ 3 ∷ 4 ∷ 5 ∷ []))
    ∷ pin
    (shown_by (λ v. numbers (cost_and_hops v)) (path_values (PathAnswer.Given (record { 0 = 32 }) (record { 0 = 2 }))))
    (numbers (32 ∷ 2 ∷ []))
    ∷ []

-- Every definition gives what document 01 says.
pinned_hold : map (λ p. p.asked) pins ≡ map (λ p. p.expected) pins
unfolding words_of layout_of lowest_fault read_on verdict links_of usable_links count_usable links_between joined hop_link
    masked_bytes masked_identifier chosen_path entry_list_of entries_of individual_entries group_entries listed_ports
    receiver_ports leaving_port check_outcome path_answer path_outcome entries_answer entries_outcome tree_outcome tree_of last_but_one
    lookup_outcome matching_ports faulty_list entries_in exported_check exported_path_cost
    crossed entry_ports leaves crossings copies_leave copies copies_cross
    rising selected any_passes lowest_by insert_upward sorted is_lower cost_onward neighbours onward paths chosen flat_map
pinned_hold = refl
