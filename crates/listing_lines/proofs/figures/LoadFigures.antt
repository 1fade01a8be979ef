-- Load reports by the definitions (02, A5): the checker computes every byte. Assumes nothing.
use Rattle.std.specs.Prelude.{◌≡◌, refl, ℕ, take}
use mathlib.Core.List.{List, [], ◌∷◌, ◌++◌, flat_map}
use Rattle.lists.specs.Lists.{rising, selected, any_passes, first_passing, lowest_by}
use Rattle.graph.specs.Order.{insert_upward, sorted, is_lower}
use Rattle.graph.specs.Graph.{cost_onward}
use Rattle.graph.specs.Chosen.{neighbours, onward, paths, chosen}
use Rattle.graph.specs.Pairs.{joined_pairs, takes}
use Rattle.rule.specs.Words.{words_of}
use Rattle.rule.proofs.figures.Tables.{table}
use Rattle.rule.proofs.figures.Figures.{diamond}
use Rattle.rule.specs.Records.{layout_of}
use Rattle.rule.specs.Outcome.{Outcome, answered, refused}
use Rattle.rule.specs.Plan.{Plan}
use Rattle.rule.specs.Check.{lowest_fault, read_on, verdict}
use Rattle.rule.specs.Links.{links_of, usable_links, count_usable, links_between, hop_link}
use Rattle.rule.specs.Identifiers.{masked_bytes, masked_identifier}
use Rattle.rule.specs.Paths.{chosen_path}
use Rattle.rule.specs.Entries.{entry_list_of, entries_of, individual_entries, group_entries, listed_ports, receiver_ports, leaving_port}
use Rattle.rule.specs.Lookup.{entries_in}
use Rattle.rule.specs.Loads.{traffic_path, load_of, total_load, lost_load}
use Rattle.text.specs.Text.{digits_of, places, decimal_of}
use Rattle.listing_lines.specs.Listing.{path_lines, load_report, plan_listing, listing}

-- "The two-bridge example with one such record, VID 10, amount 5, from 0 to 1, adds `load 0 1 5`, `total 5`, `lost 0`": document 01's
-- example with the words 500A0005 00000001 before the end, which counts 19 then.
pub two-bridges-listing :
    listing (table
    ((0x10000001 ∷ 0x80000200 ∷ 0x00000001 ∷ [])
    ∷ (0x10000002 ∷ 0x80000200 ∷ 0x00000002 ∷ [])
    ∷ (0x2000000a ∷ 0x00000001 ∷ 0x00010007 ∷ [])
    ∷ (0x2000000c ∷ 0x00010000 ∷ 0x00020007 ∷ [])
    ∷ (0x300a0001 ∷ [])
    ∷ (0x42000100 ∷ 0x0000000a ∷ [])
    ∷ (0x41000100 ∷ 0x0001000a ∷ [])
    ∷ (0x500a0005 ∷ 0x00000001 ∷ [])
    ∷ (0xf0000013 ∷ [])
    ∷ [])) ≡
    99 ∷ 111 ∷ 117 ∷ 110 ∷ 116 ∷ 115 ∷ 32 ∷ 50 ∷ 32 ∷ 50 ∷ 32 ∷ 49 ∷ 32 ∷ 49 ∷ 32 ∷ 50 ∷ 10 ∷
    112 ∷ 97 ∷ 116 ∷ 104 ∷ 32 ∷ 49 ∷ 48 ∷ 32 ∷ 48 ∷ 32 ∷ 49 ∷ 32 ∷ 49 ∷ 50 ∷ 32 ∷ 49 ∷ 32 ∷ 48 ∷ 32 ∷ 49 ∷ 10 ∷
    112 ∷ 97 ∷ 116 ∷ 104 ∷ 32 ∷ 49 ∷ 48 ∷ 32 ∷ 49 ∷ 32 ∷ 48 ∷ 32 ∷ 49 ∷ 50 ∷ 32 ∷ 49 ∷ 32 ∷ 49 ∷ 32 ∷ 48 ∷ 10 ∷
    101 ∷ 110 ∷ 116 ∷ 114 ∷ 121 ∷ 32 ∷ 48 ∷ 32 ∷ 49 ∷ 48 ∷ 32 ∷ 49 ∷ 32 ∷ 48 ∷ 50 ∷ 48 ∷ 48 ∷ 48 ∷ 48 ∷ 48 ∷ 48 ∷ 48 ∷ 48 ∷ 48 ∷ 50 ∷ 10 ∷
    101 ∷ 110 ∷ 116 ∷ 114 ∷ 121 ∷ 32 ∷ 48 ∷ 32 ∷ 49 ∷ 48 ∷ 32 ∷ 49 ∷ 32 ∷ 48 ∷ 51 ∷ 48 ∷ 48 ∷ 48 ∷ 49 ∷ 48 ∷ 48 ∷ 48 ∷ 49 ∷ 48 ∷ 48 ∷ 10 ∷
    101 ∷ 110 ∷ 116 ∷ 114 ∷ 121 ∷ 32 ∷ 49 ∷ 32 ∷ 49 ∷ 48 ∷ 32 ∷ 50 ∷ 32 ∷ 48 ∷ 50 ∷ 48 ∷ 48 ∷ 48 ∷ 48 ∷ 48 ∷ 48 ∷ 48 ∷ 48 ∷ 48 ∷ 49 ∷ 10 ∷
    108 ∷ 111 ∷ 97 ∷ 100 ∷ 32 ∷ 48 ∷ 32 ∷ 49 ∷ 32 ∷ 53 ∷ 10 ∷
    116 ∷ 111 ∷ 116 ∷ 97 ∷ 108 ∷ 32 ∷ 53 ∷ 10 ∷
    108 ∷ 111 ∷ 115 ∷ 116 ∷ 32 ∷ 48 ∷ 10 ∷ []
unfolding listing plan_listing load_report path_lines decimal_of digits_of places entries_in
    joined_pairs takes traffic_path load_of total_load lost_load first_passing
    words_of layout_of lowest_fault read_on verdict links_of usable_links count_usable links_between hop_link
    masked_bytes masked_identifier chosen_path entry_list_of entries_of individual_entries group_entries listed_ports receiver_ports leaving_port
    rising selected any_passes lowest_by insert_upward sorted is_lower cost_onward neighbours onward paths chosen flat_map
two-bridges-listing = refl

-- The load report of an accepted table.
abbrev report_of : Outcome Plan → List ℕ
report_of (answered p) = load_report p
report_of (refused number kind at) = []

-- The diamond with records of traffic: VID 10 has index 1 and VID 11 index 2.
abbrev diamond_with : List (List ℕ) → ℕ → List ℕ
diamond_with traffic end = table (take 16 diamond ++ (traffic ++ ((end ∷ []) ∷ [])))

-- VID 10, amount 5, from 0 to 3: pairs without load have a line.
pub diamond_report : report_of (verdict (diamond_with ((0x500a0005 ∷ 0x00000003 ∷ []) ∷ []) 0xf000002a)) ≡
    108 ∷ 111 ∷ 97 ∷ 100 ∷ 32 ∷ 48 ∷ 32 ∷ 49 ∷ 32 ∷ 53 ∷ 10 ∷
    108 ∷ 111 ∷ 97 ∷ 100 ∷ 32 ∷ 48 ∷ 32 ∷ 50 ∷ 32 ∷ 48 ∷ 10 ∷
    108 ∷ 111 ∷ 97 ∷ 100 ∷ 32 ∷ 49 ∷ 32 ∷ 51 ∷ 32 ∷ 53 ∷ 10 ∷
    108 ∷ 111 ∷ 97 ∷ 100 ∷ 32 ∷ 50 ∷ 32 ∷ 51 ∷ 32 ∷ 48 ∷ 10 ∷
    116 ∷ 111 ∷ 116 ∷ 97 ∷ 108 ∷ 32 ∷ 49 ∷ 48 ∷ 10 ∷
    108 ∷ 111 ∷ 115 ∷ 116 ∷ 32 ∷ 48 ∷ 10 ∷ []
unfolding listing plan_listing load_report path_lines decimal_of digits_of places entries_in
    joined_pairs takes traffic_path load_of total_load lost_load first_passing
    words_of layout_of lowest_fault read_on verdict links_of usable_links count_usable links_between hop_link
    masked_bytes masked_identifier chosen_path entry_list_of entries_of individual_entries group_entries listed_ports receiver_ports leaving_port
    rising selected any_passes lowest_by insert_upward sorted is_lower cost_onward neighbours onward paths chosen flat_map
diamond_report = refl

-- Either way, the opposite direction too, and another VID by its own index: 5 from 0 to 3 and 7 from 1 to 0 in VID 10, which go by 1; 3
-- from 3 to 0 in VID 11, which goes by 2.
pub both_ways_report :
    report_of (verdict (diamond_with ((0x500a0005 ∷ 0x00000003 ∷ []) ∷ (0x500a0007 ∷ 0x00010000 ∷ []) ∷ (0x500b0003 ∷ 0x00030000 ∷ []) ∷ []) 0xf000002e)) ≡
    108 ∷ 111 ∷ 97 ∷ 100 ∷ 32 ∷ 48 ∷ 32 ∷ 49 ∷ 32 ∷ 49 ∷ 50 ∷ 10 ∷
    108 ∷ 111 ∷ 97 ∷ 100 ∷ 32 ∷ 48 ∷ 32 ∷ 50 ∷ 32 ∷ 51 ∷ 10 ∷
    108 ∷ 111 ∷ 97 ∷ 100 ∷ 32 ∷ 49 ∷ 32 ∷ 51 ∷ 32 ∷ 53 ∷ 10 ∷
    108 ∷ 111 ∷ 97 ∷ 100 ∷ 32 ∷ 50 ∷ 32 ∷ 51 ∷ 32 ∷ 51 ∷ 10 ∷
    116 ∷ 111 ∷ 116 ∷ 97 ∷ 108 ∷ 32 ∷ 50 ∷ 51 ∷ 10 ∷
    108 ∷ 111 ∷ 115 ∷ 116 ∷ 32 ∷ 48 ∷ 10 ∷ []
unfolding listing plan_listing load_report path_lines decimal_of digits_of places entries_in
    joined_pairs takes traffic_path load_of total_load lost_load first_passing
    words_of layout_of lowest_fault read_on verdict links_of usable_links count_usable links_between hop_link
    masked_bytes masked_identifier chosen_path entry_list_of entries_of individual_entries group_entries listed_ports receiver_ports leaving_port
    rising selected any_passes lowest_by insert_upward sorted is_lower cost_onward neighbours onward paths chosen flat_map
both_ways_report = refl

-- Two bridges without a link: no joined pair, and the amount is lost.
pub apart_report :
    report_of (verdict (table
    ((0x10000001 ∷ 0x80000200 ∷ 0x00000001 ∷ [])
    ∷ (0x10000002 ∷ 0x80000200 ∷ 0x00000002 ∷ [])
    ∷ (0x300a0001 ∷ [])
    ∷ (0x500a0005 ∷ 0x00000001 ∷ [])
    ∷ (0xf0000009 ∷ [])
    ∷ []))) ≡
    116 ∷ 111 ∷ 116 ∷ 97 ∷ 108 ∷ 32 ∷ 48 ∷ 10 ∷
    108 ∷ 111 ∷ 115 ∷ 116 ∷ 32 ∷ 53 ∷ 10 ∷ []
unfolding listing plan_listing load_report path_lines decimal_of digits_of places entries_in
    joined_pairs takes traffic_path load_of total_load lost_load first_passing
    words_of layout_of lowest_fault read_on verdict links_of usable_links count_usable links_between hop_link
    masked_bytes masked_identifier chosen_path entry_list_of entries_of individual_entries group_entries listed_ports receiver_ports leaving_port
    rising selected any_passes lowest_by insert_upward sorted is_lower cost_onward neighbours onward paths chosen flat_map
apart_report = refl
