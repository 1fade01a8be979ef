-- Listings of document 01 by the definitions ("Diamonds and other figures", the listing program): the checker computes every byte.
-- Assumes nothing.
use Rattle.std.specs.Prelude.{◌≡◌, refl}
use mathlib.Core.List.{[], ◌∷◌, flat_map}
use Rattle.lists.specs.Lists.{rising, selected, any_passes, lowest_by}
use Rattle.graph.specs.Order.{insert_upward, sorted, is_lower}
use Rattle.graph.specs.Graph.{cost_onward}
use Rattle.graph.specs.Chosen.{neighbours, onward, paths, chosen}
use Rattle.rule.specs.Words.{words_of}
use Rattle.rule.proofs.figures.Tables.{table}
use Rattle.rule.specs.Records.{layout_of}
use Rattle.rule.specs.Check.{lowest_fault, read_on, verdict}
use Rattle.rule.specs.Links.{links_of, usable_links, count_usable, links_between, hop_link}
use Rattle.rule.specs.Identifiers.{masked_bytes, masked_identifier}
use Rattle.rule.specs.Paths.{chosen_path}
use Rattle.rule.specs.Entries.{entry_list_of, entries_of, individual_entries, group_entries, listed_ports, receiver_ports, leaving_port}
use Rattle.rule.specs.Lookup.{entries_in}
use Rattle.rule.proofs.figures.Worked.{worked}
use Rattle.text.specs.Text.{digits_of, places, decimal_of}
use Rattle.listing_lines.specs.Listing.{path_lines, plan_listing, listing}

-- The six lines of the example:
--     counts 2 2 1 1 2
--     path 10 0 1 12 1 0 1
--     path 10 1 0 12 1 1 0
--     entry 0 10 1 020000000002
--     entry 0 10 1 030001000100
--     entry 1 10 2 020000000001
pub worked-listing :
    listing worked ≡
    99 ∷ 111 ∷ 117 ∷ 110 ∷ 116 ∷ 115 ∷ 32 ∷ 50 ∷ 32 ∷ 50 ∷ 32 ∷ 49 ∷ 32 ∷ 49 ∷ 32 ∷ 50 ∷ 10 ∷
    112 ∷ 97 ∷ 116 ∷ 104 ∷ 32 ∷ 49 ∷ 48 ∷ 32 ∷ 48 ∷ 32 ∷ 49 ∷ 32 ∷ 49 ∷ 50 ∷ 32 ∷ 49 ∷ 32 ∷ 48 ∷ 32 ∷ 49 ∷ 10 ∷
    112 ∷ 97 ∷ 116 ∷ 104 ∷ 32 ∷ 49 ∷ 48 ∷ 32 ∷ 49 ∷ 32 ∷ 48 ∷ 32 ∷ 49 ∷ 50 ∷ 32 ∷ 49 ∷ 32 ∷ 49 ∷ 32 ∷ 48 ∷ 10 ∷
    101 ∷ 110 ∷ 116 ∷ 114 ∷ 121 ∷ 32 ∷ 48 ∷ 32 ∷ 49 ∷ 48 ∷ 32 ∷ 49 ∷ 32 ∷ 48 ∷ 50 ∷ 48 ∷ 48 ∷ 48 ∷ 48 ∷ 48 ∷ 48 ∷ 48 ∷ 48 ∷ 48 ∷ 50 ∷ 10 ∷
    101 ∷ 110 ∷ 116 ∷ 114 ∷ 121 ∷ 32 ∷ 48 ∷ 32 ∷ 49 ∷ 48 ∷ 32 ∷ 49 ∷ 32 ∷ 48 ∷ 51 ∷ 48 ∷ 48 ∷ 48 ∷ 49 ∷ 48 ∷ 48 ∷ 48 ∷ 49 ∷ 48 ∷ 48 ∷ 10 ∷
    101 ∷ 110 ∷ 116 ∷ 114 ∷ 121 ∷ 32 ∷ 49 ∷ 32 ∷ 49 ∷ 48 ∷ 32 ∷ 50 ∷ 32 ∷ 48 ∷ 50 ∷ 48 ∷ 48 ∷ 48 ∷ 48 ∷ 48 ∷ 48 ∷ 48 ∷ 48 ∷ 48 ∷ 49 ∷ 10 ∷ []
unfolding listing plan_listing path_lines decimal_of digits_of places entries_in
    words_of layout_of lowest_fault read_on verdict links_of usable_links count_usable links_between hop_link
    masked_bytes masked_identifier chosen_path entry_list_of entries_of individual_entries group_entries listed_ports receiver_ports leaving_port
    rising selected any_passes lowest_by insert_upward sorted is_lower cost_onward neighbours onward paths chosen flat_map
worked-listing = refl

-- The table of one word F0000000: `counts 0 0 0 0 0`.
pub no_records-listing :
    listing (table ((0xf0000000 ∷ []) ∷ [])) ≡
    99 ∷ 111 ∷ 117 ∷ 110 ∷ 116 ∷ 115 ∷ 32 ∷ 48 ∷ 32 ∷ 48 ∷ 32 ∷ 48 ∷ 32 ∷ 48 ∷ 32 ∷ 48 ∷ 10 ∷ []
unfolding listing plan_listing path_lines decimal_of digits_of places entries_in
    words_of layout_of lowest_fault read_on verdict links_of usable_links count_usable rising selected any_passes flat_map
no_records-listing = refl

-- An empty file: `refused 1 0`.
pub no_table-listing :
    listing [] ≡
    114 ∷ 101 ∷ 102 ∷ 117 ∷ 115 ∷ 101 ∷ 100 ∷ 32 ∷ 49 ∷ 32 ∷ 48 ∷ 10 ∷ []
unfolding listing plan_listing path_lines decimal_of digits_of places entries_in
    words_of layout_of lowest_fault read_on verdict links_of usable_links count_usable rising selected any_passes flat_map
no_table-listing = refl

-- Two bridges without a link:
--     counts 2 0 0 1 0
--     none 10 0 1
--     none 10 1 0
pub apart-listing :
    listing (table
    ((0x10000001 ∷ 0x80000200 ∷ 0x00000001 ∷ [])
    ∷ (0x10000002 ∷ 0x80000200 ∷ 0x00000002 ∷ [])
    ∷ (0x300a0001 ∷ [])
    ∷ (0xf0000007 ∷ [])
    ∷ [])) ≡
    99 ∷ 111 ∷ 117 ∷ 110 ∷ 116 ∷ 115 ∷ 32 ∷ 50 ∷ 32 ∷ 48 ∷ 32 ∷ 48 ∷ 32 ∷ 49 ∷ 32 ∷ 48 ∷ 10 ∷
    110 ∷ 111 ∷ 110 ∷ 101 ∷ 32 ∷ 49 ∷ 48 ∷ 32 ∷ 48 ∷ 32 ∷ 49 ∷ 10 ∷
    110 ∷ 111 ∷ 110 ∷ 101 ∷ 32 ∷ 49 ∷ 48 ∷ 32 ∷ 49 ∷ 32 ∷ 48 ∷ 10 ∷ []
unfolding listing plan_listing path_lines decimal_of digits_of places entries_in
    words_of layout_of lowest_fault read_on verdict links_of usable_links count_usable links_between hop_link
    masked_bytes masked_identifier chosen_path entry_list_of entries_of individual_entries group_entries listed_ports receiver_ports leaving_port
    rising selected any_passes lowest_by insert_upward sorted is_lower cost_onward neighbours onward paths chosen flat_map
apart-listing = refl
