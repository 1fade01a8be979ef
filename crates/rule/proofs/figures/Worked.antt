-- The worked example of document 01 ("Diamonds and other figures", the listing program) by the definitions: what each call gives
-- for its table, with lent lists that hold more than is written, and lists that are too short; and how frames move by its entries.
-- Assumes nothing.
use Rattle.std.specs.Prelude.{ℕ, ◌≡◌, refl, true, false}
use mathlib.Core.List.{List, [], ◌∷◌, flat_map}
use Rattle.std.proofs.Math.Option.{none, some}
use Rattle.lists.specs.Lists.{rising, selected, any_passes, lowest_by}
use Rattle.graph.specs.Order.{insert_upward, sorted, is_lower}
use Rattle.graph.specs.Graph.{cost_onward}
use Rattle.graph.specs.Chosen.{neighbours, onward, paths, chosen}
use Rattle.rule.specs.Words.{words_of}
use Rattle.rule.proofs.figures.Tables.{table}
use Rattle.rule.specs.Records.{layout_of}
use Rattle.rule.specs.Outcome.{answered, refused_as}
use Rattle.rule.specs.Plan.{Plan}
use Rattle.rule.specs.Check.{lowest_fault, read_on, verdict}
use Rattle.rule.specs.Links.{Link, turned, links_of, usable_links, count_usable, links_between, hop_link}
use Rattle.rule.specs.Identifiers.{masked_bytes, masked_identifier}
use Rattle.rule.specs.Paths.{chosen_path}
use Rattle.rule.specs.Entries.{entry_list_of, entries_of, individual_entries, group_entries, listed_ports, receiver_ports, leaving_port}
use Rattle.rule.specs.Calls.{check_outcome, path_answer, path_outcome, entries_answer, entries_outcome, tree_outcome, tree_of, last_but_one}
use Rattle.rule.specs.Lookup.{lookup_outcome, matching_ports, faulty_list, entries_in}
use Rattle.rule.specs.Frames.{crossed, entry_ports, leaves, crossings, stood, arrival_port, copies_leave, copies, copies_cross, reached}
use Rattle.rule.specs.Exported.{exported_check, exported_path_cost}

abbrev pub worked : List ℕ
worked =
    table
    ((0x10000001 ∷ 0x80000200 ∷ 0x00000001 ∷ [])
    ∷ (0x10000002 ∷ 0x80000200 ∷ 0x00000002 ∷ [])
    ∷ (0x2000000a ∷ 0x00000001 ∷ 0x00010007 ∷ [])
    ∷ (0x2000000c ∷ 0x00010000 ∷ 0x00020007 ∷ [])
    ∷ (0x300a0001 ∷ [])
    ∷ (0x42000100 ∷ 0x0000000a ∷ [])
    ∷ (0x41000100 ∷ 0x0001000a ∷ [])
    ∷ (0xf0000011 ∷ [])
    ∷ [])

-- The entries of bridge 0: one individual, one group.
abbrev entries_of_0 : List ℕ
entries_of_0 = 0x800a0001 ∷ 0x00000200 ∷ 0x00000002 ∷ 0x900a0001 ∷ 0x00000300 ∷ 0x01000100 ∷ []

-- Each call on the example gives what document 01 says.
calls_agree :
    (check_outcome worked
    ≡ answered (record { bridges = 2; half_links = 2; usable_links = 1; vids = 1; members = 2 }))
    × (path_outcome worked 10 0 1 (7 ∷ 7 ∷ 7 ∷ []) ≡ (answered (record { cost = 12; hops = 1 }), 0 ∷ 1 ∷ 7 ∷ []))
    × (path_outcome worked 10 1 0 (7 ∷ 7 ∷ []) ≡ (answered (record { cost = 12; hops = 1 }), 1 ∷ 0 ∷ []))
    × (path_outcome worked 10 1 0 (7 ∷ []) ≡ (refused_as 13, 7 ∷ []))
    × (path_outcome worked 11 0 1 (7 ∷ 7 ∷ []) ≡ (refused_as 11, 7 ∷ 7 ∷ []))
    × (path_outcome worked 10 0 2 (7 ∷ 7 ∷ []) ≡ (refused_as 11, 7 ∷ 7 ∷ []))
    × (tree_outcome worked 10 1 (7 ∷ 7 ∷ 7 ∷ []) (7 ∷ 7 ∷ []) (7 ∷ 7 ∷ [])
    ≡ (answered 2, 12 ∷ 0 ∷ 7 ∷ [], 1 ∷ 0 ∷ [], 1 ∷ 1 ∷ []))
    × (entries_outcome worked 0 (1 ∷ 2 ∷ 3 ∷ 4 ∷ 5 ∷ 6 ∷ 7 ∷ [])
    ≡ (answered 6, 0x800a0001 ∷ 0x00000200 ∷ 0x00000002 ∷ 0x900a0001 ∷ 0x00000300 ∷ 0x01000100 ∷ 7 ∷ []))
    × (entries_outcome worked 0 (1 ∷ 2 ∷ 3 ∷ 4 ∷ 5 ∷ []) ≡ (refused_as 13, 1 ∷ 2 ∷ 3 ∷ 4 ∷ 5 ∷ []))
    × (entries_outcome worked 1 (1 ∷ 2 ∷ 3 ∷ 4 ∷ []) ≡ (answered 3, 0x800a0002 ∷ 0x00000200 ∷ 0x00000001 ∷ 4 ∷ []))
    × (lookup_outcome entries_of_0 10 0x030001000100 0 ≡ answered (some 1))
    × (lookup_outcome entries_of_0 10 0x030001000100 1 ≡ answered none)
    × (lookup_outcome (0x800a0001 ∷ 0x00000300 ∷ 0x01000100 ∷ []) 10 0x030001000100 0 ≡ refused_as 14)
    × (exported_check worked ≡ 0)
    × (exported_path_cost worked 10 0 1 ≡ 12)
    × (exported_path_cost worked 65546 0 1 ≡ 4294967307)
unfolding words_of layout_of lowest_fault read_on verdict links_of usable_links count_usable links_between hop_link
    masked_bytes masked_identifier chosen_path entry_list_of entries_of individual_entries group_entries listed_ports
    receiver_ports leaving_port check_outcome path_answer path_outcome entries_answer entries_outcome tree_outcome tree_of last_but_one
    lookup_outcome matching_ports faulty_list entries_in exported_check exported_path_cost
    rising selected any_passes lowest_by insert_upward sorted is_lower cost_onward neighbours onward paths chosen flat_map
calls_agree =
    (refl, refl, refl, refl, refl, refl, refl, refl, refl, refl, refl, refl, refl, refl, refl, refl)

-- The decoded plan of the example.
abbrev pub worked_plan : Plan
worked_plan =
    record {
      bridges =
          record { overloaded = false; sp_source_id = 1; identifier = 0x8000020000000001 }
          ∷ record { overloaded = false; sp_source_id = 2; identifier = 0x8000020000000002 }
          ∷ [];
      half_links =
          record { down = false; metric = 10; near = 0; far = 1; port = 1; link = 7 }
          ∷ record { down = false; metric = 12; near = 1; far = 0; port = 2; link = 7 }
          ∷ [];
      vids = record { vid = 10; index = 1 } ∷ [];
      members =
          record { transmits = true; receives = false; isid = 256; bridge = 0; vid = 10 }
          ∷ record { transmits = false; receives = true; isid = 256; bridge = 1; vid = 10 }
          ∷ [];
      traffic = [];
    }

pub worked-accepted : verdict worked ≡ answered worked_plan
unfolding words_of layout_of lowest_fault read_on verdict selected any_passes flat_map
worked-accepted = refl

-- The link as it is seen from bridge 0.
abbrev the_link : Link
the_link =
    record {
      here = record { down = false; metric = 10; near = 0; far = 1; port = 1; link = 7 };
      there = record { down = false; metric = 12; near = 1; far = 0; port = 2; link = 7 };
    }

-- The links that the frame for a bridge's address crosses from a bridge on, in at most three moves.
abbrev frame_for : ℕ → ℕ → ℕ → List Link
frame_for address b a = crossings (leaves worked_plan.half_links (entry_list_of worked_plan) 10 address) b 3 a

-- The links by which copies of the group frame of bridge 0 leave a bridge.
abbrev group_copies : ℕ → List Link
group_copies u = copies_leave worked_plan.half_links (entry_list_of worked_plan) 10 0x030001000100 u

-- The frame from 0 to 1 crosses the link, that from 1 to 0 the same link turned round, and one without an entry none. The arrival
-- port at bridge 1 is 2, and its entry for bridge 0 names it. The group frame reaches bridge 1 once, and no copy is left.
frames_agree :
    (frame_for 0x020000000002 1 0 ≡ the_link ∷ [])
    × (stood 0 (frame_for 0x020000000002 1 0) ≡ 0 ∷ 1 ∷ [])
    × (frame_for 0x020000000001 0 1 ≡ turned the_link ∷ [])
    × (frame_for 0x020000000003 1 0 ≡ [])
    × (arrival_port the_link ≡ 2)
    × (entry_ports 8 10 0x020000000001 (entry_list_of worked_plan 1) ≡ 2 ∷ [])
    × (reached group_copies 0 3 ≡ 1 ∷ [])
    × (copies group_copies 0 2 ≡ [])
unfolding crossed entry_ports leaves crossings copies_leave copies copies_cross entries_in
    links_of usable_links links_between hop_link masked_bytes masked_identifier chosen_path
    entry_list_of entries_of individual_entries group_entries listed_ports receiver_ports leaving_port
    rising selected any_passes lowest_by insert_upward sorted is_lower cost_onward neighbours onward paths chosen flat_map
frames_agree = (refl, refl, refl, refl, refl, refl, refl, refl)
