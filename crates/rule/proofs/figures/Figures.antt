-- The starred figures of document 01 ("Diamonds and other figures"): one collection, on tables given as words, and one proof over it.
-- Each row of a table is a record. Assumes nothing.
use Rattle.std.specs.Prelude.{ℕ, ◌≡◌, refl}
use mathlib.Core.List.{List, [], ◌∷◌, map, flat_map}
use Rattle.std.proofs.Math.Option.{Option, none, some}
use Rattle.lists.specs.Lists.{rising, selected, any_passes, lowest_by}
use Rattle.graph.specs.Order.{insert_upward, sorted, is_lower}
use Rattle.graph.specs.Graph.{cost_onward}
use Rattle.graph.specs.Chosen.{neighbours, onward, paths, chosen}
use Rattle.rule.specs.Words.{words_of}
use Rattle.rule.proofs.figures.Tables.{table}
use Rattle.rule.specs.Records.{layout_of}
use Rattle.rule.specs.Outcome.{Outcome, answered, refused, and_then, Written}
use Rattle.rule.specs.Check.{lowest_fault, read_on, verdict}
use Rattle.rule.specs.Links.{Link, number, links_of, usable_links, count_usable, links_between, hop_link}
use Rattle.rule.specs.Identifiers.{masked_bytes, masked_identifier}
use Rattle.rule.specs.Paths.{chosen_path}
use Rattle.rule.specs.Answers.{CostAndHops}
use Rattle.rule.specs.Services.{read_services_answer, write_services_answer}
use Rattle.rule.specs.Calls.{check_outcome, path_answer}
use Rattle.rule.specs.declared.answer.Counts.{Counts}

abbrev pub diamond : List (List ℕ)
diamond =
    (0x10000001 ∷ 0x80000200 ∷ 0x00000001 ∷ [])
    ∷ (0x10000002 ∷ 0x80000200 ∷ 0x00000002 ∷ [])
    ∷ (0x10000003 ∷ 0x80000200 ∷ 0x00000003 ∷ [])
    ∷ (0x10000004 ∷ 0x80000200 ∷ 0x00000004 ∷ [])
    ∷ (0x2000000a ∷ 0x00000001 ∷ 0x00010001 ∷ [])
    ∷ (0x2000000a ∷ 0x00010000 ∷ 0x00010001 ∷ [])
    ∷ (0x2000000a ∷ 0x00010003 ∷ 0x00020002 ∷ [])
    ∷ (0x2000000a ∷ 0x00030001 ∷ 0x00010002 ∷ [])
    ∷ (0x2000000a ∷ 0x00000002 ∷ 0x00020003 ∷ [])
    ∷ (0x2000000a ∷ 0x00020000 ∷ 0x00010003 ∷ [])
    ∷ (0x2000000a ∷ 0x00020003 ∷ 0x00020004 ∷ [])
    ∷ (0x2000000a ∷ 0x00030002 ∷ 0x00020004 ∷ [])
    ∷ (0x300a0001 ∷ [])
    ∷ (0x300b0002 ∷ [])
    ∷ (0x300c000a ∷ [])
    ∷ (0x300d0009 ∷ [])
    ∷ (0xf0000028 ∷ [])
    ∷ []

abbrev diamond_at_9000 : List (List ℕ)
diamond_at_9000 =
    (0x10000001 ∷ 0x80000200 ∷ 0x00000001 ∷ [])
    ∷ (0x10000002 ∷ 0x90000200 ∷ 0x00000002 ∷ [])
    ∷ (0x10000003 ∷ 0x80000200 ∷ 0x00000003 ∷ [])
    ∷ (0x10000004 ∷ 0x80000200 ∷ 0x00000004 ∷ [])
    ∷ (0x2000000a ∷ 0x00000001 ∷ 0x00010001 ∷ [])
    ∷ (0x2000000a ∷ 0x00010000 ∷ 0x00010001 ∷ [])
    ∷ (0x2000000a ∷ 0x00010003 ∷ 0x00020002 ∷ [])
    ∷ (0x2000000a ∷ 0x00030001 ∷ 0x00010002 ∷ [])
    ∷ (0x2000000a ∷ 0x00000002 ∷ 0x00020003 ∷ [])
    ∷ (0x2000000a ∷ 0x00020000 ∷ 0x00010003 ∷ [])
    ∷ (0x2000000a ∷ 0x00020003 ∷ 0x00020004 ∷ [])
    ∷ (0x2000000a ∷ 0x00030002 ∷ 0x00020004 ∷ [])
    ∷ (0x300a0001 ∷ [])
    ∷ (0x300b0002 ∷ [])
    ∷ (0xf0000026 ∷ [])
    ∷ []

abbrev direct_against_two : List (List ℕ)
direct_against_two =
    (0x10000001 ∷ 0x80000200 ∷ 0x00000001 ∷ [])
    ∷ (0x10000002 ∷ 0x80000200 ∷ 0x00000002 ∷ [])
    ∷ (0x10000003 ∷ 0x80000200 ∷ 0x00000003 ∷ [])
    ∷ (0x20000014 ∷ 0x00000002 ∷ 0x00010001 ∷ [])
    ∷ (0x20000014 ∷ 0x00020000 ∷ 0x00010001 ∷ [])
    ∷ (0x2000000a ∷ 0x00000001 ∷ 0x00020002 ∷ [])
    ∷ (0x2000000a ∷ 0x00010000 ∷ 0x00010002 ∷ [])
    ∷ (0x2000000a ∷ 0x00010002 ∷ 0x00020003 ∷ [])
    ∷ (0x2000000a ∷ 0x00020001 ∷ 0x00020003 ∷ [])
    ∷ (0x300a0001 ∷ [])
    ∷ (0xf000001c ∷ [])
    ∷ []

abbrev direct_against_three : List (List ℕ)
direct_against_three =
    (0x10000001 ∷ 0x80000200 ∷ 0x00000001 ∷ [])
    ∷ (0x10000002 ∷ 0x80000200 ∷ 0x00000002 ∷ [])
    ∷ (0x10000003 ∷ 0x80000200 ∷ 0x00000003 ∷ [])
    ∷ (0x10000004 ∷ 0x80000200 ∷ 0x00000004 ∷ [])
    ∷ (0x20000014 ∷ 0x00000003 ∷ 0x00010001 ∷ [])
    ∷ (0x20000014 ∷ 0x00030000 ∷ 0x00010001 ∷ [])
    ∷ (0x20000006 ∷ 0x00000001 ∷ 0x00020002 ∷ [])
    ∷ (0x20000006 ∷ 0x00010000 ∷ 0x00010002 ∷ [])
    ∷ (0x20000006 ∷ 0x00010002 ∷ 0x00020003 ∷ [])
    ∷ (0x20000006 ∷ 0x00020001 ∷ 0x00010003 ∷ [])
    ∷ (0x20000006 ∷ 0x00020003 ∷ 0x00020004 ∷ [])
    ∷ (0x20000006 ∷ 0x00030002 ∷ 0x00020004 ∷ [])
    ∷ (0x300a0001 ∷ [])
    ∷ (0xf0000025 ∷ [])
    ∷ []

abbrev six_bridges : List (List ℕ)
six_bridges =
    (0x10000001 ∷ 0x80000200 ∷ 0x00000001 ∷ [])
    ∷ (0x10000002 ∷ 0x80000200 ∷ 0x00000005 ∷ [])
    ∷ (0x10000003 ∷ 0x80000200 ∷ 0x00000002 ∷ [])
    ∷ (0x10000004 ∷ 0x80000200 ∷ 0x00000003 ∷ [])
    ∷ (0x10000005 ∷ 0x80000200 ∷ 0x00000004 ∷ [])
    ∷ (0x10000006 ∷ 0x80000200 ∷ 0x00000009 ∷ [])
    ∷ (0x2000000a ∷ 0x00000001 ∷ 0x00010001 ∷ [])
    ∷ (0x2000000a ∷ 0x00010000 ∷ 0x00010001 ∷ [])
    ∷ (0x2000000a ∷ 0x00010002 ∷ 0x00020002 ∷ [])
    ∷ (0x2000000a ∷ 0x00020001 ∷ 0x00010002 ∷ [])
    ∷ (0x2000000a ∷ 0x00020005 ∷ 0x00020003 ∷ [])
    ∷ (0x2000000a ∷ 0x00050002 ∷ 0x00010003 ∷ [])
    ∷ (0x2000000a ∷ 0x00000003 ∷ 0x00020004 ∷ [])
    ∷ (0x2000000a ∷ 0x00030000 ∷ 0x00010004 ∷ [])
    ∷ (0x2000000a ∷ 0x00030004 ∷ 0x00020005 ∷ [])
    ∷ (0x2000000a ∷ 0x00040003 ∷ 0x00010005 ∷ [])
    ∷ (0x2000000a ∷ 0x00040005 ∷ 0x00020006 ∷ [])
    ∷ (0x2000000a ∷ 0x00050004 ∷ 0x00020006 ∷ [])
    ∷ (0x300a0001 ∷ [])
    ∷ (0xf0000037 ∷ [])
    ∷ []

abbrev pub parallel_equal : List (List ℕ)
parallel_equal =
    (0x10000001 ∷ 0x80000200 ∷ 0x00000001 ∷ [])
    ∷ (0x10000002 ∷ 0x80000200 ∷ 0x00000002 ∷ [])
    ∷ (0x2000000a ∷ 0x00000001 ∷ 0x00010009 ∷ [])
    ∷ (0x2000000a ∷ 0x00010000 ∷ 0x00010009 ∷ [])
    ∷ (0x2000000a ∷ 0x00000001 ∷ 0x00020007 ∷ [])
    ∷ (0x2000000a ∷ 0x00010000 ∷ 0x00020007 ∷ [])
    ∷ (0x300a0001 ∷ [])
    ∷ (0xf0000013 ∷ [])
    ∷ []

abbrev pub parallel_cheaper : List (List ℕ)
parallel_cheaper =
    (0x10000001 ∷ 0x80000200 ∷ 0x00000001 ∷ [])
    ∷ (0x10000002 ∷ 0x80000200 ∷ 0x00000002 ∷ [])
    ∷ (0x2000000c ∷ 0x00000001 ∷ 0x00010007 ∷ [])
    ∷ (0x2000000c ∷ 0x00010000 ∷ 0x00010007 ∷ [])
    ∷ (0x2000000a ∷ 0x00000001 ∷ 0x00020009 ∷ [])
    ∷ (0x2000000a ∷ 0x00010000 ∷ 0x00020009 ∷ [])
    ∷ (0x300a0001 ∷ [])
    ∷ (0xf0000013 ∷ [])
    ∷ []

abbrev greatest_usable : List (List ℕ)
greatest_usable =
    (0x10000001 ∷ 0x80000200 ∷ 0x00000001 ∷ [])
    ∷ (0x10000002 ∷ 0x80000200 ∷ 0x00000002 ∷ [])
    ∷ (0x20fffffe ∷ 0x00000001 ∷ 0x00010001 ∷ [])
    ∷ (0x20fffffe ∷ 0x00010000 ∷ 0x00010001 ∷ [])
    ∷ (0x300a0001 ∷ [])
    ∷ (0xf000000d ∷ [])
    ∷ []

abbrev unusable_first : List (List ℕ)
unusable_first =
    (0x10000001 ∷ 0x80000200 ∷ 0x00000001 ∷ [])
    ∷ (0x10000002 ∷ 0x80000200 ∷ 0x00000002 ∷ [])
    ∷ (0x20ffffff ∷ 0x00000001 ∷ 0x00010001 ∷ [])
    ∷ (0x2000000a ∷ 0x00010000 ∷ 0x00010001 ∷ [])
    ∷ (0x300a0001 ∷ [])
    ∷ (0xf000000d ∷ [])
    ∷ []

abbrev unusable_second : List (List ℕ)
unusable_second =
    (0x10000001 ∷ 0x80000200 ∷ 0x00000001 ∷ [])
    ∷ (0x10000002 ∷ 0x80000200 ∷ 0x00000002 ∷ [])
    ∷ (0x2000000a ∷ 0x00000001 ∷ 0x00010001 ∷ [])
    ∷ (0x20ffffff ∷ 0x00010000 ∷ 0x00010001 ∷ [])
    ∷ (0x300a0001 ∷ [])
    ∷ (0xf000000d ∷ [])
    ∷ []

-- What a figure asks of a table: the path for a VID between two bridges, the link that a hop takes, or the counts; for document 02, what is
-- read from a sub-TLV, and what is written for a bridge and a VID.
pub data Question : Type 0 where
  path : List (List ℕ) → ℕ → ℕ → ℕ → Question
  hop : List (List ℕ) → ℕ → ℕ → Question
  check : List (List ℕ) → Question
  reading : List (List ℕ) → List ℕ → Question
  writing : List (List ℕ) → ℕ → ℕ → Question

-- What it shows: the cost, hops and bridges of a path, the number and near port of a link, five counts, words or bytes, a refusal's number,
-- or a refusal's number, kind and word.
pub data Shown : Type 0 where
  path_is : ℕ → ℕ → List ℕ → Shown
  link_is : ℕ → ℕ → Shown
  counts : ℕ → ℕ → ℕ → ℕ → ℕ → Shown
  list_is : List ℕ → Shown
  refusal : ℕ → Shown
  refusal_of : ℕ → Option ℕ → ℕ → Shown

abbrev pub shown_path : Outcome (Written CostAndHops) → Shown
shown_path (answered w) = path_is w.values.cost w.values.hops w.words
shown_path (refused n kind at) = refusal n

-- Two bridges that are not joined are shown as link 0, which no link has.
abbrev pub shown_link : Outcome (Option Link) → Shown
shown_link (answered none) = link_is 0 0
shown_link (answered (some l)) = link_is (number l) l.here.port
shown_link (refused n kind at) = refusal n

abbrev pub shown_counts : Outcome Counts → Shown
shown_counts (answered c) = counts c.bridges c.half_links c.usable_links c.vids c.members
shown_counts (refused n kind at) = refusal n

abbrev pub shown_list : Outcome (Written ℕ) → Shown
shown_list (answered w) = list_is w.words
shown_list (refused n kind at) = refusal_of n kind at

abbrev pub shown : Question → Shown
shown (path t vid a b) = shown_path (path_answer (table t) vid a b)
shown (hop t u v) = shown_link (and_then (verdict (table t)) λ p. answered (hop_link p.half_links u v))
shown (check t) = shown_counts (check_outcome (table t))
shown (reading t bytes) = shown_list (read_services_answer (table t) bytes)
shown (writing t b vid) = shown_list (write_services_answer (table t) b vid)

pub record Figure : Type 0 where
  pub question : Question
  pub expected : Shown

abbrev pub figure : Question → Shown → Figure
figure q s = record { question = q; expected = s }

abbrev figures : List Figure
figures =
    -- "Diamond, 0 to 3: index 1 goes by 1, index 2 by 2, index 10 by 2, index 9 by 1; cost 20, hops 2."
    figure (path diamond 10 0 3) (path_is 20 2 (0 ∷ 1 ∷ 3 ∷ []))
    ∷ figure (path diamond 11 0 3) (path_is 20 2 (0 ∷ 2 ∷ 3 ∷ []))
    ∷ figure (path diamond 12 0 3) (path_is 20 2 (0 ∷ 2 ∷ 3 ∷ []))
    ∷ figure (path diamond 13 0 3) (path_is 20 2 (0 ∷ 1 ∷ 3 ∷ []))
    -- "Bridge 1 with priority 9000: index 1 by 2, index 2 by 1."
    ∷ figure (path diamond_at_9000 10 0 3) (path_is 20 2 (0 ∷ 2 ∷ 3 ∷ []))
    ∷ figure (path diamond_at_9000 11 0 3) (path_is 20 2 (0 ∷ 1 ∷ 3 ∷ []))
    -- "Direct link 20 against 10 and 10: direct. Against 6, 6 and 6: the three hops."
    ∷ figure (path direct_against_two 10 0 2) (path_is 20 1 (0 ∷ 2 ∷ []))
    ∷ figure (path direct_against_three 10 0 3) (path_is 18 3 (0 ∷ 1 ∷ 2 ∷ 3 ∷ []))
    -- "Address ends 1-5-2-9 and 1-3-4-9, all hops equal, index 1: the first."
    ∷ figure (path six_bridges 10 0 5) (path_is 30 3 (0 ∷ 1 ∷ 2 ∷ 5 ∷ []))
    -- "Parallel links 7 and 9, both 10: link 7. Costs 12 and 10: link 9." Each is the second record of its table.
    ∷ figure (hop parallel_equal 0 1) (link_is 7 2)
    ∷ figure (hop parallel_equal 1 0) (link_is 7 2)
    ∷ figure (hop parallel_cheaper 0 1) (link_is 9 2)
    ∷ figure (hop parallel_cheaper 1 0) (link_is 9 2)
    -- "Metric 16,777,214 at both ends is usable; 16,777,215 at one end isn't, and alone gives 12."
    ∷ figure (check greatest_usable) (counts 2 2 1 1 0)
    ∷ figure (path greatest_usable 10 0 1) (path_is 16777214 1 (0 ∷ 1 ∷ []))
    ∷ figure (path greatest_usable 10 1 0) (path_is 16777214 1 (1 ∷ 0 ∷ []))
    ∷ figure (check unusable_first) (counts 2 2 0 1 0)
    ∷ figure (path unusable_first 10 0 1) (refusal 12)
    ∷ figure (path unusable_first 10 1 0) (refusal 12)
    ∷ figure (check unusable_second) (counts 2 2 0 1 0)
    ∷ figure (path unusable_second 10 0 1) (refusal 12)
    ∷ figure (path unusable_second 10 1 0) (refusal 12)
    -- "The table of one word F0000000 is accepted, counts all 0. An empty file: 1."
    ∷ figure (check ((0xf0000000 ∷ []) ∷ [])) (counts 0 0 0 0 0)
    ∷ figure (check []) (refusal 1)
    ∷ []

-- Every figure shows what document 01 says.
figures_hold : map (λ f. shown f.question) figures ≡ map (λ f. f.expected) figures
unfolding words_of layout_of lowest_fault read_on verdict links_of usable_links count_usable links_between hop_link
    masked_bytes masked_identifier chosen_path check_outcome path_answer
    rising selected any_passes lowest_by insert_upward sorted is_lower cost_onward neighbours onward paths chosen flat_map
figures_hold = refl
