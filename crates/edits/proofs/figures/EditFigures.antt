-- Figures of request A7 (02): changes of the worked example of document 01 and of the diamond, with the words, the tree and the count
-- after them. One collection and one proof over it. Assumes nothing.
use Rattle.std.specs.Prelude.{ℕ, ◌≡◌, refl, take}
use mathlib.Core.List.{List, [], ◌∷◌, ◌++◌, map, flat_map}
use Rattle.std.proofs.Math.Option.{none, some}
use Rattle.lists.specs.Lists.{rising, selected, any_passes, first_passing, lowest_by}
use Rattle.graph.specs.Order.{insert_upward, sorted, is_lower}
use Rattle.graph.specs.Graph.{cost_onward}
use Rattle.graph.specs.Chosen.{neighbours, onward, paths, chosen}
use Rattle.rule.specs.Words.{words_of}
use Rattle.rule.specs.Records.{layout_of}
use Rattle.rule.specs.Outcome.{Outcome, answered, refused, and_then, refused_as}
use Rattle.rule.specs.Check.{lowest_fault, read_on, verdict}
use Rattle.rule.specs.Links.{links_of, usable_links, links_between, hop_link}
use Rattle.rule.specs.Identifiers.{masked_bytes, masked_identifier}
use Rattle.rule.specs.Paths.{chosen_path}
use Rattle.rule.specs.Calls.{Branch, tree_of, last_but_one}
use Rattle.rule.proofs.figures.Tables.{table}
use Rattle.rule.proofs.figures.Figures.{diamond}
use Rattle.edits.specs.Edits.{Change, with_lower_count, changed_table}
use Rattle.edits.specs.Running.{Kept, loaded, changed, after_all}

-- The worked example: one link of the metrics 10 and 12 between the bridges 0 and 1, by their ports 1 and 2. The first words of its two
-- half-links are given.
abbrev worked_with : ℕ → ℕ → List (List ℕ)
worked_with first second =
    (0x10000001 ∷ 0x80000200 ∷ 0x00000001 ∷ [])
    ∷ (0x10000002 ∷ 0x80000200 ∷ 0x00000002 ∷ [])
    ∷ (first ∷ 0x00000001 ∷ 0x00010007 ∷ [])
    ∷ (second ∷ 0x00010000 ∷ 0x00020007 ∷ [])
    ∷ behind 0xf0000011
  where
    behind : ℕ → List (List ℕ)
    behind end =
        (0x300a0001 ∷ [])
        ∷ (0x42000100 ∷ 0x0000000a ∷ [])
        ∷ (0x41000100 ∷ 0x0001000a ∷ [])
        ∷ (end ∷ [])
        ∷ []

abbrev worked : List (List ℕ)
worked = worked_with 0x2000000a 0x2000000c

-- Without the half-link of bridge 0: its three words are gone, and the end count is lower by 3.
abbrev worked_without_0 : List (List ℕ)
worked_without_0 =
    take 2 worked ++ ((0x2000000c ∷ 0x00010000 ∷ 0x00020007 ∷ []) ∷ (0x300a0001 ∷ []) ∷ (0x42000100 ∷ 0x0000000a ∷ []) ∷ (0x41000100 ∷ 0x0001000a ∷ [])
    ∷ (0xf000000e ∷ []) ∷ [])

abbrev change : ℕ → ℕ → ℕ → Change
change near port metric = record { name = record { near = near; port = port }; metric = some metric }

abbrev withdraw : ℕ → ℕ → Change
withdraw near port = record { name = record { near = near; port = port }; metric = none }

abbrev branch : ℕ → ℕ → ℕ → Branch
branch cost hops last = record { cost = cost; hops = hops; last = last }

-- What is asked: a table with a watched bridge and VID and the changes made before, and a change.
record Question : Type 0 where
  rows : List (List ℕ)
  bridge : ℕ
  vid : ℕ
  changes : ℕ
  asked : Change

-- What is shown: the table's words, the tree and the count.
record Shown : Type 0 where
  words : List ℕ
  tree : List Branch
  changes : ℕ

abbrev shown_of : Kept → Shown
shown_of k = record { words = words_of k.watched.table; tree = k.tree; changes = k.watched.changes }

abbrev outcome : Question → Outcome Shown
outcome q = and_then
    (changed (record { table = table q.rows; bridge = q.bridge; vid = q.vid; changes = q.changes }) q.asked)
    λ k. answered (shown_of k)

record Figure : Type 0 where
  question : Question
  expected : Outcome Shown

-- Of the worked example, watched from bridge 0 in VID 10, after so many changes.
abbrev of_worked : ℕ → Change → Question
of_worked n c = record { rows = worked; bridge = 0; vid = 10; changes = n; asked = c }

abbrev shows : List (List ℕ) → ℕ → ℕ → ℕ → ℕ → Outcome Shown
shows rows cost hops last changes =
    answered (record { words = flat_map (λ r. r) rows; tree = branch 0 0 0 ∷ branch cost hops last ∷ []; changes = changes })

abbrev figure : Question → Outcome Shown → Figure
figure q e = record { question = q; expected = e }

abbrev figures : List Figure
figures =
    -- A metric change replaces the 24 metric bits; a link costs the larger of its two metrics.
    figure (of_worked 0 (change 0 1 20)) (shows (worked_with 0x20000014 0x2000000c) 20 1 0 1)
    ∷ figure (of_worked 7 (change 1 2 11)) (shows (worked_with 0x2000000a 0x2000000b) 11 1 0 8)
    -- A change to the metric that is there counts.
    ∷ figure (of_worked 0 (change 0 1 10)) (shows worked 12 1 0 1)
    -- Both ends of the range are taken: 1, and 16,777,215, by which the link is unusable.
    ∷ figure (of_worked 0 (change 1 2 1)) (shows (worked_with 0x2000000a 0x20000001) 10 1 0 1)
    ∷ figure (of_worked 0 (change 0 1 16777215)) (shows (worked_with 0x20ffffff 0x2000000c) 0 0 65535 1)
    -- 18 outside of it.
    ∷ figure (of_worked 0 (change 0 1 0)) (refused_as 18)
    ∷ figure (of_worked 0 (change 0 1 16777216)) (refused_as 18)
    -- The mark of a port that is down (A3) stays.
    ∷ figure (record { rows = worked_with 0x2800000a 0x2000000c; bridge = 0; vid = 10; changes = 0; asked = change 0 1 20 })
    (shows (worked_with 0x28000014 0x2000000c) 0 0 65535 1)
    -- A withdrawal.
    ∷ figure (of_worked 0 (withdraw 0 1)) (shows worked_without_0 0 0 65535 1)
    -- 11 for an unknown near bridge, then 17, then 18, then 19.
    ∷ figure (of_worked 65535 (change 2 1 0)) (refused_as 11)
    ∷ figure (of_worked 65535 (withdraw 2 1)) (refused_as 11)
    ∷ figure (of_worked 65535 (change 0 2 0)) (refused_as 17)
    ∷ figure (of_worked 65535 (withdraw 0 2)) (refused_as 17)
    ∷ figure (of_worked 65535 (change 0 1 0)) (refused_as 18)
    ∷ figure (of_worked 65535 (change 0 1 20)) (refused_as 19)
    ∷ figure (of_worked 65535 (withdraw 0 1)) (refused_as 19)
    -- The 65,535th change is still made.
    ∷ figure (of_worked 65534 (change 0 1 20)) (shows (worked_with 0x20000014 0x2000000c) 20 1 0 65535)
    -- A state that no load has made: the table's own number, and 11 for watched names that it lacks.
    ∷ figure (record { rows = []; bridge = 0; vid = 10; changes = 0; asked = change 0 1 20 }) (refused_as 1)
    ∷ figure (record { rows = worked_with 0x20000000 0x2000000c; bridge = 0; vid = 10; changes = 0; asked = change 0 1 20 }) (refused 6 (some 2) 6)
    ∷ figure (record { rows = worked; bridge = 2; vid = 10; changes = 0; asked = change 0 2 0 }) (refused_as 11)
    ∷ figure (record { rows = worked; bridge = 0; vid = 11; changes = 0; asked = change 0 2 0 }) (refused_as 11)
    ∷ []

-- Every figure shows what document 02 says.
figures_hold : map (λ f. outcome f.question) figures ≡ map (λ f. f.expected) figures
unfolding words_of layout_of lowest_fault read_on verdict links_of usable_links links_between hop_link
    masked_bytes masked_identifier chosen_path tree_of last_but_one with_lower_count changed_table changed first_passing
    rising selected any_passes lowest_by insert_upward sorted is_lower cost_onward neighbours onward paths chosen flat_map
figures_hold = refl

-- A list of changes of the diamond, watched from bridge 0 in VID 10: at first bridge 3 is reached by 1, with the metric 15 from 0 to 1 by 2,
-- and by 1 again when the half-link from 2 to 3 is gone. The change between them is refused and not counted.
abbrev diamond_after : Outcome Kept
diamond_after = and_then (loaded (table diamond) 0 10) λ k. answered (after_all k (change 0 1 15 ∷ change 0 3 15 ∷ withdraw 2 2 ∷ []))

list_holds :
    (and_then (loaded (table diamond) 0 10) (λ k. answered k.tree) ≡ answered (branch 0 0 0 ∷ branch 10 1 0 ∷ branch 10 1 0 ∷ branch 20 2 1 ∷ []))
    × (and_then (loaded (table diamond) 0 10) (λ k. answered (after_all k (change 0 1 15 ∷ [])).tree)
    ≡ answered (branch 0 0 0 ∷ branch 15 1 0 ∷ branch 10 1 0 ∷ branch 20 2 2 ∷ []))
    × (and_then diamond_after (λ k. answered k.tree) ≡ answered (branch 0 0 0 ∷ branch 15 1 0 ∷ branch 10 1 0 ∷ branch 25 2 1 ∷ []))
    × (and_then diamond_after (λ k. answered k.watched.changes) ≡ answered 2)
unfolding words_of layout_of lowest_fault read_on verdict links_of usable_links links_between hop_link
    masked_bytes masked_identifier chosen_path tree_of last_but_one with_lower_count changed_table loaded changed after_all first_passing
    rising selected any_passes lowest_by insert_upward sorted is_lower cost_onward neighbours onward paths chosen flat_map
list_holds = (refl, refl, refl, refl)
