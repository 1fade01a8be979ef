-- The listing of a table (01, "Listing program"): what the program prints, byte by byte. Assumes nothing.
use Rattle.std.specs.Prelude.{ℕ, Bool, not, cond, eqb, ltb, length}
use mathlib.Core.List.{List, [], ◌∷◌, ◌++◌, flat_map}
use Rattle.lists.specs.Lists.{rising, selected}
use Rattle.graph.specs.Pairs.{Pair, joined_pairs}
use Rattle.rule.specs.Outcome.{Outcome, answered, refused, Written}
use Rattle.rule.specs.Answers.{CostAndHops}
use Rattle.rule.specs.Plan.{Plan}
use Rattle.rule.specs.Check.{verdict}
use Rattle.rule.specs.Links.{graph_of}
use Rattle.rule.specs.Loads.{own_indexes, load_of, total_load, lost_load}
use Rattle.rule.specs.Entries.{Entry}
use Rattle.rule.specs.Lookup.{entries_in}
use Rattle.rule.specs.Calls.{counts_of, plan_path, plan_entries}
use Rattle.text.specs.Text.{space, newline, address, fields, line, path_word}
use Rattle.check_text.specs.CheckText.{counts_word, refused_word, counts_fields}

-- `none`
abbrev pub none_word : List ℕ
none_word = 110 ∷ 111 ∷ 110 ∷ 101 ∷ []

-- `entry`
abbrev pub entry_word : List ℕ
entry_word = 101 ∷ 110 ∷ 116 ∷ 114 ∷ 121 ∷ []

-- "a path line for each VID and two different bridges (VID, from, to, cost, hops, bridges; `none`, VID, from, to where 12)": by what
-- the path call answers.
abbrev pub path_line : ℕ → ℕ → ℕ → Outcome (Written CostAndHops) → List ℕ
path_line vid a b (answered w) = line path_word (vid ∷ a ∷ b ∷ w.values.cost ∷ w.values.hops ∷ w.words)
path_line vid a b (refused number kind at) = line none_word (vid ∷ a ∷ b ∷ [])

-- The path lines of a VID from the bridge `a`, "by to".
unfoldable pub path_lines : Plan → ℕ → ℕ → List ℕ
path_lines p vid a =
    flat_map (λ b. path_line vid a b (plan_path p vid a b)) (selected (λ b. not (eqb b a)) (rising 0 (length p.bridges)))

-- "an entry line by bridge (bridge, VID, port, address in hexadecimal)".
abbrev pub entry_line : ℕ → Entry → List ℕ
entry_line b e = entry_word ++ (fields (b ∷ e.vid ∷ e.port ∷ []) ++ (space ∷ (address e.address ++ (newline ∷ []))))

-- The entry lines of the bridge `b`, "in list order": by what the entries call answers.
abbrev pub entry_lines : ℕ → Outcome (Written ℕ) → List ℕ
entry_lines b (answered w) = flat_map (entry_line b) (entries_in w.words)
entry_lines b (refused number kind at) = []

-- `load`, `total`, `lost`
abbrev pub load_word : List ℕ
load_word = 108 ∷ 111 ∷ 97 ∷ 100 ∷ []

abbrev pub total_word : List ℕ
total_word = 116 ∷ 111 ∷ 116 ∷ 97 ∷ 108 ∷ []

abbrev pub lost_word : List ℕ
lost_word = 108 ∷ 111 ∷ 115 ∷ 116 ∷ []

-- "`load`, lower bridge, higher bridge and the sum" (02, A5).
abbrev pub load_line : (Pair → ℕ) → Pair → List ℕ
load_line load q = line load_word (q.lower ∷ q.higher ∷ load q ∷ [])

-- "then `total` and `lost`".
abbrev pub sum_lines : ℕ → ℕ → List ℕ
sum_lines total lost = line total_word (total ∷ []) ++ line lost_word (lost ∷ [])

-- The load report, for the plan's own ECT indexes: a line "for each joined pair in rising order", pairs without load included.
unfoldable pub load_report : Plan → List ℕ
load_report p =
    flat_map (load_line (load_of p (own_indexes p) p.traffic)) (joined_pairs (graph_of p))
    ++ sum_lines (total_load p (own_indexes p) p.traffic) (lost_load p (own_indexes p) p.traffic)

-- "Where a record of kind 5 occurs".
abbrev pub has_traffic : Plan → Bool
has_traffic p = ltb 0 (length p.traffic)

-- An accepted table "prints the five counts", then path lines "in VID record order, then by from, then by to; entry lines by bridge,
-- then in list order". "Where a record of kind 5 occurs, the listing ends with" the load report (02, A5).
unfoldable pub plan_listing : Plan → List ℕ
plan_listing p =
    line counts_word (counts_fields (counts_of p))
    ++ (flat_map (λ v. flat_map (path_lines p v.vid) (rising 0 (length p.bridges))) p.vids
    ++ (flat_map (λ b. entry_lines b (plan_entries p b)) (rising 0 (length p.bridges))
    ++ cond (has_traffic p) (load_report p) []))

-- "A refused table prints `refused`, number, word."
abbrev pub verdict_listing : Outcome Plan → List ℕ
verdict_listing (answered p) = plan_listing p
verdict_listing (refused number kind at) = line refused_word (number ∷ at ∷ [])

-- The listing of a table, given by its bytes.
unfoldable pub listing : List ℕ → List ℕ
listing t = verdict_listing (verdict t)
