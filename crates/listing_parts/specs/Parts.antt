-- The parts of a listing in order (01, "Listing program"; 02, A5): the counts line, the path lines of each VID record and from, the entry
-- lines of each bridge, and the load report where a record of traffic occurs. Assumes nothing.
use Rattle.std.specs.Prelude.{ℕ, zero, suc, ◌+◌, ◌*◌, ◌-◌, ◌/◌, ◌%◌, List, cond, ltb, length}
use Rattle.rule.specs.Plan.{Plan, vid_at}
use Rattle.rule.specs.Calls.{counts_of, plan_entries}
use Rattle.table.specs.declared.shape.Shape.{Shape}
use Rattle.text.specs.Text.{line}
use Rattle.check_text.specs.CheckText.{counts_word, counts_fields}
use Rattle.listing_lines.specs.Listing.{path_lines, entry_lines, load_report, has_traffic}

-- How many pairs of a VID record and a from there are.
abbrev pub pair_count : Plan → ℕ
pair_count p = length p.vids * length p.bridges

-- How many parts stand before the load report.
abbrev pub parts_before : Plan → ℕ
parts_before p = 1 + pair_count p + length p.bridges

-- "Where a record of kind 5 occurs", one more.
abbrev pub part_count : Plan → ℕ
part_count p = parts_before p + cond (has_traffic p) 1 0

-- The same by the numbers of a table's records.
abbrev pub parts_of_shape : Shape → ℕ
parts_of_shape s = 1 + s.vids * s.bridges + s.bridges + cond (ltb 0 s.traffic) 1 0

-- The part number `i`, counted from 0: "the five counts"; path lines "in VID record order, then by from"; "entry lines by bridge"; the load
-- report, with which "the listing ends".
unfoldable pub listing_part : Plan → ℕ → List ℕ
listing_part p zero = line counts_word (counts_fields (counts_of p))
listing_part p (suc i) =
    cond (ltb i (pair_count p))
    (path_lines p (vid_at p (i / length p.bridges)).vid (i % length p.bridges))
    (cond (ltb i (pair_count p + length p.bridges))
    (entry_lines (i - pair_count p) (plan_entries p (i - pair_count p)))
    (load_report p))
