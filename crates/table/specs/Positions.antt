-- Where the records of a table stand: "Kinds never fall from one record to the next", so the records of a kind stand one after the
-- other, and their numbers say where. Assumes nothing.
use Rattle.std.specs.Prelude.{ℕ, ◌+◌, ◌*◌, List, map, cond, ltb, drop}
use Rattle.lists.specs.Lists.{rising}
use Rattle.rule.specs.Records.{bridge_of, half_link_of, vid_of, member_of, traffic_of}
use Rattle.rule.specs.Plan.{Plan}
use Rattle.rule.specs.Check.{Reading}
use Rattle.table.specs.declared.shape.Shape.{Shape}

module _ {A : Type 0} where
  -- The record `i` of a kind with `width` words a record, the first of them at the word `from`.
  abbrev pub record_at : (List ℕ → A) → ℕ → ℕ → List ℕ → ℕ → A
  record_at decoded width from ws i = decoded (drop (from + width * i) ws)

  -- The first `n` of them.
  unfoldable pub records_at : (List ℕ → A) → ℕ → ℕ → List ℕ → ℕ → List A
  records_at decoded width from ws n = map (record_at decoded width from ws) (rising 0 n)

abbrev pub half_links_from : Shape → ℕ
half_links_from s = 3 * s.bridges

abbrev pub vids_from : Shape → ℕ
vids_from s = half_links_from s + 3 * s.half_links

abbrev pub members_from : Shape → ℕ
members_from s = vids_from s + s.vids

abbrev pub traffic_from : Shape → ℕ
traffic_from s = members_from s + 2 * s.members

abbrev pub words_read : Shape → ℕ
words_read s = traffic_from s + 2 * s.traffic

-- The plan of the records read.
abbrev pub plan_at : List ℕ → Shape → Plan
plan_at ws s =
    record {
      bridges = records_at bridge_of 3 0 ws s.bridges;
      half_links = records_at half_link_of 3 (half_links_from s) ws s.half_links;
      vids = records_at vid_of 1 (vids_from s) ws s.vids;
      members = records_at member_of 2 (members_from s) ws s.members;
      traffic = records_at traffic_of 2 (traffic_from s) ws s.traffic;
    }

abbrev pub last_kind : Shape → ℕ
last_kind s =
    cond (ltb 0 s.traffic) 5
    (cond (ltb 0 s.members) 4 (cond (ltb 0 s.vids) 3 (cond (ltb 0 s.half_links) 2 (cond (ltb 0 s.bridges) 1 0))))

-- Where the reading stands.
abbrev pub reading_at : List ℕ → Shape → Reading
reading_at ws s = record { at = words_read s; last = last_kind s; plan = plan_at ws s }
