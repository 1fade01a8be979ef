-- The verdict on a table (01, "Refusals in checking order", 1 to 10): its decoded plan, or the first fault.
-- Assumes nothing.
use Rattle.std.specs.Prelude.{ℕ, zero, suc, ◌+◌, ◌%◌, List, [], ◌∷◌, Bool, true, false, not, cond, ◌&&◌, ◌||◌, eqb, leb, ltb, length, drop}
use Rattle.std.proofs.Math.Option.{Option, none, some}
use Rattle.lists.specs.Lists.{selected, any_passes}
use Rattle.rule.specs.Words.{words_of, bits}
use Rattle.rule.specs.Records.{Bridge, HalfLink, Member, Traffic, Record, bridge, half_link, vid, member, traffic, end, address, end_count, Layout, layout_of, Range, in_limits}
use Rattle.rule.specs.Outcome.{Outcome, answered, refused, refused_if}
use Rattle.rule.specs.Plan.{Plan, no_records, with_record, alike, known_bridge, known_vid}

-- The bytes of the longest table: as many records of each kind as there may be. "Up to 256 records are allowed, so the longest table
-- is 9,540 bytes" (02, A5).
abbrev pub longest_table : ℕ
longest_table = 9540

-- 1. "The table's length is 0, above 7,492 bytes, or no multiple of 4", with 9,540 for 7,492 (02, A5).
abbrev pub bad_length : ℕ → Bool
bad_length n = eqb n 0 || ltb longest_table n || not (eqb (n % 4) 0)

-- 6. "A value is outside its range, or the end count is wrong": the count is of the words before the end record.
abbrev pub outside_range : List Range → List ℕ → Bool
outside_range ranges r = any_passes (λ g. not (in_limits g.limits (g.value r))) ranges

abbrev pub wrong_end_count : ℕ → Option ℕ → Bool
wrong_end_count at none = false
wrong_end_count at (some n) = not (eqb n at)

-- 7. "A bridge or VID that a half-link or member names has no record, or near and far bridge are equal"; of traffic "an unknown name or
-- equal ends" (02, A5).
abbrev pub unknown_ends : Plan → ℕ → ℕ → Bool
unknown_ends p a b = not (known_bridge p a) || not (known_bridge p b) || eqb a b

abbrev pub unknown_name : Plan → Record → Bool
unknown_name p (bridge b) = false
unknown_name p (half_link h) = unknown_ends p h.near h.far
unknown_name p (vid v) = false
unknown_name p (member m) = not (known_bridge p m.bridge) || not (known_vid p m.vid)
unknown_name p (traffic t) = unknown_ends p t.from t.to || not (known_vid p t.vid)
unknown_name p (end n) = false

-- 8. "A record repeats an earlier one's address, SPsourceID, near bridge with port, VID, or bridge with I-SID and VID"; of traffic "a
-- repeated VID, from and to 8; the opposite direction is no repeat" (02, A5): the record, and the earlier one.
abbrev pub repeats_bridge : Bridge → Bridge → Bool
repeats_bridge b e = eqb (address e) (address b) || eqb e.sp_source_id b.sp_source_id

abbrev pub repeats_port : HalfLink → HalfLink → Bool
repeats_port h e = eqb e.near h.near && eqb e.port h.port

abbrev pub repeats_member : Member → Member → Bool
repeats_member m e = eqb e.bridge m.bridge && eqb e.isid m.isid && eqb e.vid m.vid

abbrev pub repeats_traffic : Traffic → Traffic → Bool
repeats_traffic t e = eqb e.vid t.vid && eqb e.from t.from && eqb e.to t.to

abbrev pub repeated : Plan → Record → Bool
repeated p (bridge b) = any_passes (repeats_bridge b) p.bridges
repeated p (half_link h) = any_passes (repeats_port h) p.half_links
repeated p (vid v) = known_vid p v.vid
repeated p (member m) = any_passes (repeats_member m) p.members
repeated p (traffic t) = any_passes (repeats_traffic t) p.traffic
repeated p (end n) = false

-- 9. "It is a third half-link of a link number, or the second and no mirror of the first": `earlier` are the half-links before
-- it with its link number.
abbrev pub mirrors : HalfLink → HalfLink → Bool
mirrors h e = eqb h.near e.far && eqb h.far e.near

abbrev pub wrong_half : HalfLink → List HalfLink → Bool
wrong_half h [] = false
wrong_half h (e ∷ []) = not (mirrors h e)
wrong_half h (e ∷ f ∷ es) = true

abbrev pub has_link : ℕ → HalfLink → Bool
has_link n h = eqb h.link n

abbrev pub wrong_link : Plan → Record → Bool
wrong_link p (bridge b) = false
wrong_link p (half_link h) = wrong_half h (selected (has_link h.link) p.half_links)
wrong_link p (vid v) = false
wrong_link p (member m) = false
wrong_link p (traffic t) = false
wrong_link p (end n) = false

-- 10. "Words follow the end record": `n` words from its first to the end of the table.
abbrev pub words_follow : ℕ → Option ℕ → Bool
words_follow n none = false
words_follow n (some count) = ltb 1 n

-- Where the reading of a table stands: before the word `at`, after a record of the kind `last` (0 before the first record),
-- with the records read so far.
pub record Reading : Type 0 where
  pub at : ℕ
  pub last : ℕ
  pub plan : Plan

abbrev pub start : Reading
start = record { at = 0; last = 0; plan = no_records }

-- A refusal's number and whether it applies.
pub record Fault : Type 0 where
  pub number : ℕ
  pub applies : Bool

abbrev pub fault : ℕ → Bool → Fault
fault n b = record { number = n; applies = b }

-- The faults of the record that begins with the words `r`, "in checking order". Its kind is that of the row `l`.
abbrev pub faults : Reading → Layout → List ℕ → List Fault
faults s l r =
    fault 2 (ltb l.kind s.last)
    ∷ fault 3 (ltb (length r) l.words)
    ∷ fault 4 (not (eqb (l.zero_bits r) 0))
    ∷ fault 5 (leb l.limit (alike s.plan (l.decoded r)))
    ∷ fault 6 (outside_range l.ranges r || wrong_end_count s.at (end_count (l.decoded r)))
    ∷ fault 7 (unknown_name s.plan (l.decoded r))
    ∷ fault 8 (repeated s.plan (l.decoded r))
    ∷ fault 9 (wrong_link s.plan (l.decoded r))
    ∷ fault 10 (words_follow (length r) (end_count (l.decoded r)))
    ∷ []

-- "of its faults the lowest".
unfoldable pub lowest_fault : List Fault → Option ℕ
lowest_fault [] = none
lowest_fault (f ∷ fs) = cond f.applies (some f.number) (lowest_fault fs)

-- "for 2 kind is none".
abbrev pub kind_concerned : ℕ → ℕ → Option ℕ
kind_concerned number kind = cond (eqb number 2) none (some kind)

-- What reading one record comes to: reading goes on, or the verdict is known.
pub data ReadingStep : Type 0 where
  goes_on : Reading → ReadingStep
  stops : Outcome Plan → ReadingStep

-- A record without a fault is taken into the plan, or ends the table: "A table is accepted when none of 1 to 10 applies to it."
abbrev pub taken : Reading → Layout → Record → Option ℕ → ReadingStep
taken s l e none = goes_on (record { at = s.at + l.words; last = l.kind; plan = with_record s.plan e })
taken s l e (some count) = stops (answered s.plan)

abbrev pub judged : Reading → Layout → List ℕ → Option ℕ → ReadingStep
judged s l r none = taken s l (l.decoded r) (end_count (l.decoded r))
judged s l r (some number) = stops (refused number (kind_concerned number l.kind) s.at)

-- "2. The kind is unknown": of such a record nothing else can be said.
abbrev pub read_as : Reading → List ℕ → Option Layout → ReadingStep
read_as s r none = stops (refused 2 none s.at)
read_as s r (some l) = judged s l r (lowest_fault (faults s l r))

-- Of no words: "for a missing end record kind is none and the word is the number of words".
abbrev pub read_from : ℕ → Reading → List ℕ → ReadingStep
read_from total s [] = stops (refused 3 none total)
read_from total s (w ∷ r) = read_as s (w ∷ r) (layout_of (bits w 31 28))

-- "Each record is read from the part of the table that starts at its first word."
abbrev pub step_of : List ℕ → Reading → ReadingStep
step_of ws s = read_from (length ws) s (drop s.at ws)

abbrev pub after : (Reading → Outcome Plan) → ReadingStep → Outcome Plan
after next (goes_on s) = next s
after next (stops o) = o

-- "For 2 to 10 the first faulty record counts": records are read one after the other. Each takes a word or more, so with as many
-- records as the table has words none is left to read, and no end record came.
unfoldable pub read_on : ℕ → List ℕ → Reading → Outcome Plan
read_on zero ws s = refused 3 none (length ws)
read_on (suc n) ws s = after (read_on n ws) (step_of ws s)

-- The verdict on a table, given by its bytes.
unfoldable pub verdict : List ℕ → Outcome Plan
verdict t = refused_if (bad_length (length t)) 1 (read_on (length (words_of t)) (words_of t) start)
