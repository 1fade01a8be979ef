-- The parts of a listing by their numbers, of a table whose records are those of an accepted plan. Assumes nothing.
use Rattle.std.specs.Prelude.{ℕ, zero, suc, ◌+◌, ◌*◌, ◌-◌, ◌/◌, ◌%◌, ◌≤◌, ◌<◌, ◌≡◌, refl, List, Bool, true, false, cond, ltb, length}
use Rattle.std.proofs.Common.{arith, mod-lt, div-lt_iff_lt-mul, mul-le-mul_left, mul-le-mul_right, sym, ap, ◌∙◌, lt-ltb, le-ltb}
use Rattle.std.proofs.Math.Path.{subst}
use Rattle.lists.specs.Appending.{Appended}
use Rattle.rule.specs.declared.answer.Counts.{Counts}
use Rattle.rule.specs.Records.{Vid, bridge_of, vid_of, traffic_of}
use Rattle.rule.specs.Plan.{Plan, vid_at}
use Rattle.rule.specs.Calls.{counts_of, plan_entries}
use Rattle.table.specs.declared.shape.Shape.{Shape}
use Rattle.table.specs.Positions.{vids_from, traffic_from, plan_at}
use Rattle.table.proofs.laws.PositionLaws.{how_many, record-at}
use Rattle.text.specs.Text.{line}
use Rattle.check_text.specs.CheckText.{counts_word, counts_fields}
use Rattle.table.specs.Numbered.{vid_number}
use Rattle.listing_lines.specs.Listing.{path_lines, entry_lines, load_report}
use Rattle.listing_parts.specs.Parts.{pair_count, part_count, parts_of_shape, listing_part}
use Rattle.listing_parts.proofs.laws.PartLaws.{path_part, entry_part, report_part}

-- A plan has at most 16 VIDs and 64 bridges.
pub few_pairs : (vids bridges : ℕ) → vids ≤ 16 → bridges ≤ 64 → vids * bridges ≤ 1024
few_pairs vids bridges h l = omega (arith, mul-le-mul_left vids l, mul-le-mul_right 64 h)

-- How many parts there are, without traffic and with it.
pub without_report : (s : Shape) → s.traffic ≡ 0 → 1 + s.vids * s.bridges + s.bridges ≡ parts_of_shape s
without_report s e = rw (le-ltb 0 s.traffic (omega arith)) (omega arith)

pub with_report : (s : Shape) → (s.traffic ≡ 0 → ⊥) → 1 + s.vids * s.bridges + s.bridges + 1 ≡ parts_of_shape s
with_report s d = rw (lt-ltb 0 s.traffic (omega (arith, d))) refl

pub few-parts : (s : Shape) → s.vids ≤ 16 → s.bridges ≤ 64 → parts_of_shape s ≤ 1090
few-parts s h l = omega (arith, few_pairs s.vids s.bridges h l, one (ltb 0 s.traffic))
  where
    one : (b : Bool) → cond b 1 0 ≤ 1
    one true = omega arith
    one false = omega arith

module _ (ws : List ℕ) (s : Shape) where
  abbrev plan : Plan
  plan = plan_at ws s

  bridges_are : length plan.bridges ≡ s.bridges
  bridges_are = how_many bridge_of 3 0 ws s.bridges

  pub pairs_are : pair_count plan ≡ s.vids * s.bridges
  pairs_are = λ i. how_many vid_of 1 (vids_from s) ws s.vids i * bridges_are i

  traffic_are : length plan.traffic ≡ s.traffic
  traffic_are = how_many traffic_of 2 (traffic_from s) ws s.traffic

  -- How many parts there are.
  pub parts_are : part_count plan ≡ parts_of_shape s
  parts_are = λ i. 1 + pairs_are i + bridges_are i + cond (ltb 0 (traffic_are i)) 1 0

  -- The part number 0 is the counts line.
  pub counts_part : {part : ℕ} {c : Counts} {out out' : List ℕ} {next : ℕ} → part ≡ 0 → c ≡ counts_of plan
      → Appended out 0 (line counts_word (counts_fields c)) out' next → Appended out 0 (listing_part plan part) out' next
  unfolding listing_part
  counts_part {part} {c} {out} {out'} {next} e f W =
      subst (λ (k : ℕ). Appended out 0 (listing_part plan k) out' next) (sym e)
      (subst (λ (x : Counts). Appended out 0 (line counts_word (counts_fields x)) out' next) f W)

  module _ (part : ℕ) (some_pair : part ≡ 0 → ⊥) where
    after-counts : suc (part - 1) ≡ part
    after-counts = omega arith

    module _ (inside : part - 1 < s.vids * s.bridges) where
      pub some-bridge : 0 < s.bridges
      some-bridge = go s.bridges inside
        where
          go : (n : ℕ) → part - 1 < s.vids * n → 0 < n
          go zero h = absurd (omega (arith, let z : s.vids * 0 ≡ 0 = omega arith in z))
          go (suc n) h = omega arith

      -- The VID record and the bridge from which the lines of the part lead.
      pub known-vid : (part - 1) / s.bridges < s.vids
      known-vid = (div-lt_iff_lt-mul {k = s.bridges} {x = part - 1} {y = s.vids} some-bridge).1 inside

      pub known_from : (part - 1) % s.bridges < s.bridges
      known_from = mod-lt (part - 1) some-bridge

      pub path_lines_part : {out out' : List ℕ} {next : ℕ}
          → Appended out 0 (path_lines plan (vid_number ws s ((part - 1) / s.bridges)).vid ((part - 1) % s.bridges)) out' next
          → Appended out 0 (listing_part plan part) out' next
      path_lines_part {out} {out'} {next} W = subst (λ (x : List ℕ). Appended out 0 x out' next) (sym same) W
        where
          same : listing_part plan part ≡ path_lines plan (vid_number ws s ((part - 1) / s.bridges)).vid ((part - 1) % s.bridges)
          same =
              ap (listing_part plan) (sym after-counts)
              ∙ path_part plan (part - 1) (omega (arith, pairs_are))
              ∙ ap (λ (n : ℕ). path_lines plan (vid_at plan ((part - 1) / n)).vid ((part - 1) % n)) bridges_are
              ∙ ap (λ (v : Vid). path_lines plan v.vid ((part - 1) % s.bridges))
              (record-at vid_of 1 (vids_from s) ws s.vids ((part - 1) / s.bridges) (record { vid = 0; index = 0 }) known-vid)

    module _ (beyond : s.vids * s.bridges ≤ part - 1) where
      pub entry_lines_part : part - 1 - s.vids * s.bridges < s.bridges → {out out' : List ℕ} {next : ℕ}
          → Appended out 0 (entry_lines (part - 1 - s.vids * s.bridges) (plan_entries plan (part - 1 - s.vids * s.bridges))) out' next
          → Appended out 0 (listing_part plan part) out' next
      entry_lines_part known {out} {out'} {next} W = subst (λ (x : List ℕ). Appended out 0 x out' next) (sym same) W
        where
          same : listing_part plan part ≡ entry_lines (part - 1 - s.vids * s.bridges) (plan_entries plan (part - 1 - s.vids * s.bridges))
          same =
              ap (listing_part plan) (sym after-counts)
              ∙ entry_part plan (part - 1) (omega (arith, pairs_are)) (omega (arith, pairs_are, bridges_are))
              ∙ ap (λ (k : ℕ). entry_lines (part - 1 - k) (plan_entries plan (part - 1 - k))) pairs_are

      pub load_report_part : s.bridges ≤ part - 1 - s.vids * s.bridges → {out out' : List ℕ} {next : ℕ}
          → Appended out 0 (load_report plan) out' next → Appended out 0 (listing_part plan part) out' next
      load_report_part last {out} {out'} {next} W =
          subst (λ (x : List ℕ). Appended out 0 x out' next)
          (sym (ap (listing_part plan) (sym after-counts) ∙ report_part plan (part - 1) (omega (arith, pairs_are, bridges_are)))) W
