-- What each part of a listing is, by its number, and that the parts one after the other are the listing of an accepted plan.
-- Assumes nothing.
use Prim.Native.Nat.{ℕ, suc, ◌+◌, ◌-◌, ◌/◌, ◌%◌, ◌≤◌, ◌<◌}
use native.Mathlib.Omega.{arith}
use Rattle.std.specs.Prelude.{◌≡◌, Bool}
use Rattle.std.proofs.Math.Path.{refl, ap}
use Rattle.std.proofs.Common.{sym, ◌∙◌}
use mathlib.Core.List.{List, [], ◌++◌, flat_map, append-nil, append_assoc}
use Rattle.std.proofs.Math.Bool.{true, false, cond}
use Rattle.std.proofs.Math.ListN.{length}
use borrow.Author.Tests.{lt-ltb, le-ltb}
use Rattle.lists.specs.Lists.{rising}
use Rattle.lists.proofs.laws.SelectedLaws.{rising-in}
use Rattle.lists.proofs.laws.GivenLaws.{rising-both, by_places, flat_map-map, flat_map_append, flat_map-same, flat_map-from, flat_map-rows}
use Rattle.rule.specs.Records.{Vid}
use Rattle.rule.specs.Plan.{Plan, vid_at}
use Rattle.rule.specs.Calls.{plan_entries}
use Rattle.listing_lines.specs.Listing.{path_lines, entry_lines, load_report, has_traffic, plan_listing}
use Rattle.listing_parts.specs.Parts.{pair_count, part_count, listing_part}

module _ (p : Plan) where
  abbrev bridges : List ℕ
  bridges = rising 0 (length p.bridges)

  pub path_part : (i : ℕ) → i < pair_count p
      → listing_part p (suc i) ≡ path_lines p (vid_at p (i / length p.bridges)).vid (i % length p.bridges)
  unfolding listing_part
  path_part i l = rw (lt-ltb i (pair_count p) l) refl

  pub entry_part : (i : ℕ) → pair_count p ≤ i → i < pair_count p + length p.bridges
      → listing_part p (suc i) ≡ entry_lines (i - pair_count p) (plan_entries p (i - pair_count p))
  unfolding listing_part
  entry_part i l h = rw (le-ltb i (pair_count p) l, lt-ltb i (pair_count p + length p.bridges) h) refl

  pub report_part : (i : ℕ) → pair_count p + length p.bridges ≤ i → listing_part p (suc i) ≡ load_report p
  unfolding listing_part
  report_part i l =
      rw (le-ltb i (pair_count p) (omega (arith, l)), le-ltb i (pair_count p + length p.bridges) l) refl

  path-parts : flat_map (λ i. listing_part p (suc i)) (rising 0 (pair_count p)) ≡ flat_map (λ v. flat_map (path_lines p v.vid) bridges) p.vids
  path-parts =
      flat_map-same (λ i. listing_part p (suc i)) (λ i. path_lines p (vid_at p (i / length p.bridges)).vid (i % length p.bridges)) (rising 0 (pair_count p))
      (λ i k. path_part i (omega (arith, (rising-in 0 (pair_count p) i k).1)))
      ∙ flat_map-rows (λ k a. path_lines p (vid_at p k).vid a) (length p.vids) (length p.bridges)
      ∙ sym (flat_map-map (λ (v : Vid). flat_map (path_lines p v.vid) bridges) (vid_at p) (rising 0 (length p.vids)))
      ∙ ap (flat_map (λ v. flat_map (path_lines p v.vid) bridges)) (by_places p.vids (record { vid = 0; index = 0 }))

  entry-parts : flat_map (λ i. listing_part p (suc i)) (rising (0 + pair_count p) (length p.bridges)) ≡ flat_map (λ b. entry_lines b (plan_entries p b)) bridges
  entry-parts =
      flat_map-from (λ i. listing_part p (suc i)) (0 + pair_count p) (length p.bridges)
      ∙ flat_map-same (λ b. listing_part p (suc (0 + pair_count p + b))) (λ b. entry_lines b (plan_entries p b)) bridges
      (λ b k. entry_part (0 + pair_count p + b) (omega arith) (omega (arith, (rising-in 0 (length p.bridges) b k).1))
      ∙ ap (λ (c : ℕ). entry_lines c (plan_entries p c)) (let z : 0 + pair_count p + b - pair_count p ≡ b = omega arith in z))

  -- The parts after the counts line: those of pairs and bridges.
  parts-before : flat_map (λ i. listing_part p (suc i)) (rising 0 (pair_count p + length p.bridges))
      ≡ flat_map (λ v. flat_map (path_lines p v.vid) bridges) p.vids ++ flat_map (λ b. entry_lines b (plan_entries p b)) bridges
  parts-before =
      ap (flat_map (λ i. listing_part p (suc i))) (rising-both 0 (pair_count p) (length p.bridges))
      ∙ flat_map_append (λ i. listing_part p (suc i)) (rising 0 (pair_count p)) (rising (0 + pair_count p) (length p.bridges))
      ∙ (λ i. path-parts i ++ entry-parts i)

  -- The load report, where there is one.
  last-parts : (b : Bool) → flat_map (λ i. listing_part p (suc i)) (rising (0 + (pair_count p + length p.bridges)) (cond b 1 0)) ≡ cond b (load_report p) []
  unfolding flat_map rising
  last-parts true = append-nil (listing_part p (suc (0 + (pair_count p + length p.bridges)))) ∙ report_part (0 + (pair_count p + length p.bridges)) (omega arith)
  last-parts false = refl

  -- The parts, one after the other, are what the accepted table prints.
  pub listing-parts : flat_map (listing_part p) (rising 0 (part_count p)) ≡ plan_listing p
  unfolding plan_listing listing_part flat_map rising
  listing-parts =
      ap (λ (n : ℕ). flat_map (listing_part p) (rising 0 n)) (let z : part_count p ≡ suc after = omega arith in z)
      ∙ ap (λ (t : List ℕ). listing_part p 0 ++ t)
      (flat_map-from (listing_part p) 1 after
      ∙ flat_map-same (λ i. listing_part p (1 + i)) (λ i. listing_part p (suc i)) (rising 0 after)
      (λ i k. ap (listing_part p) (let z : 1 + i ≡ suc i = omega arith in z))
      ∙ ap (flat_map (λ i. listing_part p (suc i))) (rising-both 0 (pair_count p + length p.bridges) (cond (has_traffic p) 1 0))
      ∙ flat_map_append (λ i. listing_part p (suc i)) (rising 0 (pair_count p + length p.bridges))
      (rising (0 + (pair_count p + length p.bridges)) (cond (has_traffic p) 1 0))
      ∙ (λ i. parts-before i ++ last-parts (has_traffic p) i)
      ∙ append_assoc (flat_map (λ v. flat_map (path_lines p v.vid) bridges) p.vids) (flat_map (λ b. entry_lines b (plan_entries p b)) bridges)
      (cond (has_traffic p) (load_report p) []))
    where
      after : ℕ
      after = pair_count p + length p.bridges + cond (has_traffic p) 1 0
