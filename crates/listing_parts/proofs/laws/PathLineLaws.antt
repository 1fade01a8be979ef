-- The path lines of one VID and from (01, "Listing program"), pair by pair, by the trees of its network.
-- Assumes nothing.
use Rattle.std.specs.Prelude.{ℕ, ◌*◌, ◌≤◌, ◌<◌, ◌≡◌, List, eqb, length}
use Rattle.std.proofs.Common.{arith, ap, subst, ◌∙◌, eq-eqb, ne_eqb}
use Rattle.std.proofs.Math.Path.{refl, sym}
use Rattle.std.proofs.Math.Bool.{not}
use Rattle.lists.specs.Lists.{rising}
use Rattle.lists.specs.Members.{In}
use Rattle.lists.proofs.laws.GivenLaws.{flat_map-selected}
use Rattle.lists.specs.Appending.{Appended, each_of}
use Rattle.lists.proofs.laws.AppendingLaws.{appended_nothing, AppendingFew, few-ends}
use Rattle.rule.specs.Words.{words_of}
use Rattle.rule.specs.Records.{Vid}
use Rattle.rule.specs.Plan.{Plan}
use Rattle.rule.specs.Calls.{plan_path}
use Rattle.rule.proofs.laws.CallLaws.{named-asked, vid-found}
use Rattle.table.specs.declared.shape.Shape.{Shape}
use Rattle.table.specs.Positions.{plan_at}
use Rattle.network.specs.Networks.{TableNetwork, TreeIn}
use Rattle.path.specs.Labelled.{labelled_path, Followable}
use Rattle.path.proofs.laws.LabelledLaws.{labelled-path, tree-followable}
use Rattle.table.specs.Numbered.{vid_number}
use Rattle.verdict.proofs.laws.CheckedLaws.{bridges-counted}
use Rattle.entry_rows.proofs.laws.NeededLaws.{vid-listed}
use Rattle.listing_lines.specs.Listing.{path_line, path_lines}
use Rattle.listing_parts.proofs.laws.PairLines.{pair_line}

module _ (p : Plan) (vid a : ℕ) where
  pub one-bridge : (b : ℕ) → b ≡ a → (lent : List ℕ) (at : ℕ) → Appended lent at (pair_line p vid a b) lent at
  unfolding pair_line
  one-bridge b e lent at = rw (eq-eqb b a e) (appended_nothing lent at)

  pub two-bridges : (b : ℕ) → (b ≡ a → ⊥) → pair_line p vid a b ≡ path_line vid a b (plan_path p vid a b)
  unfolding pair_line
  two-bridges b d = rw (ne_eqb b a d) refl

  pub all_pairs : each_of (pair_line p vid a) (length p.bridges) ≡ path_lines p vid a
  unfolding pair_line path_lines
  all_pairs = sym (flat_map-selected (λ b. path_line vid a b (plan_path p vid a b)) (λ b. not (eqb b a)) (rising 0 (length p.bridges)))

module _ {t : List ℕ} {s : Shape} {net : List ℕ} (L : TableNetwork t s net) where
  module _ (k : ℕ) (known-vid : k < s.vids) (v : Vid) (e : v ≡ vid_number (words_of t) s k) where
    vid-in : In v (plan_at (words_of t) s).vids
    vid-in = subst (λ (w : Vid). In w (plan_at (words_of t) s).vids) (sym e) (vid-listed L.checked k known-vid)

    pub index-fits : (1 ≤ v.index) × (v.index ≤ 16)
    index-fits = let F = L.checked.laws.vids.fits v vid-in in (F.least_index, F.greatest_index)

    module _ (a b : ℕ) (known_a : a < s.bridges) (known-b : b < s.bridges) {labels : List ℕ}
        (T : TreeIn net v.index b labels) where
      abbrev plan : Plan
      plan = plan_at (words_of t) s

      pub pair-followable : Followable labels a
      pair-followable = tree-followable plan L.checked.laws v.index b labels (T.of_plan plan L.network) a (omega (arith, bridges-counted L.checked))

      -- The labels answer what the path call answers.
      pub pair-answer : labelled_path labels a ≡ plan_path plan v.vid a b
      pair-answer =
          labelled-path plan L.checked.laws v.index b labels (T.of_plan plan L.network) a (omega (arith, bridges-counted L.checked))
          ∙ sym (named-asked plan v.vid v (vid-found plan L.checked.laws v vid-in) a b (omega (arith, bridges-counted L.checked)) (omega (arith, bridges-counted L.checked)))

      pub pair-written : (b ≡ a → ⊥) → {at next : ℕ} {before after : List ℕ}
          → Appended before at (path_line v.vid a b (labelled_path labels a)) after next
          → Appended before at (pair_line plan (vid_number (words_of t) s k).vid a b) after next
      pair-written d {at} {next} {before} {after} w =
          subst (λ (x : List ℕ). Appended before at x after next)
          (ap (path_line v.vid a b) pair-answer ∙ sym (two-bridges plan v.vid a b d) ∙ ap (λ (w : Vid). pair_line plan w.vid a b) e) w

  -- The lines of all pairs are the path lines.
  pub pairs_written : (vid a : ℕ) {to next : ℕ} {before after : List ℕ} → AppendingFew (pair_line (plan_at (words_of t) s) vid a) 764 s.bridges before 0 to after next
      → 764 * s.bridges ≤ length before → s.bridges ≤ to → Appended before 0 (path_lines (plan_at (words_of t) s) vid a) after next × (next ≤ 764 * s.bridges)
  pairs_written vid a {to} {next} {before} {after} A room l =
      let E = few-ends A (omega arith) l
      in (rw (sym (all_pairs (plan_at (words_of t) s) vid a), bridges-counted L.checked) E.0, omega (arith, E.1))
