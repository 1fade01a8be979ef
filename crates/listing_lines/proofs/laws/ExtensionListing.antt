-- "neighbours' own trees ignore it" (02, A6): the listings of two accepted tables that differ in the extensions of priorities alone are the
-- same, byte by byte. Assumes nothing.
use Rattle.std.specs.Prelude.{ℕ, ◌≡◌, eqb, length}
use Rattle.std.proofs.Common.{sym, ap, ◌∙◌}
use mathlib.Core.List.{List, [], ◌++◌, flat_map}
use Rattle.std.proofs.Math.Bool.{not, cond}
use Rattle.lists.specs.Lists.{rising, selected}
use Rattle.graph.specs.Pairs.{joined_pairs}
use Rattle.rule.specs.Outcome.{answered}
use Rattle.rule.specs.Plan.{Plan}
use Rattle.rule.specs.Check.{verdict}
use Rattle.rule.specs.Links.{count_usable}
use Rattle.rule.specs.Loads.{own_indexes}
use Rattle.rule.specs.Calls.{counts_of}
use Rattle.rule.specs.Extensions.{without_extensions}
use Rattle.rule.proofs.laws.ExtensionLaws.{same_size, same_graph, plain-path, plain_entries, plain_load, plain-total, plain-lost}
use Rattle.text.specs.Text.{line}
use Rattle.check_text.specs.CheckText.{counts_word, counts_fields}
use Rattle.listing_lines.specs.Listing.{path_line, path_lines, entry_lines, load_line, sum_lines, load_report, has_traffic, plan_listing, verdict_listing, listing}

module _ (p : Plan) where
  abbrev plain : Plan
  plain = without_extensions p

  same-counts : counts_of plain ≡ counts_of p
  same-counts = λ i. record {
    bridges = same_size p i;
    half_links = length p.half_links;
    usable_links = count_usable p.half_links;
    vids = length p.vids;
    members = length p.members;
  }

  same-paths : (vid a : ℕ) → path_lines plain vid a ≡ path_lines p vid a
  unfolding path_lines
  same-paths vid a = λ i.
      flat_map (λ b. path_line vid a b (plain-path p vid a b i)) (selected (λ b. not (eqb b a)) (rising 0 (same_size p i)))

  same_report : load_report plain ≡ load_report p
  unfolding load_report
  same_report = λ i.
      flat_map (load_line (λ q. plain_load p (own_indexes p) p.traffic q i)) (joined_pairs (same_graph p i))
      ++ sum_lines (plain-total p (own_indexes p) p.traffic i) (plain-lost p (own_indexes p) p.traffic i)

  same-listing : plan_listing plain ≡ plan_listing p
  unfolding plan_listing
  same-listing = λ i.
      line counts_word (counts_fields (same-counts i))
      ++ (flat_map (λ v. flat_map (λ a. same-paths v.vid a i) (rising 0 (same_size p i))) p.vids
      ++ (flat_map (λ b. entry_lines b (plain_entries p b i)) (rising 0 (same_size p i))
      ++ cond (has_traffic p) (same_report i) []))

pub listing_ignores_extensions : (t u : List ℕ) (p q : Plan) → verdict t ≡ answered p → verdict u ≡ answered q
    → without_extensions p ≡ without_extensions q → listing t ≡ listing u
unfolding listing
listing_ignores_extensions t u p q e f w =
    ap verdict_listing e ∙ sym (same-listing p) ∙ ap plan_listing w ∙ same-listing q ∙ ap verdict_listing (sym f)
