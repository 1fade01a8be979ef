-- What stands behind the lines of an accepted plan: a `none` line where the path call answers 12, and the entry lines those of the
-- bridge's entries. Assumes nothing.
use Rattle.std.specs.Prelude.{ℕ, ◌<◌, ◌≡◌, Bool, cond}
use Rattle.std.proofs.Common.{sym, ◌∙◌, lt→ltb}
use Rattle.std.proofs.Math.Path.{ap}
use mathlib.Core.List.{List, flat_map}
use Rattle.std.proofs.Math.Option.{Option, none, some}
use Rattle.std.proofs.Math.ListN.{length}
use Rattle.lists.proofs.laws.NumberLaws.{is_true}
use Rattle.rule.specs.Records.{Vid}
use Rattle.rule.specs.Outcome.{answered, refused, refused_as}
use Rattle.rule.specs.Plan.{Plan, known_bridge, vid_record}
use Rattle.rule.specs.PlanLaws.{PlanLaws}
use Rattle.rule.specs.Entries.{Entry, entries_of, entry_list_of}
use Rattle.rule.proofs.laws.EntryLaws.{entries_decoded, entry-fits}
use Rattle.rule.specs.Paths.{chosen_path}
use Rattle.rule.proofs.laws.CallLaws.{refused-not-answered, named-asked}
use Rattle.rule.specs.Calls.{path_found, plan_path, plan_entries}
use Rattle.listing_lines.specs.Listing.{entry_line, entry_lines}

module _ (p : Plan) where
  -- "`none`, VID, from, to where 12": no other refusal is behind a `none` line.
  pub none_is_12 : (vid a b : ℕ) (v : Vid) → vid_record p vid ≡ some v → a < length p.bridges → b < length p.bridges
      → (number : ℕ) (kind : Option ℕ) (at : ℕ) → plan_path p vid a b ≡ refused number kind at → plan_path p vid a b ≡ refused_as 12
  none_is_12 vid a b v e h l number kind at f =
      go (chosen_path p v.index a b) (named-asked p vid v e a b h l)
    where
      go : (o : Option (List ℕ)) → plan_path p vid a b ≡ path_found p o → plan_path p vid a b ≡ refused_as 12
      go none g = g
      go (some path) g = absurd (refused-not-answered (sym f ∙ g))

  -- The entry lines of a bridge are those of its entries.
  pub lines_of_entries : PlanLaws p → (b : ℕ) → b < length p.bridges
      → entry_lines b (plan_entries p b) ≡ flat_map (entry_line b) (entries_of p b)
  unfolding entry_list_of
  lines_of_entries L b h =
      ap (λ (t : Bool). entry_lines b (cond t (answered (record { values = length (entry_list_of p b); words = entry_list_of p b })) (refused_as 11)))
      (is_true (known_bridge p b) (lt→ltb b (length p.bridges) h))
      ∙ ap (λ (es : List Entry). flat_map (entry_line b) es) (entries_decoded (entries_of p b) (entry-fits p L b))
