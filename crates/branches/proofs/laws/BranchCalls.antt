-- What the labels of the tree that the tree call names answer is what the plan answers to it. Assumes nothing.
use Rattle.std.specs.Prelude.{ℕ, ◌≡◌, refl, List, Bool, true, false, cond, ◌&&◌, length}
use Rattle.std.proofs.Common.{ap, ◌∙◌}
use Rattle.rule.specs.Outcome.{Outcome, answered, refused_as}
use Rattle.rule.specs.Plan.{Plan, known_bridge, vid_record}
use Rattle.rule.specs.PlanLaws.{PlanLaws}
use Rattle.rule.specs.Calls.{plan_branches, Branch, tree_of, lent_to_three}
use Rattle.table.specs.Numbered.{index_of}
use Rattle.path.specs.Named.{NamedTree}
use Rattle.path.proofs.laws.NamedLaws.{not_named, is_named_lem}
use Rattle.branches.specs.Branches.{labelled_branches}
use Rattle.branches.proofs.laws.BranchLaws.{labelled_branches_lem}

module _ (p : Plan) (L : PlanLaws p) (vid a : ℕ) {index : ℕ} {labels : List ℕ} (N : NamedTree p vid a a index labels) where
  once : index ≡ cond (known_bridge p a) (index_of (vid_record p vid)) 0
  once = N.index_is ∙ ap (λ (k : Bool). cond k (index_of (vid_record p vid)) 0) (same (known_bridge p a))
    where
      same : (k : Bool) → k && k ≡ k
      same false = refl
      same true = refl

  pub no_branches_named : (o : Outcome ℕ) → o ≡ refused_as 11 → (costs hop_counts lasts : List ℕ) → index ≡ 0
      → ◌≡◌ {A = Outcome ℕ × List ℕ × List ℕ × List ℕ} (o, costs, hop_counts, lasts) (lent_to_three costs hop_counts lasts (plan_branches p vid a))
  no_branches_named o f costs hop_counts lasts e =
      rw f
      (ap (λ (x : Outcome (List Branch)). lent_to_three costs hop_counts lasts x)
      (not_named p L vid (λ i. answered (tree_of p i a)) (known_bridge p a) index once e))

  pub named_branches : (n : ℕ) → n ≡ length p.bridges → (index ≡ 0 → ⊥) → answered (labelled_branches labels n) ≡ plan_branches p vid a
  named_branches n e d =
      ap (λ (k : ℕ). answered (labelled_branches labels k)) e
      ∙ ap answered (labelled_branches_lem p L index a labels (N.tree_is d))
      ∙ is_named_lem p L vid (λ i. answered (tree_of p i a)) (known_bridge p a) index once d
