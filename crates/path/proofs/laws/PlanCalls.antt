-- What the labels of the tree that a call names answer is what the plan answers to that call: path and path cost. Assumes nothing.
use Rattle.std.specs.Prelude.{ℕ, ◌+◌, ◌<◌, ◌≡◌, refl, List, ◌&&◌, length}
use Rattle.std.proofs.Common.{ap, ◌∙◌, eq-eqb, ne_eqb}
use Rattle.rule.specs.Outcome.{Outcome, refused_as, Written, lent_to}
use Rattle.rule.specs.Answers.{CostAndHops}
use Rattle.rule.specs.Plan.{Plan, known_bridge}
use Rattle.rule.specs.PlanLaws.{PlanLaws}
use Rattle.rule.specs.Paths.{chosen_path}
use Rattle.rule.specs.Calls.{plan_path, path_found}
use Rattle.rule.specs.Exported.{cost_number}
use Rattle.labels.specs.Labels.{no_cost, label_at}
use Rattle.path.specs.Labelled.{labelled_path, Followable}
use Rattle.path.proofs.laws.LabelledLaws.{labelled-path, tree-followable}
use Rattle.path.specs.Named.{NamedTree}
use Rattle.path.proofs.laws.NamedLaws.{not_named, is_named_lem, known_from}

module _ (p : Plan) (L : PlanLaws p) (vid a b : ℕ) {index : ℕ} {labels : List ℕ} (N : NamedTree p vid a b index labels) where
  from_known : (index ≡ 0 → ⊥) → a < length p.bridges
  from_known d = known_from p vid a b (λ e. d (N.index_is ∙ e))

  pub nothing-named : (o : Outcome CostAndHops) → o ≡ refused_as 11 → (old : List ℕ) → index ≡ 0
      → ◌≡◌ {A = Outcome CostAndHops × List ℕ} (o, old) (lent_to old (plan_path p vid a b))
  nothing-named o f old e =
      rw f
      (ap (λ (o : Outcome (Written CostAndHops)). lent_to old o)
      (not_named p L vid (λ i. path_found p (chosen_path p i a b)) (known_bridge p a && known_bridge p b) index N.index_is e))

  pub named-followable : (index ≡ 0 → ⊥) → Followable labels a
  named-followable d = tree-followable p L index b labels (N.tree_is d) a (from_known d)

  pub named-path : (index ≡ 0 → ⊥) → labelled_path labels a ≡ plan_path p vid a b
  named-path d =
      labelled-path p L index b labels (N.tree_is d) a (from_known d)
      ∙ is_named_lem p L vid (λ i. path_found p (chosen_path p i a b)) (known_bridge p a && known_bridge p b) index N.index_is d

  -- The number that exported path cost gives.
  pub nothing-named-number : index ≡ 0 → 4294967296 + 11 ≡ cost_number (plan_path p vid a b)
  nothing-named-number e =
      ap cost_number (not_named p L vid (λ i. path_found p (chosen_path p i a b)) (known_bridge p a && known_bridge p b) index N.index_is e)

  pub no_path-number : (index ≡ 0 → ⊥) → (label_at labels a).cost ≡ no_cost → 4294967296 + 12 ≡ cost_number (plan_path p vid a b)
  no_path-number d e =
      let f : 4294967296 + 12 ≡ cost_number (labelled_path labels a) = rw (eq-eqb (label_at labels a).cost no_cost e) refl
      in f ∙ ap cost_number (named-path d)

  pub path-number : (index ≡ 0 → ⊥) → ((label_at labels a).cost ≡ no_cost → ⊥) → (label_at labels a).cost ≡ cost_number (plan_path p vid a b)
  path-number d e =
      let f : (label_at labels a).cost ≡ cost_number (labelled_path labels a) = rw (ne_eqb (label_at labels a).cost no_cost e) refl
      in f ∙ ap cost_number (named-path d)
