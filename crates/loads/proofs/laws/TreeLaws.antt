-- The path that the labels of a tree have is the chosen one, and it comes to no bridge twice. Assumes nothing.
use Rattle.std.specs.Prelude.{ℕ, ◌+◌, ◌<◌, ◌≡◌, length}
use Rattle.std.proofs.Common.{arith, sym, ap, ◌∙◌, subst, eq-eqb, ne_eqb}
use Rattle.std.proofs.Math.Path.{refl}
use mathlib.Core.List.{List, [], ◌∷◌}
use Rattle.std.proofs.Math.Option.{Option, none, some}
use Rattle.lists.specs.Members.{In, EveryTwo}
use Rattle.lists.proofs.laws.ListNotions.{Distinct}
use Rattle.graph.specs.Graph.{hops}
use Rattle.graph.specs.Chosen.{Chosen, chosen}
use Rattle.graph.proofs.laws.ChosenPaths.{chosen-distinct}
use Rattle.graph.proofs.laws.Enumeration.{chosen_is}
use Rattle.rule.specs.Plan.{Plan}
use Rattle.rule.specs.PlanLaws.{PlanLaws}
use Rattle.rule.specs.Links.{graph_of}
use Rattle.rule.specs.Identifiers.{key_of}
use Rattle.rule.specs.Paths.{chosen_path}
use Rattle.rule.proofs.laws.LinkLaws.{graph-laws}
use Rattle.rule.proofs.laws.IdentifierLaws.{key_laws}
use Rattle.labels.specs.Labels.{no_cost, label_at}
use Rattle.tree.specs.Trees.{SaysPath}
use Rattle.network.specs.Networks.{PlanTree}
use Rattle.path.specs.Followed.{followed}
use Rattle.path.proofs.laws.LabelledLaws.{follows-path, path_cheaper, tree-followable}
use Rattle.loads.specs.Sums.{Passable, labelled_option}

-- A list that has nothing twice has no two equal.
distinct-once : (xs : List ℕ) → Distinct xs → EveryTwo (λ x y. x ≡ y → ⊥) xs
distinct-once [] d = tt
distinct-once (x ∷ xs) d = (λ y i e. d.0 (subst (λ (z : ℕ). In z xs) (sym e) i), distinct-once xs d.1)

module _ (p : Plan) (L : PlanLaws p) (index root : ℕ) (labels : List ℕ) (T : PlanTree p index root labels) (u : ℕ) (h : u < length p.bridges) where
  says : (path : List ℕ) → chosen (graph_of p) (key_of p index) u root ≡ some path → Chosen (graph_of p) (key_of p index) u root path
  says path e = chosen_is (graph_of p) (graph-laws p L) (key_of p index) (key_laws p L index) u root path e

  leads : (path : List ℕ) → (label_at labels u).hops ≡ hops path → Chosen (graph_of p) (key_of p index) u root path
      → followed labels u ((label_at labels u).hops + 1) ≡ path
  leads path e P =
      ap (λ (n : ℕ). followed labels u (n + 1)) e
      ∙ follows-path (graph_of p) (graph-laws p L) (key_of p index) (key_laws p L index) root labels T u path h P

  pub labelled_option_lem : labelled_option labels u ≡ chosen_path p index u root
  unfolding chosen_path
  labelled_option_lem = go (chosen (graph_of p) (key_of p index) u root) refl (T.each u h)
    where
      go : (o : Option (List ℕ)) → chosen (graph_of p) (key_of p index) u root ≡ o → SaysPath (graph_of p) o (label_at labels u) → labelled_option labels u ≡ o
      go none e f = rw (eq-eqb (label_at labels u).cost no_cost f) refl
      go (some path) e (c, s, n, f) =
          rw (ne_eqb (label_at labels u).cost no_cost (λ z. omega (arith, (path_cheaper p L index root labels T u h path (says path e)).0, c)))
          (ap (λ (q : List ℕ). some q) (leads path s (says path e)))

  pub passable : Passable labels u
  passable = record { followable = tree-followable p L index root labels T u h; once = λ d. go d (chosen (graph_of p) (key_of p index) u root) refl (T.each u h) }
    where
      go : ((label_at labels u).cost ≡ no_cost → ⊥) → (o : Option (List ℕ)) → chosen (graph_of p) (key_of p index) u root ≡ o
          → SaysPath (graph_of p) o (label_at labels u) → EveryTwo (λ x y. x ≡ y → ⊥) (followed labels u ((label_at labels u).hops + 1))
      go d none e f = absurd (d f)
      go d (some path) e (c, s, n, f) =
          subst (EveryTwo (λ x y. x ≡ y → ⊥)) (sym (leads path s (says path e)))
          (distinct-once path (chosen-distinct (graph_of p) (key_of p index) u root path (says path e)))
