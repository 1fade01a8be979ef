-- What the labels of a tree answer to the path call is what the plan's chosen paths answer (01, "Calls"). Assumes nothing.
use Rattle.std.specs.Prelude.{ℕ, suc, ◌+◌, ◌≤◌, ◌<◌, length, drop}
use Rattle.std.proofs.Common.{arith, sym, ◌∙◌, subst, inl, inr, eq-eqb, ne_eqb, le-leb}
use Rattle.std.proofs.Math.Path.{◌≡◌, refl, ap}
use mathlib.Core.List.{List, [], ◌∷◌, ◌++◌}
use Rattle.std.proofs.Math.Option.{Option, none, some}
use Rattle.std.proofs.lemmas.Bool.{lt-leb}
use Rattle.lists.specs.Lists.{spliced}
use Rattle.graph.specs.Graph.{Graph, GraphLaws, KeyLaws, cost, hops, cost_onward}
use Rattle.graph.specs.Chosen.{Chosen, chosen}
use Rattle.lists.specs.Members.{In}
use Rattle.graph.proofs.laws.Ranks.{cost-most}
use Rattle.graph.proofs.laws.Paths.{stays-inside}
use Rattle.graph.proofs.laws.ChosenPaths.{chosen-first, chosen-fits}
use Rattle.graph.proofs.laws.Enumeration.{chosen_is, is_chosen}
use Rattle.graph.proofs.laws.Forwarding.{chosen-after}
use Rattle.rule.specs.Outcome.{Outcome, answered, refused_as, Written, lent_to, overwritten}
use Rattle.rule.specs.Answers.{CostAndHops}
use Rattle.rule.specs.Plan.{Plan}
use Rattle.rule.specs.PlanLaws.{PlanLaws}
use Rattle.rule.specs.Links.{graph_of}
use Rattle.rule.proofs.laws.LinkLaws.{graph-laws}
use Rattle.rule.specs.Identifiers.{key_of}
use Rattle.rule.proofs.laws.IdentifierLaws.{key_laws}
use Rattle.rule.specs.Paths.{chosen_path}
use Rattle.rule.specs.Calls.{path_found}
use Rattle.labels.specs.Labels.{no_cost, label_at}
use Rattle.tree.specs.Trees.{SaysPath, TreeOf}
use Rattle.network.specs.Networks.{PlanTree}
use Rattle.network.proofs.laws.NetworkLaws.{hop-usable}
use Rattle.path.specs.Followed.{followed, Inside}
use Rattle.path.proofs.laws.FollowedLaws.{followed-length}
use Rattle.path.specs.Labelled.{labelled_path, Followable}

module _ (g : Graph) (L : GraphLaws g) (key : ℕ → ℕ) (K : KeyLaws g key) (root : ℕ) (labels : List ℕ) (T : TreeOf g key root labels) where
  -- Next hops lead along the chosen path.
  follows : (u : ℕ) (t : List ℕ) → u < g.size → Chosen g key u root (u ∷ t) → followed labels u (suc (length t)) ≡ u ∷ t
  unfolding followed
  follows u [] h P = refl
  follows u (v ∷ t) h P =
      ap (λ (s : List ℕ). u ∷ s)
      (ap (λ (x : ℕ). followed labels x (suc (length t))) next_is ∙ follows v t (stays-inside g L u root (u ∷ v ∷ t) h P.path v (inr (inl refl))) (chosen-after g key u v root t P))
    where
      next_is : (label_at labels u).next ≡ v
      next_is = (subst (λ (o : Option (List ℕ)). SaysPath g o (label_at labels u)) (is_chosen g L key K u root (u ∷ v ∷ t) P) (T.each u h)).2

  pub follows-path : (u : ℕ) (p : List ℕ) → u < g.size → Chosen g key u root p → followed labels u (hops p + 1) ≡ p
  follows-path u p h P = go (chosen-first g key u root p P).0 (chosen-first g key u root p P).1
    where
      go : (t : List ℕ) → p ≡ u ∷ t → followed labels u (hops p + 1) ≡ p
      go t e =
          ap (followed labels u) {x = hops p + 1} {y = suc (length t)} (omega (arith, ap (λ (q : List ℕ). length q) e))
          ∙ follows u t h (subst (λ (q : List ℕ). Chosen g key u root q) e P)
          ∙ sym e

module _ (p : Plan) (L : PlanLaws p) (index root : ℕ) (labels : List ℕ) (T : PlanTree p index root labels) (u : ℕ) (h : u < length p.bridges) where
  -- No path costs as much as what stands for no cost.
  pub path_cheaper : (q : List ℕ) → Chosen (graph_of p) (key_of p index) u root q → (cost (graph_of p) q < no_cost) × (hops q < 64)
  path_cheaper q P = go (chosen-first (graph_of p) (key_of p index) u root q P).0 (chosen-first (graph_of p) (key_of p index) u root q P).1
    where
      go : (t : List ℕ) → q ≡ u ∷ t → (cost (graph_of p) q < no_cost) × (hops q < 64)
      go t e =
          let f : length q ≤ 64 = omega (arith, chosen-fits (graph_of p) (graph-laws p L) (key_of p index) u root q h P, L.bridges.few)
          in let l : length q ≡ suc (length t) = ap (λ (z : List ℕ). length z) e
          in let c : cost (graph_of p) q ≡ cost_onward (graph_of p) u t = ap (cost (graph_of p)) e
          in (omega (arith, cost-most (graph_of p) 16777214 (hop-usable p L) u t), omega arith)

  chosen-says : (q : List ℕ) → chosen (graph_of p) (key_of p index) u root ≡ some q → Chosen (graph_of p) (key_of p index) u root q
  chosen-says q e = chosen_is (graph_of p) (graph-laws p L) (key_of p index) (key_laws p L index) u root q e

  along : (q : List ℕ) → chosen (graph_of p) (key_of p index) u root ≡ some q → followed labels u (hops q + 1) ≡ q
  along q e = follows-path (graph_of p) (graph-laws p L) (key_of p index) (key_laws p L index) root labels T u q h (chosen-says q e)

  -- The label answers what the chosen path answers.
  pub labelled-path : labelled_path labels u ≡ path_found p (chosen_path p index u root)
  unfolding chosen_path
  labelled-path = go (chosen (graph_of p) (key_of p index) u root) refl (T.each u h)
    where
      go : (o : Option (List ℕ)) → chosen (graph_of p) (key_of p index) u root ≡ o → SaysPath (graph_of p) o (label_at labels u)
          → labelled_path labels u ≡ path_found p o
      go none e f = rw (eq-eqb (label_at labels u).cost no_cost f) refl
      go (some q) e (c, s, n, f) =
          let d : ((label_at labels u).cost ≡ no_cost → ⊥) = λ z. omega (arith, (path_cheaper q (chosen-says q e)).0, c)
          in rw (ne_eqb (label_at labels u).cost no_cost d) (made (label_at labels u).cost (label_at labels u).hops c s (along q e))
        where
          made : (label-cost label-hops : ℕ) → label-cost ≡ cost (graph_of p) q → label-hops ≡ hops q → followed labels u (hops q + 1) ≡ q
              → ◌≡◌ {A = Outcome (Written CostAndHops)}
              (answered (record { values = record { cost = label-cost; hops = label-hops }; words = followed labels u (label-hops + 1) }))
              (path_found p (some q))
          made label-cost label-hops c s f = λ i. answered (record {
            values = record { cost = c i; hops = s i };
            words = (ap (λ (k : ℕ). followed labels u (k + 1)) s ∙ f) i;
          })

  pub tree-followable : Followable labels u
  tree-followable = record {
    place = omega (arith, L.bridges.few);
    few = λ d. (go d (chosen (graph_of p) (key_of p index) u root) refl (T.each u h)).0;
    inside = λ d. (go d (chosen (graph_of p) (key_of p index) u root) refl (T.each u h)).1;
  }
    where
      go : ((label_at labels u).cost ≡ no_cost → ⊥) → (o : Option (List ℕ)) → chosen (graph_of p) (key_of p index) u root ≡ o
          → SaysPath (graph_of p) o (label_at labels u) → ((label_at labels u).hops < 64) × Inside labels u ((label_at labels u).hops + 1)
      go d none e f = absurd (d f)
      go d (some q) e (c, s, n, f) =
          let P = chosen-says q e
          in let m : (label_at labels u).hops < 64 = omega (arith, (path_cheaper q P).1)
          in let w : followed labels u ((label_at labels u).hops + 1) ≡ q = ap (λ (k : ℕ). followed labels u (k + 1)) s ∙ along q e
          in (m, λ x i. omega (arith, L.bridges.few, stays-inside (graph_of p) (graph-laws p L) u root q h P.path x (subst (λ (z : List ℕ). In x z) w i)))

module _ (labels : List ℕ) (u : ℕ) (old : List ℕ) where
  pub no_path-labelled : (o : Outcome CostAndHops) → o ≡ refused_as 12 → (label_at labels u).cost ≡ no_cost
      → ◌≡◌ {A = Outcome CostAndHops × List ℕ} (o, old) (lent_to old (labelled_path labels u))
  no_path-labelled o f e = rw (f, eq-eqb (label_at labels u).cost no_cost e) refl

  -- A path, of which `hops` was read, and how many bridges it has.
  module _ (d : (label_at labels u).cost ≡ no_cost → ⊥) {hops count : ℕ} (read-hops : hops ≡ (label_at labels u).hops) (counted : count ≡ hops + 1) where
    count_is : count ≡ (label_at labels u).hops + 1
    count_is = omega arith

    bridges-labelled : length (followed labels u ((label_at labels u).hops + 1)) ≡ (label_at labels u).hops + 1
    bridges-labelled = followed-length labels u ((label_at labels u).hops + 1)

    pub bridges-inside : Followable labels u → Inside labels u count
    bridges-inside F = rw count_is (F.inside d)

    pub list_too_short : (o : Outcome CostAndHops) → o ≡ refused_as 13 → length old < count
        → ◌≡◌ {A = Outcome CostAndHops × List ℕ} (o, old) (lent_to old (labelled_path labels u))
    list_too_short o f h =
        rw (f, ne_eqb (label_at labels u).cost no_cost d, bridges-labelled, lt-leb ((label_at labels u).hops + 1) (length old) (omega arith)) refl

    pub path-written : {cost : ℕ} → cost ≡ (label_at labels u).cost → (new : List ℕ) → count ≤ length old
        → new ≡ spliced old 0 (followed labels u count)
        → ◌≡◌ {A = Outcome CostAndHops × List ℕ}
        (answered (record { cost = cost; hops = hops }), new)
        (lent_to old (labelled_path labels u))
    path-written read-cost new h e =
        rw (ne_eqb (label_at labels u).cost no_cost d, le-leb (length (followed labels u ((label_at labels u).hops + 1))) (length old) (omega (arith, bridges-labelled)))
        (λ i. (answered (record { cost = read-cost i; hops = read-hops i }), (e ∙ ap (λ (k : ℕ). spliced old 0 (followed labels u k)) count_is ∙ front) i))
      where
        front : spliced old 0 (followed labels u ((label_at labels u).hops + 1)) ≡ overwritten (followed labels u ((label_at labels u).hops + 1)) old
        front =
            ap (λ (k : ℕ). followed labels u ((label_at labels u).hops + 1) ++ drop k old)
            {x = 0 + length (followed labels u ((label_at labels u).hops + 1))} {y = length (followed labels u ((label_at labels u).hops + 1))}
            (omega arith)
