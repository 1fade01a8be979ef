-- The places of the bridges by the labels of a tree are the places of the plan (the tree call: docs/DECISIONS.md). Assumes nothing.
use Rattle.std.specs.Prelude.{ℕ, ◌+◌, ◌-◌, ◌≤◌, ◌<◌, ◌≡◌, true, false, ◌&&◌, leb, set, drop}
use Rattle.std.proofs.Common.{arith, add-one, sym, ap, ◌∙◌, inl, inr, length-set, eq-eqb, ne_eqb, le-leb}
use Rattle.std.proofs.Math.Path.{refl}
use mathlib.Core.List.{List, [], ◌∷◌, ◌++◌, map, reverse, append_assoc, map-append, reverse-cons}
use Rattle.std.proofs.Math.Option.{Option, none, some}
use Rattle.std.proofs.Math.ListN.{length}
use Rattle.std.proofs.lemmas.List.{length-map, length-reverse}
use Rattle.std.proofs.lemmas.Bool.{lt-leb}
use Rattle.lists.specs.Lists.{rising, spliced}
use Rattle.lists.specs.Members.{In}
use Rattle.lists.proofs.laws.SelectedLaws.{rising-in, length-rising}
use Rattle.lists.proofs.laws.Searching.{rising-more}
use Rattle.lists.proofs.laws.Splices.{spliced-nothing, spliced-next}
use Rattle.graph.specs.Graph.{GraphLaws, KeyLaws, cost, hops}
use Rattle.graph.proofs.laws.Ranks.{cost-reverse}
use Rattle.graph.specs.Chosen.{chosen}
use Rattle.graph.proofs.laws.ChosenPaths.{chosen-first, chosen-reverse}
use Rattle.graph.proofs.laws.Enumeration.{chosen_is, is_chosen, none_no_path, no_path-none}
use Rattle.graph.proofs.laws.Paths.{path-reverse}
use Rattle.rule.specs.Outcome.{Outcome, answered, refused_as, overwritten}
use Rattle.rule.specs.Plan.{Plan}
use Rattle.rule.specs.PlanLaws.{PlanLaws}
use Rattle.rule.specs.Links.{graph_of}
use Rattle.rule.proofs.laws.LinkLaws.{graph-laws}
use Rattle.rule.specs.Identifiers.{key_of}
use Rattle.rule.proofs.laws.IdentifierLaws.{key_laws}
use Rattle.rule.specs.Paths.{chosen_path}
use Rattle.rule.specs.Calls.{Branch, last_but_one, branch_of, tree_of, lent_to_three}
use Rattle.labels.specs.Labels.{no_cost, label_at}
use Rattle.tree.specs.Trees.{SaysPath, next_of}
use Rattle.network.specs.Networks.{PlanTree}
use Rattle.path.proofs.laws.LabelledLaws.{path_cheaper}
use Rattle.branches.specs.Branches.{branch_at, BranchesWritten, labelled_branches}

-- One number of each of the first `i` bridges is written to the front of the list.
pub record Filling (f : ℕ → ℕ) (before now : List ℕ) (n i : ℕ) : Type 0 where
  pub within : i ≤ n
  pub same_length : length now ≡ length before
  pub written : now ≡ spliced before 0 (map f (rising 0 i))

pub filling_starts : (f : ℕ → ℕ) (before : List ℕ) (n : ℕ) → Filling f before before n 0
unfolding rising
filling_starts f before n = record { within = omega arith; same_length = refl; written = sym (spliced-nothing before 0) }

module _ {f : ℕ → ℕ} {before now : List ℕ} {n i : ℕ} (F : Filling f before now n i) where
  pub filling_on : (a : ℕ) → n ≤ length before → i < n → a ≡ f i → Filling f before (set now i a) n (i + 1)
  filling_on a room h e =
      record {
        within = omega arith;
        same_length = length-set now i a ∙ F.same_length;
        written =
            ap (λ (t : List ℕ). set t i a) F.written
            ∙ ap (λ (k : ℕ). set (spliced before 0 (map f (rising 0 i))) k a) {x = i} {y = 0 + length (map f (rising 0 i))} (omega (arith, many))
            ∙ spliced-next before 0 (map f (rising 0 i)) a (omega (arith, many))
            ∙ ap (λ (t : List ℕ). spliced before 0 t) one_more;
      }
    where
      many : length (map f (rising 0 i)) ≡ i
      many = length-map (rising 0 i) f ∙ length-rising 0 i

      one_more : map f (rising 0 i) ++ (a ∷ []) ≡ map f (rising 0 (i + 1))
      one_more =
          ap (λ (x : ℕ). map f (rising 0 i) ++ (x ∷ [])) (e ∙ ap f (omega arith))
          ∙ sym (map-append f (rising 0 i) ((0 + i) ∷ []))
          ∙ ap (map f) (sym (rising-more 0 i) ∙ ap (rising 0) (sym (add-one i)))

  pub filling_ends : n ≤ i → now ≡ spliced before 0 (map f (rising 0 n))
  filling_ends h = F.written ∙ ap (λ (k : ℕ). spliced before 0 (map f (rising 0 k))) {x = i} {y = n} (omega (arith, F.within))

module _ (labels : List ℕ) (n : ℕ) (costs hop_counts lasts : List ℕ) where
  many : length (labelled_branches labels n) ≡ n
  many = length-map (rising 0 n) (branch_at labels) ∙ length-rising 0 n

  short : (o : Outcome ℕ) → o ≡ refused_as 13 → leb n (length costs) && leb n (length hop_counts) && leb n (length lasts) ≡ false
      → ◌≡◌ {A = Outcome ℕ × List ℕ × List ℕ × List ℕ} (o, costs, hop_counts, lasts) (lent_to_three costs hop_counts lasts (answered (labelled_branches labels n)))
  short o f e = rw (f, many, e) refl

  pub short-costs : (o : Outcome ℕ) → o ≡ refused_as 13 → length costs < n
      → ◌≡◌ {A = Outcome ℕ × List ℕ × List ℕ × List ℕ} (o, costs, hop_counts, lasts) (lent_to_three costs hop_counts lasts (answered (labelled_branches labels n)))
  short-costs o f h = short o f (rw (lt-leb n (length costs) h) refl)

  pub short-hops : (o : Outcome ℕ) → o ≡ refused_as 13 → n ≤ length costs → length hop_counts < n
      → ◌≡◌ {A = Outcome ℕ × List ℕ × List ℕ × List ℕ} (o, costs, hop_counts, lasts) (lent_to_three costs hop_counts lasts (answered (labelled_branches labels n)))
  short-hops o f l h = short o f (rw (le-leb n (length costs) l, lt-leb n (length hop_counts) h) refl)

  pub short_lasts : (o : Outcome ℕ) → o ≡ refused_as 13 → n ≤ length costs → n ≤ length hop_counts → length lasts < n
      → ◌≡◌ {A = Outcome ℕ × List ℕ × List ℕ × List ℕ} (o, costs, hop_counts, lasts) (lent_to_three costs hop_counts lasts (answered (labelled_branches labels n)))
  short_lasts o f l m h = short o f (rw (le-leb n (length costs) l, le-leb n (length hop_counts) m, lt-leb n (length lasts) h) refl)

  -- One number of each place, over the front of a list.
  front : (f : ℕ → ℕ) (field : Branch → ℕ) → ((u : ℕ) → f u ≡ field (branch_at labels u)) → (old : List ℕ)
      → spliced old 0 (map f (rising 0 n)) ≡ overwritten (map field (labelled_branches labels n)) old
  front f field e old =
      ap (λ (k : ℕ). map f (rising 0 n) ++ drop k old) {x = 0 + length (map f (rising 0 n))} {y = length (map f (rising 0 n))} (omega arith)
      ∙ ap (λ (t : List ℕ). overwritten t old) (fields (rising 0 n))
    where
      fields : (us : List ℕ) → map f us ≡ map field (map (branch_at labels) us)
      fields [] = refl
      fields (u ∷ us) = λ i. e u i ∷ fields us i

  pub branches_written : (costs' hop_counts' lasts' : List ℕ) → n ≤ length costs → n ≤ length hop_counts → n ≤ length lasts
      → BranchesWritten labels n costs hop_counts lasts costs' hop_counts' lasts'
      → ◌≡◌ {A = Outcome ℕ × List ℕ × List ℕ × List ℕ} (answered n, costs', hop_counts', lasts') (lent_to_three costs hop_counts lasts (answered (labelled_branches labels n)))
  branches_written costs' hop_counts' lasts' h k l W =
      rw (fits) (λ i. (
        answered (sym many i),
        (W.costs_are ∙ front (λ u. (branch_at labels u).cost) (λ q. q.cost) (λ u. refl) costs) i,
        (W.hops_are ∙ front (λ u. (branch_at labels u).hops) (λ q. q.hops) (λ u. refl) hop_counts) i,
        (W.lasts_are ∙ front (λ u. (branch_at labels u).last) (λ q. q.last) (λ u. refl) lasts) i,
      ))
    where
      fits : leb (length (labelled_branches labels n)) (length costs) && leb (length (labelled_branches labels n)) (length hop_counts) && leb (length (labelled_branches labels n)) (length lasts) ≡ true
      fits = rw many (rw (le-leb n (length costs) h, le-leb n (length hop_counts) k, le-leb n (length lasts) l) refl)

-- The last bridge but one of a path is the second of the way back.
last-behind : (xs : List ℕ) (v u : ℕ) → last_but_one (xs ++ (v ∷ u ∷ [])) ≡ v
unfolding last_but_one
last-behind [] v u = refl
last-behind (x ∷ []) v u = refl
last-behind (x ∷ y ∷ []) v u = refl
last-behind (x ∷ y ∷ z ∷ xs) v u = last-behind (y ∷ z ∷ xs) v u

last_of_reverse : (u : ℕ) (t : List ℕ) → last_but_one (reverse (u ∷ t)) ≡ next_of (u ∷ t)
unfolding last_but_one
last_of_reverse u [] = refl
last_of_reverse u (v ∷ t) =
    ap last_but_one (reverse-cons u (v ∷ t) ∙ ap (λ (s : List ℕ). s ++ (u ∷ [])) (reverse-cons v t) ∙ append_assoc (reverse t) (v ∷ []) (u ∷ []))
    ∙ last-behind (reverse t) v u

module _ (p : Plan) (L : PlanLaws p) (index a : ℕ) (labels : List ℕ) (T : PlanTree p index a labels) where
  one-branch : (u : ℕ) → u < length p.bridges → branch_at labels u ≡ branch_of p (chosen_path p index a u)
  unfolding chosen_path
  one-branch u h = go (chosen (graph_of p) (key_of p index) u a) refl (T.each u h)
    where
      G : GraphLaws (graph_of p)
      G = graph-laws p L

      K : KeyLaws (graph_of p) (key_of p index)
      K = key_laws p L index

      absent : ◌≡◌ {A = Branch} (branch_at labels u) (record { cost = 0; hops = 0; last = 65535 }) → chosen (graph_of p) (key_of p index) u a ≡ none
          → branch_at labels u ≡ branch_of p (chosen (graph_of p) (key_of p index) a u)
      absent e f = e ∙ ap (branch_of p) (sym (no_path-none (graph_of p) G (key_of p index) a u
          (λ q o. none_no_path (graph_of p) G (key_of p index) u a f (reverse q) (path-reverse (graph_of p) G a u q o))))

      go : (o : Option (List ℕ)) → chosen (graph_of p) (key_of p index) u a ≡ o → SaysPath (graph_of p) o (label_at labels u)
          → branch_at labels u ≡ branch_of p (chosen (graph_of p) (key_of p index) a u)
      go none e f = absent (rw (eq-eqb (label_at labels u).cost no_cost f) refl) e
      go (some q) e (c, s, n, f) =
          let P = chosen_is (graph_of p) G (key_of p index) K u a q e
          in let d : ((label_at labels u).cost ≡ no_cost → ⊥) = λ z. omega (arith, (path_cheaper p L index a labels T u h q P).0, c)
          in rw (ne_eqb (label_at labels u).cost no_cost d)
          (present q (chosen-first (graph_of p) (key_of p index) u a q P).0 (chosen-first (graph_of p) (key_of p index) u a q P).1 c s n
          ∙ ap (branch_of p) (sym (is_chosen (graph_of p) G (key_of p index) K a u (reverse q) (chosen-reverse (graph_of p) G (key_of p index) u a q P))))
        where
          present : (q t : List ℕ) → q ≡ u ∷ t → (label_at labels u).cost ≡ cost (graph_of p) q → (label_at labels u).hops ≡ hops q → (label_at labels u).next ≡ next_of q
              → ◌≡◌ {A = Branch} (record { cost = (label_at labels u).cost; hops = (label_at labels u).hops; last = (label_at labels u).next })
              (record { cost = cost (graph_of p) (reverse q); hops = hops (reverse q); last = last_but_one (reverse q) })
          present q t e c s n = λ i. record {
            cost = (c ∙ sym (cost-reverse (graph_of p) G.symmetric q)) i;
            hops = (s ∙ ap (λ (k : ℕ). k - 1) (sym (length-reverse q))) i;
            last = (n ∙ ap next_of e ∙ sym (last_of_reverse u t) ∙ ap (λ (z : List ℕ). last_but_one (reverse z)) (sym e)) i;
          }

  pub labelled_branches_lem : labelled_branches labels (length p.bridges) ≡ tree_of p index a
  unfolding tree_of
  labelled_branches_lem = each (rising 0 (length p.bridges)) (λ u k. omega (arith, (rising-in 0 (length p.bridges) u k).1))
    where
      each : (us : List ℕ) → ((u : ℕ) → In u us → u < length p.bridges) → map (branch_at labels) us ≡ map (λ b. branch_of p (chosen_path p index a b)) us
      each [] h = refl
      each (u ∷ us) h = λ i. one-branch u (h u (inl refl)) i ∷ each us (λ v k. h v (inr k)) i
