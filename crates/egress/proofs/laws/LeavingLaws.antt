-- The labels of a plan's tree give the ports by which the chosen paths from the root leave a bridge (01, "Entries"). Assumes nothing.
use Rattle.std.specs.Prelude.{ℕ, ◌+◌, ◌<◌, ◌≡◌, ◌⊎◌, Bool, eqb, length, get_or}
use Rattle.std.proofs.Common.{arith, ◌∙◌, subst, inl, inr, eq-eqb, ne_eqb}
use Rattle.std.proofs.Math.Path.{refl, sym, ap}
use mathlib.Core.List.{List, [], ◌∷◌, ◌++◌, reverse, reverse-cons, append_assoc}
use Rattle.std.proofs.Math.Option.{Option, none, some}
use Rattle.std.proofs.Math.Bool.{cond}
use Rattle.lists.specs.Members.{In}
use Rattle.lists.proofs.laws.ListNotions.{Distinct}
use Rattle.lists.proofs.laws.NumberLaws.{same_or_not}
use Rattle.lists.proofs.laws.MemberLaws.{none-not-some, in_append}
use Rattle.graph.specs.Graph.{Graph, GraphLaws, KeyLaws, cost}
use Rattle.graph.proofs.laws.Ranks.{cost-most}
use Rattle.graph.proofs.laws.Paths.{entered-inside}
use Rattle.graph.specs.Chosen.{Chosen, chosen}
use Rattle.graph.proofs.laws.Enumeration.{chosen_is, is_chosen}
use Rattle.graph.proofs.laws.ChosenPaths.{chosen-first, chosen-distinct, chosen-bounded, chosen-reverse}
use Rattle.graph.proofs.laws.Forwarding.{chosen-after}
use Rattle.rule.specs.Records.{HalfLink}
use Rattle.rule.specs.Plan.{Plan}
use Rattle.rule.specs.Links.{graph_of}
use Rattle.rule.proofs.laws.LinkLaws.{graph-laws}
use Rattle.rule.specs.Identifiers.{key_of}
use Rattle.rule.proofs.laws.IdentifierLaws.{key_laws}
use Rattle.rule.specs.Paths.{chosen_path}
use Rattle.rule.specs.Entries.{first_port, leaving_port}
use Rattle.rule.proofs.laws.Network.{chosen_is_path, path_is_chosen}
use Rattle.labels.specs.Labels.{no_cost, label_at}
use Rattle.tree.specs.Trees.{SaysPath, Ordered}
use Rattle.network.specs.Layout.{bridges_in}
use Rattle.network.specs.Networks.{NetworkOf, PlanTree}
use Rattle.egress.specs.Leaving.{number_of, port_to, PlanHops, port_on, walked, leaving_by, Walkable}

-- On the way back

-- The port of the hop by which a list of bridges comes to `b`, taken from the bridge before.
unfoldable pub comes_to : (ℕ → ℕ) → ℕ → List ℕ → ℕ
comes_to port b [] = 0
comes_to port b (u ∷ []) = 0
comes_to port b (u ∷ v ∷ t) = cond (eqb v b) (port u) (comes_to port b (v ∷ t))

module _ (hs : List HalfLink) (b : ℕ) where
  here : (u : ℕ) (t : List ℕ) → u ≡ b → leaving_port hs b (u ∷ t) ≡ first_port hs (u ∷ t)
  unfolding leaving_port
  here u t e = ap (λ (c : Bool). cond c (first_port hs (u ∷ t)) (leaving_port hs b t)) (eq-eqb u b e)

  beyond : (u : ℕ) (t : List ℕ) → (u ≡ b → ⊥) → leaving_port hs b (u ∷ t) ≡ leaving_port hs b t
  unfolding leaving_port
  beyond u t n = ap (λ (c : Bool). cond c (first_port hs (u ∷ t)) (leaving_port hs b t)) (ne_eqb u b n)

  nothing-leaves : leaving_port hs b [] ≡ none
  unfolding leaving_port
  nothing-leaves = refl

  one-stays : (u : ℕ) → leaving_port hs b (u ∷ []) ≡ none
  one-stays u = go (same_or_not u b)
    where
      go : (u ≡ b) ⊎ (u ≡ b → ⊥) → leaving_port hs b (u ∷ []) ≡ none
      go (inl e) = here u [] e
      go (inr n) = beyond u [] n ∙ nothing-leaves

  -- One bridge more at the end of a path matters where the path ended at `b`.
  ends-here : (xs : List ℕ) (v u : ℕ) → v ≡ b → (In b xs → ⊥) → leaving_port hs b (xs ++ (v ∷ u ∷ [])) ≡ first_port hs (b ∷ u ∷ [])
  ends-here [] v u e n = here v (u ∷ []) e ∙ ap (λ (x : ℕ). first_port hs (x ∷ u ∷ [])) e
  ends-here (x ∷ xs) v u e n = beyond x (xs ++ (v ∷ u ∷ [])) (λ f. n (inl (sym f))) ∙ ends-here xs v u e (λ k. n (inr k))

  first_alike : (x : ℕ) (xs : List ℕ) (v u : ℕ) → first_port hs (x ∷ (xs ++ (v ∷ u ∷ []))) ≡ first_port hs (x ∷ (xs ++ (v ∷ [])))
  first_alike x [] v u = refl
  first_alike x (y ∷ xs) v u = refl

  ends-elsewhere : (xs : List ℕ) (v u : ℕ) → (v ≡ b → ⊥) → leaving_port hs b (xs ++ (v ∷ u ∷ [])) ≡ leaving_port hs b (xs ++ (v ∷ []))
  ends-elsewhere [] v u n = beyond v (u ∷ []) n ∙ one-stays u ∙ sym (one-stays v)
  ends-elsewhere (x ∷ xs) v u n = go (same_or_not x b) (ends-elsewhere xs v u n)
    where
      go : (x ≡ b) ⊎ (x ≡ b → ⊥) → leaving_port hs b (xs ++ (v ∷ u ∷ [])) ≡ leaving_port hs b (xs ++ (v ∷ []))
          → leaving_port hs b (x ∷ (xs ++ (v ∷ u ∷ []))) ≡ leaving_port hs b (x ∷ (xs ++ (v ∷ [])))
      go (inl e) ih = here x (xs ++ (v ∷ u ∷ [])) e ∙ first_alike x xs v u ∙ sym (here x (xs ++ (v ∷ [])) e)
      go (inr d) ih = beyond x (xs ++ (v ∷ u ∷ [])) d ∙ ih ∙ sym (beyond x (xs ++ (v ∷ [])) d)

  two_back : (u v : ℕ) (t : List ℕ) → reverse (u ∷ v ∷ t) ≡ reverse t ++ (v ∷ u ∷ [])
  two_back u v t =
      reverse-cons u (v ∷ t) ∙ ap (λ (s : List ℕ). s ++ (u ∷ [])) (reverse-cons v t) ∙ append_assoc (reverse t) (v ∷ []) (u ∷ [])

  in-reverse : (x : ℕ) (t : List ℕ) → In x (reverse t) → In x t
  in-reverse x [] k = k
  in-reverse x (u ∷ t) k = go (in_append x (reverse t) (u ∷ []) (rw (reverse-cons u t) at k)) (in-reverse x t)
    where
      go : In x (reverse t) ⊎ In x (u ∷ []) → (In x (reverse t) → In x t) → In x (u ∷ t)
      go (inl j) ih = inr (ih j)
      go (inr (inl e)) ih = inl e
      go (inr (inr j)) ih = absurd j

  -- The port by which the reversed path leaves `b`.
  pub leaves_reversed : (q : List ℕ) → Distinct q → number_of (leaving_port hs b (reverse q)) ≡ comes_to (port_to hs b) b q
  unfolding comes_to
  leaves_reversed [] D = ap number_of nothing-leaves
  leaves_reversed (u ∷ []) D = ap number_of (one-stays u)
  leaves_reversed (u ∷ v ∷ t) D = go (same_or_not v b) (leaves_reversed (v ∷ t) D.1)
    where
      go : (v ≡ b) ⊎ (v ≡ b → ⊥) → number_of (leaving_port hs b (reverse (v ∷ t))) ≡ comes_to (port_to hs b) b (v ∷ t)
          → number_of (leaving_port hs b (reverse (u ∷ v ∷ t))) ≡ cond (eqb v b) (port_to hs b u) (comes_to (port_to hs b) b (v ∷ t))
      go (inl e) ih =
          ap (λ (s : List ℕ). number_of (leaving_port hs b s)) (two_back u v t)
          ∙ ap number_of (ends-here (reverse t) v u e (λ k. D.1.0 (in-reverse v t (subst (λ (x : ℕ). In x (reverse t)) (sym e) k))))
          ∙ sym (ap (λ (c : Bool). cond c (port_to hs b u) (comes_to (port_to hs b) b (v ∷ t))) (eq-eqb v b e))
      go (inr n) ih =
          ap (λ (s : List ℕ). number_of (leaving_port hs b s)) (two_back u v t)
          ∙ ap number_of (ends-elsewhere (reverse t) v u n ∙ ap (leaving_port hs b) (sym (reverse-cons v t)))
          ∙ ih
          ∙ sym (ap (λ (c : Bool). cond c (port_to hs b u) (comes_to (port_to hs b) b (v ∷ t))) (ne_eqb v b n))

-- By the labels

module _ {p : Plan} {net : List ℕ} (B : NetworkOf p net) (index a : ℕ) {labels : List ℕ} (R : PlanTree p index a labels) where
  abbrev n : ℕ
  n = bridges_in net

  abbrev g : Graph
  g = graph_of p

  abbrev key : ℕ → ℕ
  key = key_of p index

  G : GraphLaws g
  G = graph-laws p B.laws

  K : KeyLaws g key
  K = key_laws p B.laws index

  inside : (u : ℕ) → u < n → u < g.size
  inside u l = omega (arith, B.represents.size_is)

  -- A chosen path costs less than the number that stands for no cost.
  costs-less : (u : ℕ) (t : List ℕ) → Chosen g key u a (u ∷ t) → cost g (u ∷ t) < no_cost
  costs-less u t P = omega (
    arith,
    chosen-bounded g G key u a (u ∷ t) P,
    cost-most g 16777214 B.represents.hop_most u t,
    B.represents.size_is,
    B.represents.most,
  )

  -- What the label says of a bridge whose chosen path to the root is `u ∷ t`.
  said : (u : ℕ) (t : List ℕ) → u < n → Chosen g key u a (u ∷ t) → SaysPath g (some (u ∷ t)) (label_at labels u)
  said u t l P = subst (λ (o : Option (List ℕ)). SaysPath g o (label_at labels u)) (is_chosen g G key K u a (u ∷ t) P) (R.each u (inside u l))

  reached : (u : ℕ) (t : List ℕ) → u < n → Chosen g key u a (u ∷ t) → (label_at labels u).cost ≡ no_cost → ⊥
  reached u t l P e = omega (arith, (said u t l P).0, costs-less u t P)

  next-inside : (u v : ℕ) (t : List ℕ) → Chosen g key u a (u ∷ v ∷ t) → v < n
  next-inside u v t P = omega (arith, entered-inside g G u v P.path.1.0, B.represents.size_is)

  pub tree-walkable : Walkable labels n
  tree-walkable = record {
    most = B.represents.most;
    root = a;
    ordered = subst (λ (k : ℕ). Ordered k a labels) B.represents.size_is R.ordered;
    onward = λ u l f h. go u l f h (chosen g key u a) refl;
  }
    where
      along : (u : ℕ) (t : List ℕ) → u < n → 0 < (label_at labels u).hops → Chosen g key u a (u ∷ t)
          → ((label_at labels u).next < n) × ((label_at labels (label_at labels u).next).cost ≡ no_cost → ⊥) × ((label_at labels u).hops ≡ (label_at labels (label_at labels u).next).hops + 1)
      along u [] l h P = absurd (omega (arith, (said u [] l P).1))
      along u (v ∷ t) l h P =
          let S = said u (v ∷ t) l P
          in let m = next-inside u v t P
          in let Q = chosen-after g key u v a t P
          in rw S.2 (m, reached v t m Q, omega (arith, S.1, (said v t m Q).1))

      go : (u : ℕ) → u < n → ((label_at labels u).cost ≡ no_cost → ⊥) → 0 < (label_at labels u).hops → (o : Option (List ℕ)) → chosen g key u a ≡ o
          → ((label_at labels u).next < n) × ((label_at labels (label_at labels u).next).cost ≡ no_cost → ⊥) × ((label_at labels u).hops ≡ (label_at labels (label_at labels u).next).hops + 1)
      go u l f h none e = absurd (f (subst (λ (o : Option (List ℕ)). SaysPath g o (label_at labels u)) e (R.each u (inside u l))))
      go u l f h (some q) e =
          let P = chosen_is g G key K u a q e
          in let (t, i, W) = chosen-first g key u a q P
          in along u t l h (subst (λ (z : List ℕ). Chosen g key u a z) i P)

  pub walkable_by : (m : ℕ) → m ≡ bridges_in net → Walkable labels m
  walkable_by m e = subst (λ (x : ℕ). Walkable labels x) (sym e) tree-walkable

  module _ (b : ℕ) {hop_ports : List ℕ} (H : PlanHops p n b hop_ports) where
    walked_is : (d : ℕ) (t : List ℕ) → d < n → Chosen g key d a (d ∷ t) → walked labels hop_ports b (length t) d ≡ comes_to (port_to p.half_links b) b (d ∷ t)
    unfolding walked comes_to
    walked_is d [] l P = refl
    walked_is d (v ∷ t) l P =
        ap (λ (x : ℕ). cond (eqb x b) (get_or hop_ports d 0) (walked labels hop_ports b (length t) x)) (said d (v ∷ t) l P).2
        ∙ ap (λ (x : ℕ). cond (eqb v b) x (walked labels hop_ports b (length t) v)) (H.each d l)
        ∙ ap (λ (x : ℕ). cond (eqb v b) (port_to p.half_links b d) x) (walked_is v t (next-inside d v t P) (chosen-after g key d v a t P))

    -- "whose chosen path from the transmitter passes this bridge and leaves it there".
    pub leaving_is : (d : ℕ) → d < n → leaving_by labels hop_ports b d ≡ port_on p.half_links b (chosen_path p index a d)
    unfolding leaving_by
    leaving_is d l = go (chosen g key d a) refl
      where
        no_path : chosen g key d a ≡ none → (o : Option (List ℕ)) → chosen_path p index a d ≡ o → o ≡ none
        no_path e none f = refl
        no_path e (some q) f = absurd (none-not-some (sym e ∙ is_chosen g G key K d a (reverse q) (chosen-reverse g G key a d q (path_is_chosen p B.laws index a d q f))))

        by_path : (t : List ℕ) → Chosen g key d a (d ∷ t) → leaving_by labels hop_ports b d ≡ port_on p.half_links b (chosen_path p index a d)
        by_path t P =
            ap (λ (c : Bool). cond c 0 (walked labels hop_ports b (label_at labels d).hops d)) (ne_eqb (label_at labels d).cost no_cost (reached d t l P))
            ∙ ap (λ (k : ℕ). walked labels hop_ports b k d) hop-count
            ∙ walked_is d t l P
            ∙ sym (leaves_reversed p.half_links b (d ∷ t) (chosen-distinct g key d a (d ∷ t) P))
            ∙ ap (port_on p.half_links b) (sym (chosen_is_path p B.laws index a d (reverse (d ∷ t)) (chosen-reverse g G key d a (d ∷ t) P)))
          where
            hop-count : (label_at labels d).hops ≡ length t
            hop-count = omega (arith, (said d t l P).1)

        go : (o : Option (List ℕ)) → chosen g key d a ≡ o → leaving_by labels hop_ports b d ≡ port_on p.half_links b (chosen_path p index a d)
        go none e =
            ap (λ (c : Bool). cond c 0 (walked labels hop_ports b (label_at labels d).hops d))
            (eq-eqb (label_at labels d).cost no_cost (subst (λ (o : Option (List ℕ)). SaysPath g o (label_at labels d)) e (R.each d (inside d l))))
            ∙ sym (ap (port_on p.half_links b) (no_path e (chosen_path p index a d) refl))
        go (some q) e =
            let P = chosen_is g G key K d a q e
            in let (t, i, W) = chosen-first g key d a q P
            in by_path t (subst (λ (z : List ℕ). Chosen g key d a z) i P)
