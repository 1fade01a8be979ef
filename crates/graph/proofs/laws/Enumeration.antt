-- The definition by enumeration gives exactly the chosen path, and none exactly where no path exists (01, "The chosen path").
-- Assumes nothing.
use Prim.Native.Nat.{ℕ, zero, suc, ◌-◌, ◌≤◌, ◌<◌}
use Rattle.std.proofs.Common.{arith, sym, ap, ◌∙◌, inl, inr, lt→ltb, eqb→eq}
use Rattle.std.specs.Prelude.{◌≡◌, refl, ◌⊎◌, eqb, length}
use Rattle.std.proofs.Math.Path.{subst}
use mathlib.Core.List.{List, [], ◌∷◌, map, flat_map}
use Rattle.std.proofs.Math.Option.{Option, none, some}
use Rattle.std.proofs.Math.Dec.{T, ltb, ltb→lt}
use Rattle.lists.specs.Lists.{rising, selected}
use Rattle.graph.specs.Order.{Lower, is_lower}
use Rattle.graph.specs.Graph.{Graph, GraphLaws, KeyLaws, Joined, GoesOn, Onward, IsPath, cost_onward, cost, rank}
use Rattle.graph.specs.Chosen.{Chosen, neighbours, goes_on, onward, paths, chosen}
use Rattle.lists.specs.Members.{In}
use Rattle.lists.proofs.laws.ListNotions.{Distinct}
use Rattle.lists.proofs.laws.NumberLaws.{eq_eqb}
use Rattle.lists.proofs.laws.MemberLaws.{in_map, map-in, in-flat_map, flat_map-in}
use Rattle.lists.proofs.laws.SelectedLaws.{selected-in, in-selected, in-cons_if, cons_if-here, cons_if-there, in-rising}
use Rattle.lists.proofs.laws.LowestLaws.{lowest-none}
use Rattle.graph.proofs.laws.OrderLaws.{lowest-ranked}
use Rattle.graph.proofs.laws.Paths.{entered-inside, path-first}
use Rattle.graph.proofs.laws.LeastPaths.{without_repeats, distinct-bounded}
use Rattle.graph.proofs.laws.ChosenPaths.{lower-cost, not-lower-cost, chosen_unique, lowest-chosen}

module _ (g : Graph) where
  goes_on-test : (v : ℕ) (t : List ℕ) → GoesOn g v t → T (goes_on g v t)
  goes_on-test v [] h = tt
  goes_on-test v (w ∷ t) h = h

  test_goes_on : (v : ℕ) (t : List ℕ) → T (goes_on g v t) → GoesOn g v t
  test_goes_on v [] h = tt
  test_goes_on v (w ∷ t) h = h

  -- "Two bridges are joined when a usable link connects them" (01, "Links"): the neighbours of a bridge are those that a hop joins to it.
  pub neighbour_joined : (u v : ℕ) → In v (neighbours g u) → Joined g u v
  unfolding neighbours
  neighbour_joined u v h = ltb→lt 0 (g.hop u v) (selected-in (λ v. ltb 0 (g.hop u v)) v (rising 0 g.size) h).1

  pub joined_neighbour : GraphLaws g → (u v : ℕ) → Joined g u v → In v (neighbours g u)
  unfolding neighbours
  joined_neighbour L u v j = in-selected (λ v. ltb 0 (g.hop u v)) v (rising 0 g.size)
      (in-rising 0 g.size v (omega arith) (omega (arith, entered-inside g L u v j))) (lt→ltb 0 (g.hop u v) j)

  -- The lists that go on from `u` by a hop to `v`.
  abbrev through : ℕ → ℕ → ℕ → List (List ℕ)
  through n b v = map (λ t. v ∷ t) (selected (goes_on g v) (onward g n v b))

  -- What is enumerated leads on to `b` by at most `n` hops.
  abbrev Sound : ℕ → Type 0
  Sound n = (u b : ℕ) (t : List ℕ) → In t (onward g n u b) → Onward g u t b × (length t ≤ n)

  pub enumerated_onward : (n u b : ℕ) (t : List ℕ) → In t (onward g n u b) → Onward g u t b × (length t ≤ n)
  unfolding onward
  enumerated_onward zero u b t h = go (in-cons_if (eqb u b) t [] [] h)
    where
      go : (T (eqb u b) × (t ≡ [])) ⊎ ⊥ → Onward g u t b × (length t ≤ 0)
      go (inl (p, e)) = subst (λ (z : List ℕ). Onward g u z b × (length z ≤ 0)) (sym e) (eqb→eq u b p, omega arith)
      go (inr k) = absurd k
  enumerated_onward (suc n) u b t h = go (in-cons_if (eqb u b) t [] (flat_map (through n b) (neighbours g u)) h) (enumerated_onward n)
    where
      step : (v : ℕ) (s : List ℕ) → Joined g u v → In s (onward g n v b) × T (goes_on g v s) → t ≡ v ∷ s
          → Sound n → Onward g u t b × (length t ≤ suc n)
      step v s j (k, m) e ih = let r = ih v b s k in
          subst (λ (z : List ℕ). Onward g u z b × (length z ≤ suc n)) (sym e) ((j, test_goes_on v s m, r.0), omega (arith, r.1))

      hop : ((v : ℕ) × In v (neighbours g u) × In t (through n b v))
          → Sound n → Onward g u t b × (length t ≤ suc n)
      hop (v, k, l) ih = let r = map-in (λ t. v ∷ t) t (selected (goes_on g v) (onward g n v b)) l in
          step v r.0 (neighbour_joined u v k) (selected-in (goes_on g v) r.0 (onward g n v b) r.1) r.2 ih

      go : (T (eqb u b) × (t ≡ [])) ⊎ In t (flat_map (through n b) (neighbours g u))
          → Sound n → Onward g u t b × (length t ≤ suc n)
      go (inl (p, e)) ih = subst (λ (z : List ℕ). Onward g u z b × (length z ≤ suc n)) (sym e) (eqb→eq u b p, omega arith)
      go (inr k) ih = hop (flat_map-in (through n b) t (neighbours g u) k) ih

  -- Every list that leads on to `b` by at most `n` hops is enumerated.
  pub onward_enumerated : GraphLaws g → (n u b : ℕ) (t : List ℕ) → Onward g u t b → length t ≤ n → In t (onward g n u b)
  unfolding onward
  onward_enumerated L zero u b [] e l = cons_if-here (eqb u b) [] [] (eq_eqb u b e)
  onward_enumerated L zero u b (v ∷ t) o l = absurd (omega arith)
  onward_enumerated L (suc n) u b [] e l = cons_if-here (eqb u b) [] (flat_map (through n b) (neighbours g u)) (eq_eqb u b e)
  onward_enumerated L (suc n) u b (v ∷ t) (j, m, o) l =
      cons_if-there (eqb u b) (v ∷ t) [] (flat_map (through n b) (neighbours g u))
      (in-flat_map (through n b) (v ∷ t) v (neighbours g u) (joined_neighbour L u v j)
      (in_map (λ t. v ∷ t) t (selected (goes_on g v) (onward g n v b))
      (in-selected (goes_on g v) t (onward g n v b) (onward_enumerated L n v b t o (omega arith)) (goes_on-test v t m))))

  -- Every path without a bridge twice is enumerated.
  pub path_enumerated : GraphLaws g → (a b : ℕ) (t : List ℕ) → Onward g a t b → Distinct (a ∷ t) → In (a ∷ t) (paths g a b)
  unfolding paths
  path_enumerated L a b t o d = in_map (λ t. a ∷ t) t (onward g (g.size - 1) a b)
      (onward_enumerated L (g.size - 1) a b t o (distinct-bounded g L a t b o d))

  -- Every path of the enumeration is a path.
  pub enumerated_path : (a b : ℕ) (p : List ℕ) → In p (paths g a b) → IsPath g a b p
  unfolding paths
  enumerated_path a b p h = go (map-in (λ t. a ∷ t) p (onward g (g.size - 1) a b) h)
    where
      go : ((t : List ℕ) × In t (onward g (g.size - 1) a b) × (p ≡ a ∷ t)) → IsPath g a b p
      go (t, k, e) = subst (λ (z : List ℕ). IsPath g a b z) (sym e) (refl, (enumerated_onward (g.size - 1) a b t k).0)

module _ (g : Graph) (L : GraphLaws g) (key : ℕ → ℕ) where
  -- What the enumeration gives is a path, and no path at all is lower, repeats included.
  pub enumerated_lowest : (a b : ℕ) (p : List ℕ) → chosen g key a b ≡ some p
      → IsPath g a b p × ((q : List ℕ) → IsPath g a b q → Lower (rank g key q) (rank g key p) → ⊥)
  unfolding chosen
  enumerated_lowest a b p e = go (lowest-ranked (rank g key) (λ p q. is_lower (rank g key p) (rank g key q)) (λ p q. refl) (paths g a b) p e)
    where
      go : In p (paths g a b) × ((q : List ℕ) → In q (paths g a b) → Lower (rank g key q) (rank g key p) → ⊥)
          → IsPath g a b p × ((q : List ℕ) → IsPath g a b q → Lower (rank g key q) (rank g key p) → ⊥)
      go (k, f) = (enumerated_path g a b p k, λ q o h. any q (path-first g a b q o) h)
        where
          listed : (s : List ℕ) → Onward g a s b → Distinct (a ∷ s) → Lower (rank g key (a ∷ s)) (rank g key p) → ⊥
          listed s o d h = f (a ∷ s) (path_enumerated g L a b s o d) h

          shorter : (q t : List ℕ) → q ≡ a ∷ t → Lower (rank g key q) (rank g key p)
              → ((s : List ℕ) × Onward g a s b × Distinct (a ∷ s) × ((s ≡ t) ⊎ (cost_onward g a s < cost_onward g a t))) → ⊥
          shorter q t e h (s, o, d, inl i) = listed s o d (subst (λ (z : List ℕ). Lower (rank g key z) (rank g key p)) (e ∙ ap (λ (z : List ℕ). a ∷ z) (sym i)) h)
          shorter q t e h (s, o, d, inr l) = omega (arith, not-lower-cost g key p (a ∷ s) (listed s o d), lower-cost g key q p h, ap (cost g) e)

          any : (q : List ℕ) → ((t : List ℕ) × (q ≡ a ∷ t) × Onward g a t b) → Lower (rank g key q) (rank g key p) → ⊥
          any q (t, e, o) h = shorter q t e h (without_repeats g a t b o)

  -- "12. No path exists." (01, "Refusals in checking order"): the enumeration gives none exactly where no path exists.
  pub none_no_path : (a b : ℕ) → chosen g key a b ≡ none → (p : List ℕ) → IsPath g a b p → ⊥
  unfolding chosen
  none_no_path a b e p o = go (path-first g a b p o)
    where
      go : ((t : List ℕ) × (p ≡ a ∷ t) × Onward g a t b) → ⊥
      go (t, f, o) = let r = without_repeats g a t b o in
          subst (λ (z : List (List ℕ)). In (a ∷ r.0) z) (lowest-none (λ p q. is_lower (rank g key p) (rank g key q)) (paths g a b) e)
          (path_enumerated g L a b r.0 r.1 r.2)

  pub no_path-none : (a b : ℕ) → ((p : List ℕ) → IsPath g a b p → ⊥) → chosen g key a b ≡ none
  no_path-none a b f = go (chosen g key a b) refl
    where
      go : (o : Option (List ℕ)) → chosen g key a b ≡ o → o ≡ none
      go none e = refl
      go (some p) e = absurd (f p (enumerated_lowest a b p e).0)

  module _ (K : KeyLaws g key) where
    -- "Every other list of bridges from a to b, each joined to the next, costs more, or ties .." (demand 3): the definition by
    -- enumeration gives exactly the path that ranks below every other such list, repeats included.
    pub chosen_is : (a b : ℕ) (p : List ℕ) → chosen g key a b ≡ some p → Chosen g key a b p
    chosen_is a b p e = let r = enumerated_lowest a b p e in lowest-chosen g L key K a b p r.0 r.1

    pub is_chosen : (a b : ℕ) (p : List ℕ) → Chosen g key a b p → chosen g key a b ≡ some p
    is_chosen a b p P = go (chosen g key a b) refl
      where
        go : (o : Option (List ℕ)) → chosen g key a b ≡ o → o ≡ some p
        go none e = absurd (none_no_path a b e p P.path)
        go (some q) e = ap some (chosen_unique g key a b q p (chosen_is a b q e) P)

    -- Of two bridges either one path between them is chosen, or no path exists.
    pub chosen-or_no_path : (a b : ℕ) → ((p : List ℕ) × Chosen g key a b p) ⊎ ((p : List ℕ) → IsPath g a b p → ⊥)
    chosen-or_no_path a b = go (chosen g key a b) refl
      where
        go : (c : Option (List ℕ)) → chosen g key a b ≡ c → ((p : List ℕ) × Chosen g key a b p) ⊎ ((p : List ℕ) → IsPath g a b p → ⊥)
        go none e = inr (none_no_path a b e)
        go (some p) e = inl (p, chosen_is a b p e)

    -- Where a path exists one is chosen.
    pub path-chosen : (a b : ℕ) (q : List ℕ) → IsPath g a b q → (p : List ℕ) × Chosen g key a b p
    path-chosen a b q o = go (chosen-or_no_path a b)
      where
        go : ((p : List ℕ) × Chosen g key a b p) ⊎ ((p : List ℕ) → IsPath g a b p → ⊥) → (p : List ℕ) × Chosen g key a b p
        go (inl r) = r
        go (inr f) = absurd (f q o)

-- Whether a path exists does not depend on the key.
pub none-any-key : (g : Graph) → GraphLaws g → (key key' : ℕ → ℕ) (a b : ℕ) → chosen g key a b ≡ none → chosen g key' a b ≡ none
none-any-key g L key key' a b e = no_path-none g L key' a b (none_no_path g L key a b e)
