-- Two graphs whose hops agree have the same paths, ranks and chosen paths, and so have two keys that agree (01, "The chosen path").
-- Assumes nothing.
use Rattle.std.specs.Prelude.{ℕ, ◌+◌, ◌<◌, ◌≡◌, refl, List, [], ◌∷◌, map, ◌⊎◌, Bool, T}
use Rattle.std.proofs.Common.{sym, ap, ap₂, ◌∙◌, subst, inl, inr}
use Rattle.std.proofs.Math.Option.{Option, none, some}
use Rattle.graph.specs.Order.{Lower, sorted}
use Rattle.graph.specs.Graph.{Graph, GraphLaws, KeyLaws, GoesOn, Onward, IsPath, cost_onward, cost, hops, path_id, rank}
use Rattle.graph.specs.Chosen.{Chosen, chosen}
use Rattle.lists.specs.Members.{In}
use Rattle.graph.proofs.laws.Notions.{Agree}
use Rattle.graph.proofs.laws.Ranks.{cost_step, cost_stay}
use Rattle.graph.proofs.laws.Paths.{path-first, stays-inside}
use Rattle.graph.proofs.laws.ChosenPaths.{chosen_stay}
use Rattle.graph.proofs.laws.Enumeration.{chosen_is, is_chosen, none_no_path, no_path-none}

-- Agreement goes both ways.
pub agree-back : (g h : Graph) → Agree g h → Agree h g
agree-back g h A = record { hops_agree = λ u v. sym (A.hops_agree u v); between_agree = λ u. sym (A.between_agree u) }

module _ (g h : Graph) (A : Agree g h) where
  -- The same paths, of the same cost and rank.
  pub onward_agrees : (u : ℕ) (t : List ℕ) (b : ℕ) → Onward g u t b → Onward h u t b
  onward_agrees u [] b e = e
  onward_agrees u (v ∷ t) b (j, m, o) = (rw (A.hops_agree u v) at j, on t m, onward_agrees v t b o)
    where
      on : (t : List ℕ) → GoesOn g v t → GoesOn h v t
      on [] m = tt
      on (w ∷ t) m = subst (λ (x : Bool). T x) (A.between_agree v) m

  pub path_agrees : (a b : ℕ) (p : List ℕ) → IsPath g a b p → IsPath h a b p
  path_agrees a b [] h = elim h [ ]
  path_agrees a b (u ∷ t) (e, o) = (e, onward_agrees u t b o)

  pub cost_agrees : (p : List ℕ) → cost g p ≡ cost h p
  cost_agrees [] = refl
  cost_agrees (u ∷ t) = from u t
    where
      from : (u : ℕ) (t : List ℕ) → cost_onward g u t ≡ cost_onward h u t
      from u [] = cost_stay g u ∙ sym (cost_stay h u)
      from u (v ∷ t) = cost_step g u v t ∙ ap₂ (λ (m n : ℕ). m + n) (A.hops_agree u v) (from v t) ∙ sym (cost_step h u v t)

  pub rank_agrees : (key : ℕ → ℕ) (p : List ℕ) → rank g key p ≡ rank h key p
  rank_agrees key p = ap (λ (c : ℕ). c ∷ hops p ∷ path_id key p) (cost_agrees p)

-- Two graphs whose hops agree have the same chosen paths: cost, hop count and PATHID look at nothing else (01, "The chosen path").
pub chosen_agrees : (g h : Graph) → Agree g h → (key : ℕ → ℕ) (a b : ℕ) (p : List ℕ) → Chosen g key a b p → Chosen h key a b p
chosen_agrees g h A key a b p P = record {
  path = path_agrees g h A a b p P.path;
  least = λ q o. go q (P.least q (path_agrees h g (agree-back g h A) a b q o));
}
  where
    go : (q : List ℕ) → (q ≡ p) ⊎ Lower (rank g key p) (rank g key q) → (q ≡ p) ⊎ Lower (rank h key p) (rank h key q)
    go q (inl e) = inl e
    go q (inr l) = inr (subst (λ (z : List ℕ). Lower z (rank h key q)) (rank_agrees g h A key p)
        (subst (λ (z : List ℕ). Lower (rank g key p) z) (rank_agrees g h A key q) l))

-- The same by enumeration, though the graphs may have different sizes.
pub enumeration_agrees : (g h : Graph) → Agree g h → GraphLaws g → GraphLaws h → (key : ℕ → ℕ) → KeyLaws g key → KeyLaws h key
    → (a b : ℕ) → chosen g key a b ≡ chosen h key a b
enumeration_agrees g h A L M key K N a b = go (chosen g key a b) refl
  where
    go : (c : Option (List ℕ)) → chosen g key a b ≡ c → c ≡ chosen h key a b
    go none e = sym (no_path-none h M key a b (λ p o. none_no_path g L key a b e p (path_agrees h g (agree-back g h A) a b p o)))
    go (some p) e = sym (is_chosen h M key N a b p (chosen_agrees g h A key a b p (chosen_is g L key K a b p e)))

-- Two keys that agree on the bridges of the graph give the same chosen paths.

module _ (g : Graph) (L : GraphLaws g) (key key' : ℕ → ℕ) (same : (u : ℕ) → u < g.size → key u ≡ key' u) where
  keys-agree : (p : List ℕ) → ((x : ℕ) → In x p → x < g.size) → map key p ≡ map key' p
  keys-agree [] h = refl
  keys-agree (x ∷ p) h = ap₂ (λ (n : ℕ) (t : List ℕ). n ∷ t) (same x (h x (inl refl))) (keys-agree p (λ y k. h y (inr k)))

  pub chosen-keys-agree : (a b : ℕ) (p : List ℕ) → Chosen g key a b p → Chosen g key' a b p
  chosen-keys-agree a b p P = go (path-first g a b p P.path)
    where
      ranks : a < g.size → (q : List ℕ) → IsPath g a b q → rank g key q ≡ rank g key' q
      ranks l q o = ap (λ (k : List ℕ). cost g q ∷ hops q ∷ sorted k) (keys-agree q (stays-inside g L a b q l o))

      other : a < g.size → (q : List ℕ) → IsPath g a b q → (q ≡ p) ⊎ Lower (rank g key p) (rank g key q) → (q ≡ p) ⊎ Lower (rank g key' p) (rank g key' q)
      other l q o (inl e) = inl e
      other l q o (inr h) = inr (subst (λ (z : List ℕ). Lower z (rank g key' q)) (ranks l p P.path)
          (subst (λ (z : List ℕ). Lower (rank g key p) z) (ranks l q o) h))

      go : ((t : List ℕ) × (p ≡ a ∷ t) × Onward g a t b) → Chosen g key' a b p
      go ([], e, f) = subst (λ (z : ℕ). Chosen g key' a z p) f (subst (λ (z : List ℕ). Chosen g key' a a z) (sym e) (chosen_stay g key' a))
      go (v ∷ t, e, o) = record { path = P.path; least = λ q k. other (L.inside a v o.0) q k (P.least q k) }
