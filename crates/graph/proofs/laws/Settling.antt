-- Why the next bridge may be settled: the argument under every search for shortest path trees, for any data structure.
-- Assumes nothing.
use Rattle.std.specs.Prelude.{ℕ, ◌-◌, ◌≤◌, ◌≡◌, refl, List, [], ◌∷◌, map, ◌⊎◌, T, length}
use Rattle.std.proofs.Common.{arith, sym, ap, ◌∙◌, subst, inl, inr}
use Rattle.std.proofs.lemmas.List.{length-map}
use Rattle.graph.specs.Order.{Lower, insert_upward}
use Rattle.graph.specs.Graph.{Graph, GraphLaws, KeyLaws, Joined, GoesOn, Onward, IsPath, cost_onward, cost, hops, path_id, rank}
use Rattle.graph.specs.Chosen.{Chosen}
use Rattle.graph.proofs.laws.Notions.{Least}
use Rattle.graph.proofs.laws.Search.{Settling, Candidate, candidate_rank}
use Rattle.graph.proofs.laws.OrderLaws.{lower-never, lower-chained, lower-one-way, lower-compared, insert_lower, length-sorted, sorted_cons}
use Rattle.graph.proofs.laws.Ranks.{cost_step, rank-kept, rank-in-front}
use Rattle.graph.proofs.laws.Paths.{path-first, entered-inside}
use Rattle.graph.proofs.laws.ChosenPaths.{lower-cost, chosen-first, chosen_self, lowest-chosen, chosen-apart}

-- Comparing two candidates of one bridge

module _ (g : Graph) (key : ℕ → ℕ) where
  -- The PATHID of a candidate: its own key inserted into its next hop's.
  pub candidate-path_id : (u : ℕ) (p : List ℕ) → path_id key (u ∷ p) ≡ insert_upward (key u) (path_id key p)
  candidate-path_id u p = sorted_cons (key u) (map key p)

  -- "the least cost, then the fewest hops, then the lowest masked PATHID" (01, "The chosen path"): two candidates of one bridge compare as
  -- their costs, then their hop counts, then the PATHIDs of their next hops do.
  pub candidates_compare : (u v : ℕ) (t : List ℕ) (w : ℕ) (s : List ℕ) → Lower (candidate_rank g key u (v ∷ t)) (candidate_rank g key u (w ∷ s))
      → Lower (rank g key (u ∷ v ∷ t)) (rank g key (u ∷ w ∷ s))
  candidates_compare u v t w s = rank-kept (path_id key (v ∷ t)) (path_id key (w ∷ s)) (path_id key (u ∷ v ∷ t)) (path_id key (u ∷ w ∷ s))
      (λ h. h) (λ e. e) (λ h. h) (λ e. e) ids
    where
      ids : length (u ∷ v ∷ t) - 1 ≡ length (u ∷ w ∷ s) - 1 → Lower (path_id key (v ∷ t)) (path_id key (w ∷ s))
          → Lower (path_id key (u ∷ v ∷ t)) (path_id key (u ∷ w ∷ s))
      ids e h = rw (candidate-path_id u (v ∷ t), candidate-path_id u (w ∷ s))
          (insert_lower (key u) (path_id key (v ∷ t)) (path_id key (w ∷ s))
          (omega (arith, length-sorted (map key (v ∷ t)), length-sorted (map key (w ∷ s)), length-map t key, length-map s key)) h)

  -- Of equal cost and hops they compare by the PATHIDs of their next hops alone, two sorted lists of equal length.
  pub candidates_tie : (u v : ℕ) (t : List ℕ) (w : ℕ) (s : List ℕ) → cost g (u ∷ v ∷ t) ≡ cost g (u ∷ w ∷ s) → hops (v ∷ t) ≡ hops (w ∷ s)
      → Lower (path_id key (v ∷ t)) (path_id key (w ∷ s)) → Lower (rank g key (u ∷ v ∷ t)) (rank g key (u ∷ w ∷ s))
  candidates_tie u v t w s c h l = candidates_compare u v t w s (inr (c, inr (omega arith, l)))

  -- The comparison misses nothing: where the rank is lower it says so.
  pub candidates_compared : (u v : ℕ) (t : List ℕ) (w : ℕ) (s : List ℕ) → Lower (rank g key (u ∷ v ∷ t)) (rank g key (u ∷ w ∷ s))
      → Lower (candidate_rank g key u (v ∷ t)) (candidate_rank g key u (w ∷ s))
  candidates_compared u v t w s h = go (lower-compared (candidate_rank g key u (v ∷ t)) (candidate_rank g key u (w ∷ s)))
    where
      same : candidate_rank g key u (v ∷ t) ≡ candidate_rank g key u (w ∷ s) → rank g key (u ∷ v ∷ t) ≡ rank g key (u ∷ w ∷ s)
      same e = cc (costs, steps, candidate-path_id u (v ∷ t), candidate-path_id u (w ∷ s), ids)
        where
          costs : cost g (u ∷ v ∷ t) ≡ cost g (u ∷ w ∷ s)
          costs = cc

          steps : hops (u ∷ v ∷ t) ≡ hops (u ∷ w ∷ s)
          steps = cc

          ids : insert_upward (key u) (path_id key (v ∷ t)) ≡ insert_upward (key u) (path_id key (w ∷ s))
          ids = let f : path_id key (v ∷ t) ≡ path_id key (w ∷ s) = cc in ap (insert_upward (key u)) f

      go : Lower (candidate_rank g key u (v ∷ t)) (candidate_rank g key u (w ∷ s)) ⊎ (candidate_rank g key u (v ∷ t) ≡ candidate_rank g key u (w ∷ s))
          ⊎ Lower (candidate_rank g key u (w ∷ s)) (candidate_rank g key u (v ∷ t))
          → Lower (candidate_rank g key u (v ∷ t)) (candidate_rank g key u (w ∷ s))
      go (inl k) = k
      go (inr (inl e)) = absurd (lower-never (rank g key (u ∷ w ∷ s)) (subst (λ (z : List ℕ). Lower z (rank g key (u ∷ w ∷ s))) (same e) h))
      go (inr (inr k)) = absurd (lower-one-way (rank g key (u ∷ v ∷ t)) (rank g key (u ∷ w ∷ s)) h (candidates_compare u w s v t k))

module _ (g : Graph) (L : GraphLaws g) (key : ℕ → ℕ) (r : ℕ) (Open : ℕ → Type 0) (Settled : ℕ → List ℕ → Type 0)
    (S : Settling g key r Open Settled) where
  -- The path of a candidate is a path.
  pub candidate-path : (u v : ℕ) (p : List ℕ) → Candidate g r Open Settled u v p → IsPath g u r (u ∷ p)
  candidate-path u v p C = go (chosen-first g key v r p (S.final v p C.settled)) C.passes
    where
      on : (t : List ℕ) → p ≡ v ∷ t → (v ≡ r) ⊎ T (g.between v) → GoesOn g v t
      on [] e h = tt
      on (x ∷ t) e (inr h) = h
      on (x ∷ t) e (inl f) = absurd (omega (arith, ap (λ (z : List ℕ). length z) long))
        where
          long : v ∷ x ∷ t ≡ v ∷ []
          long = sym e ∙ chosen_self g key v p (subst (λ (z : ℕ). Chosen g key v z p) (sym f) (S.final v p C.settled))

      go : ((t : List ℕ) × (p ≡ v ∷ t) × Least g v t r) → (v ≡ r) ⊎ T (g.between v) → IsPath g u r (u ∷ p)
      go (t, e, W) h = subst (λ (z : List ℕ). IsPath g u r (u ∷ z)) (sym e) (refl, (C.joined, on t e h, W.way))

  -- A settled neighbour on a path from an open bridge gives a candidate that costs no more than the path.
  first-hop : (u v : ℕ) (t p : List ℕ) → Open u → Onward g u (v ∷ t) r → Settled v p → Candidate g r Open Settled u v p
  first-hop u v t p w (j, m, o) k = record { waits = w; settled = k; joined = j; passes = pass t m o }
    where
      pass : (t : List ℕ) → GoesOn g v t → Onward g v t r → (v ≡ r) ⊎ T (g.between v)
      pass [] m e = inl e
      pass (x ∷ t) m o = inr m

  first-hop-cost : (u v : ℕ) (t p : List ℕ) → Onward g v t r → Settled v p → cost g (u ∷ p) ≤ cost_onward g u (v ∷ t)
  first-hop-cost u v t p o k = go (chosen-first g key v r p (S.final v p k))
    where
      go : ((s : List ℕ) × (p ≡ v ∷ s) × Least g v s r) → cost g (u ∷ p) ≤ cost_onward g u (v ∷ t)
      go (s, e, W) = omega (arith, ap (λ (z : List ℕ). cost g (u ∷ z)) e, cost_step g u v s, cost_step g u v t, W.no_less t o)

  -- Every path from an open bridge to the root passes from an open bridge to a settled one:
  -- some candidate costs no more than the path.
  pub crossing : (u : ℕ) (t : List ℕ) → Open u → Onward g u t r
      → (x : ℕ) × (v : ℕ) × (p : List ℕ) × Candidate g r Open Settled x v p × (cost g (x ∷ p) ≤ cost_onward g u t)
  crossing u [] w e = absurd (S.apart r (r ∷ []) (subst (λ (z : ℕ). Open z) e w) S.root)
  crossing u (v ∷ t) w o = go (S.each v (entered-inside g L u v o.0)) (λ h. crossing v t h o.2)
    where
      go : Open v ⊎ ((p : List ℕ) × Settled v p)
          → (Open v → (x : ℕ) × (y : ℕ) × (p : List ℕ) × Candidate g r Open Settled x y p × (cost g (x ∷ p) ≤ cost_onward g v t))
          → (x : ℕ) × (y : ℕ) × (p : List ℕ) × Candidate g r Open Settled x y p × (cost g (x ∷ p) ≤ cost_onward g u (v ∷ t))
      go (inl h) ih = let f = ih h in (f.0, f.1, f.2, f.3, omega (arith, f.4, cost_step g u v t))
      go (inr (p, k)) ih = (u, v, p, first-hop u v t p w o k, first-hop-cost u v t p o.2 k)

  module _ (K : KeyLaws g key) where
    -- Of an open bridge's candidates the lowest, if no candidate at all costs less, is final, because every hop costs at least 1.
    pub settles : (u v : ℕ) (p : List ℕ) → Candidate g r Open Settled u v p
        → ((x y : ℕ) (q : List ℕ) → Candidate g r Open Settled x y q → cost g (u ∷ p) ≤ cost g (x ∷ q))
        → ((y : ℕ) (q : List ℕ) → Candidate g r Open Settled u y q → Lower (rank g key (u ∷ q)) (rank g key (u ∷ p)) → ⊥)
        → Chosen g key u r (u ∷ p)
    settles u v p C nearest lowest = lowest-chosen g L key K u r (u ∷ p) (candidate-path u v p C)
        (λ q o h. any q h (path-first g u r q o))
      where
        -- The next bridge is open: the path costs more.
        dearer : (q : List ℕ) (x : ℕ) (t : List ℕ) → q ≡ u ∷ x ∷ t → Joined g u x → Lower (rank g key q) (rank g key (u ∷ p))
            → ((y : ℕ) × (z : ℕ) × (s : List ℕ) × Candidate g r Open Settled y z s × (cost g (y ∷ s) ≤ cost_onward g x t)) → ⊥
        dearer q x t e j h (y, z, s, D, l) = omega (arith, nearest y z s D, lower-cost g key q (u ∷ p) h, ap (cost g) e, cost_step g u x t)

        -- The next bridge is settled: the path is a candidate's, or higher than one.
        higher : (q : List ℕ) (x : ℕ) (t s : List ℕ) → q ≡ u ∷ x ∷ t → Candidate g r Open Settled u x s → Lower (rank g key q) (rank g key (u ∷ p))
            → ((z : List ℕ) × (s ≡ x ∷ z) × Least g x z r) → (x ∷ t ≡ s) ⊎ Lower (rank g key s) (rank g key (x ∷ t)) → ⊥
        higher q x t s e D h f (inl i) = lowest x s D (subst (λ (z : List ℕ). Lower (rank g key z) (rank g key (u ∷ p))) (e ∙ ap (λ (z : List ℕ). u ∷ z) i) h)
        higher q x t s e D h (z, i, W) (inr k) = lowest x s D (lower-chained (rank g key (u ∷ s)) (rank g key q) (rank g key (u ∷ p)) below h)
          where
            below : Lower (rank g key (u ∷ s)) (rank g key q)
            below = subst (λ (y : List ℕ). Lower (rank g key (u ∷ y)) (rank g key q)) (sym i)
                (subst (λ (y : List ℕ). Lower (rank g key (u ∷ x ∷ z)) (rank g key y)) (sym e)
                (rank-in-front g key (u ∷ []) x z t (subst (λ (y : List ℕ). Lower (rank g key y) (rank g key (x ∷ t))) i k)))

        side : (q : List ℕ) (x : ℕ) (t : List ℕ) → q ≡ u ∷ x ∷ t → Onward g u (x ∷ t) r → Lower (rank g key q) (rank g key (u ∷ p))
            → Open x ⊎ ((s : List ℕ) × Settled x s) → ⊥
        side q x t e o h (inl w) = dearer q x t e o.0 h (crossing x t w o.2)
        side q x t e o h (inr (s, k)) = higher q x t s e (first-hop u x t s C.waits o k) h
            (chosen-first g key x r s (S.final x s k)) ((S.final x s k).least (x ∷ t) (refl, o.2))

        any : (q : List ℕ) → Lower (rank g key q) (rank g key (u ∷ p)) → ((t : List ℕ) × (q ≡ u ∷ t) × Onward g u t r) → ⊥
        any q h ([], e, o) = S.apart r (r ∷ []) (subst (λ (z : ℕ). Open z) o C.waits) S.root
        any q h (x ∷ t, e, o) = side q x t e o h (S.each x (entered-inside g L u x o.0))

    -- Two candidates of one bridge through different next hops never tie: settled bridges have different PATHIDs.
    pub settled-apart : (v w : ℕ) (p q : List ℕ) → Settled v p → Settled w q → path_id key p ≡ path_id key q → v ≡ w
    settled-apart v w p q h k e = chosen-apart g L key K v w r p q (S.final v p h) (S.final w q k) e

  -- With no candidate left, every bridge with a path to the root is settled,
  pub complete : ((u v : ℕ) (p : List ℕ) → Candidate g r Open Settled u v p → ⊥) → (u : ℕ) (q : List ℕ) → IsPath g u r q → (p : List ℕ) × Settled u p
  complete no_more u q o = go (path-first g u r q o)
    where
      found : (t : List ℕ) → Onward g u t r → ((x : ℕ) × (v : ℕ) × (p : List ℕ) × Candidate g r Open Settled x v p × (cost g (x ∷ p) ≤ cost_onward g u t)) → ⊥
      found t o (x, v, p, C, l) = no_more x v p C

      side : (t : List ℕ) → Onward g u t r → Open u ⊎ ((p : List ℕ) × Settled u p) → (p : List ℕ) × Settled u p
      side t o (inl w) = absurd (found t o (crossing u t w o))
      side t o (inr k) = k

      go : ((t : List ℕ) × (q ≡ u ∷ t) × Onward g u t r) → (p : List ℕ) × Settled u p
      go ([], e, o) = (r ∷ [], subst (λ (z : ℕ). Settled z (r ∷ [])) (sym o) S.root)
      go (v ∷ t, e, o) = side (v ∷ t) o (S.each u (L.inside u v o.0))

  -- and no open bridge has one.
  pub open_no_path : ((u v : ℕ) (p : List ℕ) → Candidate g r Open Settled u v p → ⊥) → (u : ℕ) → Open u → (q : List ℕ) → IsPath g u r q → ⊥
  open_no_path no_more u w q o = go (complete no_more u q o)
    where
      go : ((p : List ℕ) × Settled u p) → ⊥
      go (p, k) = S.apart u p w k
