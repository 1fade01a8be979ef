-- Laws of cost and rank over any lists of bridges, joined or not (01, "The chosen path").
-- Assumes nothing.
use Rattle.std.specs.Prelude.{ℕ, ◌+◌, ◌-◌, ◌*◌, ◌≤◌, ◌<◌, ◌≡◌, length}
use native.Mathlib.Omega.{arith}
use Rattle.std.proofs.Math.Path.{refl}
use Rattle.std.proofs.Common.{sym, ap, ◌∙◌, inl, inr, length-append}
use mathlib.Core.List.{List, [], ◌∷◌, ◌++◌, map, reverse, append_assoc, reverse-cons, map-append}
use Rattle.std.proofs.lemmas.List.{length-map, length-reverse}
use Rattle.graph.specs.Order.{Lower, sorted}
use Rattle.graph.specs.Graph.{Graph, cost_onward, cost, hops, path_id, rank}
use Rattle.lists.proofs.laws.ListNotions.{last_of}
use Rattle.lists.proofs.laws.MemberLaws.{map-reverse, last_of_append}
use Rattle.graph.proofs.laws.OrderLaws.{sorted-reverse, sorted-in-front, sorted-behind, sorted-in-front-same, sorted-behind-same}

-- Cost

module _ (g : Graph) where
  pub cost_step : (u v : ℕ) (t : List ℕ) → cost_onward g u (v ∷ t) ≡ g.hop u v + cost_onward g v t
  unfolding cost_onward
  cost_step u v t = refl

  pub cost_stay : (u : ℕ) → cost_onward g u [] ≡ 0
  unfolding cost_onward
  cost_stay u = refl

  -- A path whose hops cost no more than `most` each costs no more than so many times that.
  pub cost-most : (most : ℕ) → ((u v : ℕ) → g.hop u v ≤ most) → (u : ℕ) (t : List ℕ) → cost_onward g u t ≤ length t * most
  unfolding cost_onward
  cost-most most h u [] = omega arith
  cost-most most h u (v ∷ t) = omega (arith, h u v, cost-most most h v t)

  -- "Its cost is the sum of its hops' costs" (01, "The chosen path"): that of two parts one after the other is the sum of theirs.
  pub cost-behind : (u : ℕ) (t s : List ℕ) → cost_onward g u (t ++ s) ≡ cost_onward g u t + cost_onward g (last_of u t) s
  unfolding cost_onward
  cost-behind u [] s = omega arith
  cost-behind u (v ∷ t) s = omega (arith, cost-behind v t s)

  pub cost-in-front : (xs : List ℕ) (c : ℕ) (s : List ℕ) → cost g (xs ++ (c ∷ s)) ≡ cost g (xs ++ (c ∷ [])) + cost_onward g c s
  cost-in-front [] c s = omega (arith, cost_stay c)
  cost-in-front (x ∷ xs) c s =
      ap (λ (t : List ℕ). cost_onward g x t) (sym (append_assoc xs (c ∷ []) s)) ∙ cost-behind x (xs ++ (c ∷ [])) s
      ∙ ap (λ (d : ℕ). cost_onward g x (xs ++ (c ∷ [])) + cost_onward g d s) (last_of_append x xs c [])

  module _ (symmetric : (u v : ℕ) → g.hop u v ≡ g.hop v u) where
    -- The way back costs the same.
    pub cost-reverse : (p : List ℕ) → cost g (reverse p) ≡ cost g p
    cost-reverse [] = refl
    cost-reverse (x ∷ []) = refl
    cost-reverse (x ∷ y ∷ t) = turned ∙ cost-in-front (reverse t) y (x ∷ []) ∙ go (cost-reverse (y ∷ t))
      where
        turned : cost g (reverse (x ∷ y ∷ t)) ≡ cost g (reverse t ++ (y ∷ x ∷ []))
        turned = ap (cost g) (reverse-cons x (y ∷ t) ∙ ap (λ (s : List ℕ). s ++ (x ∷ [])) (reverse-cons y t)
            ∙ append_assoc (reverse t) (y ∷ []) (x ∷ []))

        go : cost g (reverse (y ∷ t)) ≡ cost_onward g y t
            → cost g (reverse t ++ (y ∷ [])) + cost_onward g y (x ∷ []) ≡ cost_onward g x (y ∷ t)
        go ih = omega (arith, ap (cost g) (reverse-cons y t), cost_step y x [], cost_stay x, cost_step x y t, symmetric x y)

-- Hop count

-- "Its hop count is the number of bridges in the list less one" (01, "The chosen path"): that of three parts is the sum of theirs.
pub hops-around : (xs : List ℕ) (c : ℕ) (s ys : List ℕ) → hops (xs ++ ((c ∷ s) ++ ys)) ≡ length xs + (length s + length ys)
hops-around xs c s ys = omega (arith, length-append xs ((c ∷ s) ++ ys), length-append (c ∷ s) ys)

-- Rank

-- What keeps each place of two ranks in its order keeps the order of the ranks.
pub rank-kept : {c d h k c' d' h' k' : ℕ} (xs ys xs' ys' : List ℕ) → (c < d → c' < d') → (c ≡ d → c' ≡ d')
    → (h < k → h' < k') → (h ≡ k → h' ≡ k') → (h ≡ k → Lower xs ys → Lower xs' ys')
    → Lower (c ∷ h ∷ xs) (d ∷ k ∷ ys) → Lower (c' ∷ h' ∷ xs') (d' ∷ k' ∷ ys')
rank-kept xs ys xs' ys' f f' j j' l (inl p) = inl (f p)
rank-kept xs ys xs' ys' f f' j j' l (inr (p, inl q)) = inr (f' p, inl (j q))
rank-kept xs ys xs' ys' f f' j j' l (inr (p, inr (q, r))) = inr (f' p, inr (j' q, l q r))

-- "The frame from b to a passes the same links in reverse" (demand 3): reversal keeps the PATHID, and the rank.
pub path_id-reverse : (key : ℕ → ℕ) (p : List ℕ) → path_id key (reverse p) ≡ path_id key p
path_id-reverse key p = ap sorted (map-reverse key p) ∙ sorted-reverse (map key p)

module _ (g : Graph) (key : ℕ → ℕ) where
  pub rank-reverse : ((u v : ℕ) → g.hop u v ≡ g.hop v u) → (p : List ℕ) → rank g key (reverse p) ≡ rank g key p
  rank-reverse symmetric p = cc (cost-reverse g symmetric p, steps, path_id-reverse key p)
    where
      steps : hops (reverse p) ≡ hops p
      steps = ap (λ (n : ℕ). n - 1) (length-reverse p)

  -- "the least cost, then the fewest hops, then the lowest masked PATHID" (01, "The chosen path"): paths of one rank agree in all three.
  pub rank-places : (p q : List ℕ) → rank g key p ≡ rank g key q → (cost g p ≡ cost g q) × (hops p ≡ hops q) × (path_id key p ≡ path_id key q)
  rank-places p q e = (cc, cc, cc)

  -- Adding the same bridge or part in front of two lists that begin with the same bridge keeps the order of their ranks.
  pub rank-in-front : (xs : List ℕ) (c : ℕ) (s t : List ℕ) → Lower (rank g key (c ∷ s)) (rank g key (c ∷ t))
      → Lower (rank g key (xs ++ (c ∷ s))) (rank g key (xs ++ (c ∷ t)))
  rank-in-front xs c s t = rank-kept (path_id key (c ∷ s)) (path_id key (c ∷ t)) (path_id key (xs ++ (c ∷ s))) (path_id key (xs ++ (c ∷ t)))
      (omega (arith, cost-in-front g xs c s, cost-in-front g xs c t)) (omega (arith, cost-in-front g xs c s, cost-in-front g xs c t))
      (omega (arith, length-append xs (c ∷ s), length-append xs (c ∷ t))) (omega (arith, length-append xs (c ∷ s), length-append xs (c ∷ t)))
      ids
    where
      ids : length (c ∷ s) - 1 ≡ length (c ∷ t) - 1 → Lower (path_id key (c ∷ s)) (path_id key (c ∷ t))
          → Lower (path_id key (xs ++ (c ∷ s))) (path_id key (xs ++ (c ∷ t)))
      ids e h = rw (map-append key xs (c ∷ s), map-append key xs (c ∷ t))
          (sorted-in-front (map key xs) (map key (c ∷ s)) (map key (c ∷ t)) (omega (arith, length-map s key, length-map t key)) h)

  -- Adding the same bridge or part behind two lists that end with the same bridge keeps the order of their ranks.
  pub rank-behind : (c : ℕ) (s : List ℕ) (d : ℕ) (t ys : List ℕ) → last_of c s ≡ last_of d t
      → Lower (rank g key (c ∷ s)) (rank g key (d ∷ t)) → Lower (rank g key ((c ∷ s) ++ ys)) (rank g key ((d ∷ t) ++ ys))
  rank-behind c s d t ys l = rank-kept (path_id key (c ∷ s)) (path_id key (d ∷ t)) (path_id key ((c ∷ s) ++ ys)) (path_id key ((d ∷ t) ++ ys))
      (omega (arith, cost-behind g c s ys, cost-behind g d t ys, rest)) (omega (arith, cost-behind g c s ys, cost-behind g d t ys, rest))
      (omega (arith, length-append s ys, length-append t ys)) (omega (arith, length-append s ys, length-append t ys))
      ids
    where
      rest : cost_onward g (last_of c s) ys ≡ cost_onward g (last_of d t) ys
      rest = ap (λ (e : ℕ). cost_onward g e ys) l

      ids : length (c ∷ s) - 1 ≡ length (d ∷ t) - 1 → Lower (path_id key (c ∷ s)) (path_id key (d ∷ t))
          → Lower (path_id key ((c ∷ s) ++ ys)) (path_id key ((d ∷ t) ++ ys))
      ids e h = rw (map-append key s ys, map-append key t ys)
          (sorted-behind (map key ys) (map key (c ∷ s)) (map key (d ∷ t)) (omega (arith, length-map s key, length-map t key)) h)

  -- Adding the same part at both ends keeps the order of ranks, and keeps equal ranks equal.
  pub rank-around : (xs : List ℕ) (c : ℕ) (s t ys : List ℕ) → last_of c s ≡ last_of c t → Lower (rank g key (c ∷ s)) (rank g key (c ∷ t))
      → Lower (rank g key (xs ++ ((c ∷ s) ++ ys))) (rank g key (xs ++ ((c ∷ t) ++ ys)))
  rank-around xs c s t ys l h = rank-in-front xs c (s ++ ys) (t ++ ys) (rank-behind c s c t ys l h)

  pub rank-around-same : (xs : List ℕ) (c : ℕ) (s t ys : List ℕ) → last_of c s ≡ last_of c t → rank g key (c ∷ s) ≡ rank g key (c ∷ t)
      → rank g key (xs ++ ((c ∷ s) ++ ys)) ≡ rank g key (xs ++ ((c ∷ t) ++ ys))
  rank-around-same xs c s t ys l e = go (rank-places (c ∷ s) (c ∷ t) e)
    where
      go : (cost_onward g c s ≡ cost_onward g c t) × (length (c ∷ s) - 1 ≡ length (c ∷ t) - 1) × (path_id key (c ∷ s) ≡ path_id key (c ∷ t))
          → rank g key (xs ++ ((c ∷ s) ++ ys)) ≡ rank g key (xs ++ ((c ∷ t) ++ ys))
      go (p, q, r) = cc (costs, steps, ids)
        where
          costs : cost g (xs ++ ((c ∷ s) ++ ys)) ≡ cost g (xs ++ ((c ∷ t) ++ ys))
          costs = omega (
            arith,
            cost-in-front g xs c (s ++ ys),
            cost-in-front g xs c (t ++ ys),
            cost-behind g c s ys,
            cost-behind g c t ys,
            ap (λ (d : ℕ). cost_onward g d ys) l,
          )

          steps : hops (xs ++ ((c ∷ s) ++ ys)) ≡ hops (xs ++ ((c ∷ t) ++ ys))
          steps = omega (arith, hops-around xs c s ys, hops-around xs c t ys)

          ids : path_id key (xs ++ ((c ∷ s) ++ ys)) ≡ path_id key (xs ++ ((c ∷ t) ++ ys))
          ids = rw (map-append key xs ((c ∷ s) ++ ys), map-append key xs ((c ∷ t) ++ ys), map-append key s ys, map-append key t ys)
              (sorted-in-front-same (map key xs) (map key (c ∷ s) ++ map key ys) (map key (c ∷ t) ++ map key ys)
              (sorted-behind-same (map key ys) (map key (c ∷ s)) (map key (c ∷ t)) r))
