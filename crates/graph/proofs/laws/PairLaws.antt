-- Joined pairs rise, each is there once, and a chosen path takes as many of them as it has hops (02, A5). Assumes nothing.
use Rattle.std.specs.Prelude.{ℕ, suc, ◌+◌, ◌*◌, ◌<◌, ◌≡◌, refl, ◌⊎◌, Bool, true, false, ◌&&◌, ◌||◌, T, eqb, length}
use native.Mathlib.Omega.{arith}
use Rattle.std.proofs.Common.{sym, ◌∙◌, subst, inl, lt→ltb}
use Rattle.std.proofs.Math.Path.{ap}
use mathlib.Core.List.{List, [], ◌∷◌}
use Rattle.std.proofs.Math.Logic.{inr}
use Rattle.std.proofs.Math.Bool.{cond}
use Rattle.std.proofs.Math.Dec.{ltb, ltb→lt}
use Rattle.lists.specs.Lists.{rising, selected}
use Rattle.lists.specs.Members.{In, EveryTwo, sum_over}
use Rattle.lists.proofs.laws.ListNotions.{Distinct}
use Rattle.lists.proofs.laws.NumberLaws.{compared, either_left, either_right, two-equal, equal-two, is_false}
use Rattle.lists.proofs.laws.MemberLaws.{in_map, map-in, in-flat_map, flat_map-in}
use Rattle.lists.proofs.laws.SelectedLaws.{selected-in, in-selected, rising-in, in-rising}
use Rattle.lists.proofs.laws.DistinctLaws.{every-two-distinct, distinct-selected, only_one}
use Rattle.lists.proofs.laws.GivenLaws.{every-two-selected, every-two-rising, every-two_weaker, every-two-map, every-two-flat_map}
use Rattle.lists.proofs.laws.SumLaws.{sum_same, sum_nothing, sum_add, sum_each}
use Rattle.graph.specs.Graph.{Graph, GraphLaws, Joined, Onward, hops}
use Rattle.graph.specs.Chosen.{Chosen, neighbours}
use Rattle.graph.specs.Pairs.{Pair, pairs_of, joined_pairs, is_hop_of, takes}
use Rattle.graph.proofs.laws.Notions.{Least}
use Rattle.graph.proofs.laws.Paths.{entered-inside}
use Rattle.graph.proofs.laws.ChosenPaths.{chosen-first, chosen-distinct}

-- "in rising order": by the lower bridge, then by the higher.
abbrev pub Rises : Pair → Pair → Type 0
Rises q r = (q.lower < r.lower) ⊎ ((q.lower ≡ r.lower) × (q.higher < r.higher))

module _ (g : Graph) where
  -- Exactly the pairs of two different bridges of the graph that are joined are there, the lower bridge first.
  pub pair-joined : (q : Pair) → In q (joined_pairs g) → (q.lower < q.higher) × Joined g q.lower q.higher × (q.higher < g.size)
  unfolding joined_pairs neighbours
  pair-joined q k = go (flat_map-in (pairs_of g) q (rising 0 g.size) k)
    where
      found : (u : ℕ) → ((v : ℕ) × In v (selected (λ v. ltb u v) (neighbours g u)) × (q ≡ record { lower = u; higher = v }))
          → (q.lower < q.higher) × Joined g q.lower q.higher × (q.higher < g.size)
      found u (v, i, e) =
          let (n, l) = selected-in (λ v. ltb u v) v (neighbours g u) i
          in let (m, j) = selected-in (λ v. ltb 0 (g.hop u v)) v (rising 0 g.size) n
          in rw e (ltb→lt u v l, ltb→lt 0 (g.hop u v) j, omega (arith, (rising-in 0 g.size v m).1))

      go : ((u : ℕ) × In u (rising 0 g.size) × In q (pairs_of g u))
          → (q.lower < q.higher) × Joined g q.lower q.higher × (q.higher < g.size)
      go (u, i, k) = found u (map-in (λ v. record { lower = u; higher = v }) q (selected (λ v. ltb u v) (neighbours g u)) k)

  pub joined-pair : (u v : ℕ) → u < v → v < g.size → Joined g u v → In (record { lower = u; higher = v }) (joined_pairs g)
  unfolding joined_pairs neighbours
  joined-pair u v l h j =
      in-flat_map (pairs_of g) (record { lower = u; higher = v }) u (rising 0 g.size) (in-rising 0 g.size u (omega arith) (omega arith))
      (in_map (λ v. record { lower = u; higher = v }) v (selected (λ v. ltb u v) (neighbours g u))
      (in-selected (λ v. ltb u v) v (neighbours g u)
      (in-selected (λ v. ltb 0 (g.hop u v)) v (rising 0 g.size) (in-rising 0 g.size v (omega arith) (omega arith)) (lt→ltb 0 (g.hop u v) j))
      (lt→ltb u v l)))

  -- They rise, so that each is there once.
  pub pairs_rise : EveryTwo Rises (joined_pairs g)
  unfolding joined_pairs neighbours
  pairs_rise = every-two-flat_map Rises (λ u w. u < w) (pairs_of g) (rising 0 g.size) (every-two-rising 0 g.size) one two
    where
      one : (u : ℕ) → EveryTwo Rises (pairs_of g u)
      one u = every-two-map Rises (λ v. record { lower = u; higher = v }) (selected (λ v. ltb u v) (neighbours g u))
          (every-two_weaker (λ x y. x < y) (λ x y. Rises (record { lower = u; higher = x }) (record { lower = u; higher = y }))
          (selected (λ v. ltb u v) (neighbours g u)) (λ x y l. inr (refl, l))
          (every-two-selected (λ x y. x < y) (λ v. ltb u v) (neighbours g u)
          (every-two-selected (λ x y. x < y) (λ v. ltb 0 (g.hop u v)) (rising 0 g.size) (every-two-rising 0 g.size))))

      lower_is : (u : ℕ) (q : Pair) → In q (pairs_of g u) → q.lower ≡ u
      lower_is u q i = let (v, k, e) = map-in (λ v. record { lower = u; higher = v }) q (selected (λ v. ltb u v) (neighbours g u)) i in ap (λ (r : Pair). r.lower) e

      two : (u w : ℕ) → u < w → (q r : Pair) → In q (pairs_of g u) → In r (pairs_of g w) → Rises q r
      two u w l q r i k = inl (omega (arith, lower_is u q i, lower_is w r k))

  pub pairs_distinct : Distinct (joined_pairs g)
  pairs_distinct = every-two-distinct Rises (joined_pairs g) pairs_rise (λ q i. never q)
    where
      never : (q : Pair) → Rises q q → ⊥
      never q (inl l) = omega arith
      never q (inr (e, l)) = omega arith

-- The hop of a pair, one way and the other.
pub hop-either : (q : Pair) (x y : ℕ) → T (is_hop_of q x y) → ((x ≡ q.lower) × (y ≡ q.higher)) ⊎ ((x ≡ q.higher) × (y ≡ q.lower))
hop-either q x y h = go (eqb x q.lower && eqb y q.higher) (two-equal x q.lower y q.higher) h
  where
    go : (b : Bool) → (T b → (x ≡ q.lower) × (y ≡ q.higher)) → T (b || (eqb x q.higher && eqb y q.lower))
        → ((x ≡ q.lower) × (y ≡ q.higher)) ⊎ ((x ≡ q.higher) × (y ≡ q.lower))
    go true f h = inl (f tt)
    go false f h = inr (two-equal x q.higher y q.lower h)

-- A list without one of the pair's bridges does not take its hop.
pub not_taken : (q : Pair) (x : ℕ) → (x ≡ q.lower) ⊎ (x ≡ q.higher) → (p : List ℕ) → (In x p → ⊥) → takes q p ≡ false
unfolding takes
not_taken q x end [] n = refl
not_taken q x end (y ∷ []) n = refl
not_taken q x end (y ∷ z ∷ t) n = rw (is_false (is_hop_of q y z) (λ h. go end (hop-either q y z h)), not_taken q x end (z ∷ t) (λ k. n (inr k))) refl
  where
    go : (x ≡ q.lower) ⊎ (x ≡ q.higher) → ((y ≡ q.lower) × (z ≡ q.higher)) ⊎ ((y ≡ q.higher) × (z ≡ q.lower)) → ⊥
    go (inl e) (inl (f, h)) = n (inl (e ∙ sym f))
    go (inl e) (inr (f, h)) = n (inr (inl (e ∙ sym h)))
    go (inr e) (inl (f, h)) = n (inr (inl (e ∙ sym h)))
    go (inr e) (inr (f, h)) = n (inl (e ∙ sym f))

-- A list that has no bridge twice takes a hop by its first two bridges or later, not both: what the hop is given is given once.
pub taken-once : (q : Pair) (x y : ℕ) (t : List ℕ) (n : ℕ) → Distinct (x ∷ y ∷ t)
    → cond (takes q (x ∷ y ∷ t)) n 0 ≡ cond (is_hop_of q x y) n 0 + cond (takes q (y ∷ t)) n 0
unfolding takes
taken-once q x y t n d = go (is_hop_of q x y) (λ h. later (hop-either q x y h))
  where
    later : ((x ≡ q.lower) × (y ≡ q.higher)) ⊎ ((x ≡ q.higher) × (y ≡ q.lower)) → takes q (y ∷ t) ≡ false
    later (inl (e, f)) = not_taken q x (inl e) (y ∷ t) d.0
    later (inr (e, f)) = not_taken q x (inr e) (y ∷ t) d.0

    go : (b : Bool) → (T b → takes q (y ∷ t) ≡ false) → cond (b || takes q (y ∷ t)) n 0 ≡ cond b n 0 + cond (takes q (y ∷ t)) n 0
    go true f = rw (f tt) (omega arith)
    go false f = omega arith

module _ (g : Graph) (L : GraphLaws g) where
  -- A hop between two different bridges is one joined pair's.
  one-pair : (x y : ℕ) → Joined g x y → (x ≡ y → ⊥) → length (selected (λ q. is_hop_of q x y) (joined_pairs g)) ≡ 1
  one-pair x y j d = go (compared x y)
    where
      -- The pair with the lower bridge `u` and the higher `v`.
      only : (u v : ℕ) → u < v → Joined g u v → ((q : Pair) → In q (joined_pairs g) → T (is_hop_of q x y) → q ≡ record { lower = u; higher = v })
          → T (is_hop_of (record { lower = u; higher = v }) x y) → length (selected (λ q. is_hop_of q x y) (joined_pairs g)) ≡ 1
      only u v l k same h =
          ap (λ (qs : List Pair). length qs)
          (only_one (selected (λ q. is_hop_of q x y) (joined_pairs g)) (record { lower = u; higher = v })
          (distinct-selected (λ q. is_hop_of q x y) (joined_pairs g) (pairs_distinct g))
          (in-selected (λ q. is_hop_of q x y) (record { lower = u; higher = v }) (joined_pairs g) (joined-pair g u v l (entered-inside g L u v k) k) h)
          (λ q i. let (m, t) = selected-in (λ q. is_hop_of q x y) q (joined_pairs g) i in same q m t))

      is_pair : (q : Pair) (u v : ℕ) → q.lower ≡ u → q.higher ≡ v → q ≡ record { lower = u; higher = v }
      is_pair q u v e f = λ i. record { lower = e i; higher = f i }

      go : (x < y) ⊎ (x ≡ y) ⊎ (y < x) → length (selected (λ q. is_hop_of q x y) (joined_pairs g)) ≡ 1
      go (inl l) = only x y l j (λ q i h. pick q (pair-joined g q i).0 (hop-either q x y h))
          (either_left (eqb x x && eqb y y) (eqb x y && eqb y x) (equal-two x x y y refl refl))
        where
          pick : (q : Pair) → q.lower < q.higher → ((x ≡ q.lower) × (y ≡ q.higher)) ⊎ ((x ≡ q.higher) × (y ≡ q.lower)) → q ≡ record { lower = x; higher = y }
          pick q m (inl (e, f)) = is_pair q x y (sym e) (sym f)
          pick q m (inr (e, f)) = absurd (omega arith)
      go (inr (inl e)) = absurd (d e)
      go (inr (inr l)) = only y x l (rw (L.symmetric y x) j) (λ q i h. pick q (pair-joined g q i).0 (hop-either q x y h))
          (either_right (eqb x y && eqb y x) (eqb x x && eqb y y) (equal-two x x y y refl refl))
        where
          pick : (q : Pair) → q.lower < q.higher → ((x ≡ q.lower) × (y ≡ q.higher)) ⊎ ((x ≡ q.higher) × (y ≡ q.lower)) → q ≡ record { lower = y; higher = x }
          pick q m (inl (e, f)) = absurd (omega arith)
          pick q m (inr (e, f)) = is_pair q y x (sym f) (sym e)

  -- What each taken pair is given, over all joined pairs: so much for each hop.
  onward_pairs : (n u : ℕ) (t : List ℕ) (b : ℕ) → Onward g u t b → Distinct (u ∷ t)
      → sum_over (λ q. cond (takes q (u ∷ t)) n 0) (joined_pairs g) ≡ length t * n
  unfolding takes
  onward_pairs n u [] b o d = sum_nothing (joined_pairs g) ∙ omega arith
  onward_pairs n u (v ∷ t) b (j, m, o) d =
      sum_same (λ q. cond (takes q (u ∷ v ∷ t)) n 0) (λ q. cond (is_hop_of q u v) n 0 + cond (takes q (v ∷ t)) n 0) (joined_pairs g) (λ q i. taken-once q u v t n d)
      ∙ sum_add (λ q. cond (is_hop_of q u v) n 0) (λ q. cond (takes q (v ∷ t)) n 0) (joined_pairs g)
      ∙ omega (
        arith,
        sum_each n (λ q. is_hop_of q u v) (joined_pairs g),
        ap (λ (k : ℕ). k * n) (one-pair u v j (λ e. d.0 (inl e))),
        onward_pairs n v t b o d.1,
      )

  -- A chosen path takes as many joined pairs as it has hops.
  pub pairs_taken : (key : ℕ → ℕ) (a b : ℕ) (p : List ℕ) → Chosen g key a b p → (n : ℕ) → sum_over (λ q. cond (takes q p) n 0) (joined_pairs g) ≡ hops p * n
  pairs_taken key a b p P n = go (chosen-first g key a b p P) (chosen-distinct g key a b p P)
    where
      go : ((t : List ℕ) × (p ≡ a ∷ t) × Least g a t b) → Distinct p → sum_over (λ q. cond (takes q p) n 0) (joined_pairs g) ≡ hops p * n
      go (t, e, W) d =
          let l : length p ≡ suc (length t) = ap (λ (z : List ℕ). length z) e
          in let h : hops p ≡ length t = omega arith
          in ap (λ (z : List ℕ). sum_over (λ q. cond (takes q z) n 0) (joined_pairs g)) e
          ∙ onward_pairs n a t b W.way (subst (λ (z : List ℕ). Distinct z) e d)
          ∙ ap (λ (k : ℕ). k * n) (sym h)
