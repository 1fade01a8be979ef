-- Paths of least cost: their parts, no tie between two of them, no bridge twice, at most as many bridges as the graph (01, "The chosen path").
-- Assumes nothing.
use Rattle.std.specs.Prelude.{ℕ, ◌-◌, ◌≤◌, ◌<◌, ◌≡◌, refl, List, [], ◌∷◌, ◌++◌, map, ◌⊎◌, length}
use Rattle.std.proofs.Common.{arith, sym, ap, ◌∙◌, subst, append-nil, inl, inr}
use Rattle.std.proofs.lemmas.List.{length-map}
use Rattle.graph.specs.Order.{sorted}
use Rattle.graph.specs.Graph.{Graph, GraphLaws, KeyLaws, Onward, cost_onward, path_id}
use Rattle.lists.specs.Members.{In}
use Rattle.lists.proofs.laws.ListNotions.{Distinct, last_of}
use Rattle.graph.proofs.laws.Notions.{Joint, Least}
use Rattle.lists.proofs.laws.MemberLaws.{nil_not_cons, in_map, map-in, in_split}
use Rattle.lists.proofs.laws.DistinctLaws.{in-or-not, distinct_right, at_most}
use Rattle.graph.proofs.laws.OrderLaws.{insert_same, sorted_cons, length-sorted, in-sorted, sorted-in}
use Rattle.graph.proofs.laws.Ranks.{cost_step, cost_stay}
use Rattle.graph.proofs.laws.Paths.{ends, split, replaced, goes_on, cost_of_parts, cost-positive, cost-falls, rest_of, path_inside}

module _ (g : Graph) where
  -- A part of a path of "the least cost" (01, "The chosen path") is of least cost between its own ends.
  pub least_part : (a : ℕ) (t₁ t₂ t₃ : List ℕ) (b : ℕ) → Least g a (t₁ ++ (t₂ ++ t₃)) b
      → Least g (last_of a t₁) t₂ (last_of (last_of a t₁) t₂)
  least_part a t₁ t₂ t₃ b W = go (last_of a t₁) (split g a t₁ (t₂ ++ t₃) b W.way)
    where
      inner : (c d : ℕ) (t₂ : List ℕ) → Least g a (t₁ ++ (t₂ ++ t₃)) b → Onward g a t₁ c → Joint g t₁ c (t₂ ++ t₃)
          → Onward g c t₂ d → Onward g d t₃ b → Joint g t₂ d t₃ → (s : List ℕ) → Onward g c s d → cost_onward g c t₂ ≤ cost_onward g c s
      inner c d [] W o₁ j₁ o₂ o₃ j₂ s o = omega (arith, cost_stay g c)
      inner c d (v ∷ t) W o₁ j₁ o₂ o₃ j₂ s o =
          let whole = replaced g a t₁ c (v ∷ t) d t₃ b s o₁ j₁ o₃ j₂ (λ e. absurd (nil_not_cons (sym e))) o in
          omega (
            arith,
            W.no_less (t₁ ++ (s ++ t₃)) whole,
            cost_of_parts g a t₁ c ((v ∷ t) ++ t₃) o₁,
            cost_of_parts g a t₁ c (s ++ t₃) o₁,
            cost_of_parts g c (v ∷ t) d t₃ o₂,
            cost_of_parts g c s d t₃ o,
          )

      deeper : (c d : ℕ) → Onward g a t₁ c → Joint g t₁ c (t₂ ++ t₃) → Onward g c t₂ d × Onward g d t₃ b × Joint g t₂ d t₃ → Least g c t₂ d
      deeper c d o₁ j₁ (o₂, o₃, j₂) = record { way = o₂; no_less = inner c d t₂ W o₁ j₁ o₂ o₃ j₂ }

      go : (c : ℕ) → Onward g a t₁ c × Onward g c (t₂ ++ t₃) b × Joint g t₁ c (t₂ ++ t₃) → Least g c t₂ (last_of c t₂)
      go c (o₁, o, j₁) = deeper c (last_of c t₂) o₁ j₁ (split g c t₂ t₃ b o)

  -- Prefixes and suffixes of least paths are least.
  pub least_prefix : (a : ℕ) (t s : List ℕ) (b : ℕ) → Least g a (t ++ s) b → Least g a t (last_of a t)
  least_prefix a t s b W = least_part a [] t s b W

  pub least_suffix : (a : ℕ) (t s : List ℕ) (b : ℕ) → Least g a (t ++ s) b → Least g (last_of a t) s b
  least_suffix a t s b W = subst (λ (d : ℕ). Least g (last_of a t) s d) (ends g (last_of a t) s b (split g a t s b W.way).1)
      (least_part a t s [] b (subst (λ (z : List ℕ). Least g a (t ++ z) b) (sym (append-nil s)) W))

  pub least-rest : (u v : ℕ) (t : List ℕ) (b : ℕ) → Least g u (v ∷ t) b → Least g v t b
  least-rest u v t b W = least_suffix u (v ∷ []) t b W

  -- A least path has no bridge twice ("It reaches no bridge twice": demand 3).
  pub least-distinct : (u : ℕ) (t : List ℕ) (b : ℕ) → Least g u t b → Distinct (u ∷ t)
  least-distinct u [] b W = (λ h. h, tt)
  least-distinct u (v ∷ t) b W = (λ k. back (rest_of g u (v ∷ t) b u W.way k), least-distinct v t b (least-rest u v t b W))
    where
      back : ((s : List ℕ) × Onward g u s b × (cost_onward g u s < cost_onward g u (v ∷ t))) → ⊥
      back (s, o, l) = omega (arith, W.no_less s o)

  -- Every path has one beside it that has no bridge twice and is the same or costs less.
  pub without_repeats : (u : ℕ) (t : List ℕ) (b : ℕ) → Onward g u t b
      → (s : List ℕ) × Onward g u s b × Distinct (u ∷ s) × ((s ≡ t) ⊎ (cost_onward g u s < cost_onward g u t))
  without_repeats u [] b o = ([], o, (λ h. h, tt), inl refl)
  without_repeats u (v ∷ t) b (j, m, o) = go (without_repeats v t b o)
    where
      costs : (s : List ℕ) → (s ≡ t) ⊎ (cost_onward g v s < cost_onward g v t) → cost_onward g v s ≤ cost_onward g v t
      costs s (inl e) = omega (arith, ap (cost_onward g v) e)
      costs s (inr l) = omega arith

      empty : (s : List ℕ) → Onward g v s b → cost_onward g v s ≤ cost_onward g v t → t ≡ [] → s ≡ []
      empty [] p l e = refl
      empty (x ∷ s) p l e = absurd (omega (arith, cost-positive g v x s b p, ap (cost_onward g v) e, cost_stay g v))

      whole : (s : List ℕ) → (s ≡ t) ⊎ (cost_onward g v s < cost_onward g v t) → (v ∷ s ≡ v ∷ t) ⊎ (cost_onward g u (v ∷ s) < cost_onward g u (v ∷ t))
      whole s (inl e) = inl (ap (λ (z : List ℕ). v ∷ z) e)
      whole s (inr l) = inr (omega (arith, cost_step g u v s, cost_step g u v t))

      cut : (s : List ℕ) → Onward g u (v ∷ s) b → Distinct (v ∷ s) → cost_onward g v s ≤ cost_onward g v t
          → ((ys : List ℕ) × (zs : List ℕ) × (v ∷ s ≡ ys ++ (u ∷ zs)))
          → (r : List ℕ) × Onward g u r b × Distinct (u ∷ r) × ((r ≡ v ∷ t) ⊎ (cost_onward g u r < cost_onward g u (v ∷ t)))
      cut s p d l (ys, zs, e) = (
        zs,
        tail.2,
        distinct_right ys (u ∷ zs) (subst (λ (z : List ℕ). Distinct z) e d),
        inr (omega (arith, cost-falls g u ys u zs b q, ap (cost_onward g u) e, cost_step g u v s, cost_step g u v t)),
      )
        where
          q : Onward g u (ys ++ (u ∷ zs)) b
          q = subst (λ (z : List ℕ). Onward g u z b) e p

          tail : Onward g (last_of u ys) (u ∷ zs) b
          tail = (split g u ys (u ∷ zs) b q).1

      step : (s : List ℕ) → Onward g u (v ∷ s) b → Distinct (v ∷ s) → (s ≡ t) ⊎ (cost_onward g v s < cost_onward g v t)
          → In u (v ∷ s) ⊎ (In u (v ∷ s) → ⊥)
          → (r : List ℕ) × Onward g u r b × Distinct (u ∷ r) × ((r ≡ v ∷ t) ⊎ (cost_onward g u r < cost_onward g u (v ∷ t)))
      step s p d c (inl k) = cut s p d (costs s c) (in_split u (v ∷ s) k)
      step s p d c (inr f) = (v ∷ s, p, (f, d), whole s c)

      go : ((s : List ℕ) × Onward g v s b × Distinct (v ∷ s) × ((s ≡ t) ⊎ (cost_onward g v s < cost_onward g v t)))
          → (r : List ℕ) × Onward g u r b × Distinct (u ∷ r) × ((r ≡ v ∷ t) ⊎ (cost_onward g u r < cost_onward g u (v ∷ t)))
      go (s, p, d, c) = step s (j, goes_on g v t s (empty s p (costs s c)) m, p) d c (in-or-not u (v ∷ s))

module _ (g : Graph) (L : GraphLaws g) where
  -- A path without a bridge twice has at most as many bridges as the graph.
  pub distinct-bounded : (u : ℕ) (t : List ℕ) (b : ℕ) → Onward g u t b → Distinct (u ∷ t) → length t ≤ g.size - 1
  distinct-bounded u [] b o d = omega arith
  distinct-bounded u (v ∷ t) b o d = omega (arith, at_most g.size (u ∷ v ∷ t) d (path_inside g L u v t b o))

  module _ (key : ℕ → ℕ) (K : KeyLaws g key) where
    -- The same sorted keys mean the same bridges.
    same-bridges : (p q : List ℕ) → ((x : ℕ) → In x p → x < g.size) → ((x : ℕ) → In x q → x < g.size)
        → path_id key p ≡ path_id key q → (x : ℕ) → In x p → In x q
    same-bridges p q hp hq e x k = go (map-in key (key x) q (sorted-in (key x) (map key q) there))
      where
        there : In (key x) (sorted (map key q))
        there = subst (λ (l : List ℕ). In (key x) l) e (in-sorted (key x) (map key p) (in_map key x p k))

        go : ((y : ℕ) × In y q × (key x ≡ key y)) → In x q
        go (y, l, f) = rw (K.distinct x y (hp x k) (hq y l) f) l

    -- Least paths from two different bridges to one have different PATHIDs: each would pass the other's first bridge,
    -- and the rest from there would cost less than the rest from the other, both ways round.
    pub least-apart : (x : ℕ) (t : List ℕ) (y : ℕ) (s : List ℕ) (b : ℕ) → Least g x t b → Least g y s b
        → path_id key (x ∷ t) ≡ path_id key (y ∷ s) → x ≡ y
    least-apart x t y s b P Q e = go t s P Q e lengths
      where
        lengths : length t ≡ length s
        lengths = omega (
          arith,
          length-sorted (map key (x ∷ t)),
          length-sorted (map key (y ∷ s)),
          length-map t key,
          length-map s key,
          ap (λ (l : List ℕ). length l) e,
        )

        cross : (t s : List ℕ) → Least g x t b → Least g y s b
            → ((r : List ℕ) × Onward g y r b × (cost_onward g y r < cost_onward g x t))
            → ((r : List ℕ) × Onward g x r b × (cost_onward g x r < cost_onward g y s)) → ⊥
        cross t s P Q (r, o, l) (r', o', l') = omega (arith, P.no_less r' o', Q.no_less r o)

        meet : (t s : List ℕ) → Least g x t b → Least g y s b → In y (x ∷ t) → In x (y ∷ s) → x ≡ y
        meet t s P Q (inl f) k = sym f
        meet t s P Q (inr h) (inl f) = f
        meet t s P Q (inr h) (inr k) = absurd (cross t s P Q (rest_of g x t b y P.way h) (rest_of g y s b x Q.way k))

        go : (t s : List ℕ) → Least g x t b → Least g y s b → path_id key (x ∷ t) ≡ path_id key (y ∷ s) → length t ≡ length s → x ≡ y
        go [] [] P Q e l = P.way ∙ sym Q.way
        go [] (w ∷ s) P Q e l = absurd (omega arith)
        go (v ∷ t) [] P Q e l = absurd (omega arith)
        go (v ∷ t) (w ∷ s) P Q e l = meet (v ∷ t) (w ∷ s) P Q
            (same-bridges (y ∷ w ∷ s) (x ∷ v ∷ t) (path_inside g L y w s b Q.way) (path_inside g L x v t b P.way) (sym e) y (inl refl))
            (same-bridges (x ∷ v ∷ t) (y ∷ w ∷ s) (path_inside g L x v t b P.way) (path_inside g L y w s b Q.way) e x (inl refl))

    -- No tie between different least paths: "Every other list of bridges .. costs more, or ties and has more hops,
    -- or ties in both and has a higher masked PATHID" (demand 3).
    pub no_tie : (u : ℕ) (t s : List ℕ) (b : ℕ) → Least g u t b → Least g u s b → path_id key (u ∷ t) ≡ path_id key (u ∷ s) → t ≡ s
    no_tie u [] [] b P Q e = refl
    no_tie u [] (y ∷ s) b P Q e = absurd (omega (arith, length-sorted (key u ∷ []), length-sorted (map key (u ∷ y ∷ s)), ap (λ (l : List ℕ). length l) e))
    no_tie u (x ∷ t) [] b P Q e = absurd (omega (arith, length-sorted (key u ∷ []), length-sorted (map key (u ∷ x ∷ t)), ap (λ (l : List ℕ). length l) e))
    no_tie u (x ∷ t) (y ∷ s) b P Q e = go (least-apart x t y s b (least-rest g u x t b P) (least-rest g u y s b Q) rests) (no_tie x t s b (least-rest g u x t b P))
      where
        rests : path_id key (x ∷ t) ≡ path_id key (y ∷ s)
        rests = insert_same (key u) (path_id key (x ∷ t)) (path_id key (y ∷ s))
            (sym (sorted_cons (key u) (map key (x ∷ t))) ∙ e ∙ sorted_cons (key u) (map key (y ∷ s)))

        go : x ≡ y → (Least g x s b → path_id key (x ∷ t) ≡ path_id key (x ∷ s) → t ≡ s) → x ∷ t ≡ y ∷ s
        go f ih = cc (f, ih (rw f (least-rest g u y s b Q)) (rests ∙ ap (λ (z : ℕ). path_id key (z ∷ s)) (sym f)))
