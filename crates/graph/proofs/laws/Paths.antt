-- Parts of paths, paths joined to one, reversed paths, and costs along a path (01, "The chosen path").
-- Assumes nothing.
use Rattle.std.specs.Prelude.{ℕ, suc, ◌+◌, ◌<◌, ◌≡◌, refl, ◌⊎◌, T, length}
use Rattle.std.proofs.Common.{arith, sym, ap, ◌∙◌, subst, inl, inr, length-append}
use mathlib.Core.List.{List, [], ◌∷◌, ◌++◌, reverse, reverse-cons}
use Rattle.graph.specs.Graph.{Graph, GraphLaws, Joined, GoesOn, Onward, IsPath, cost_onward}
use Rattle.lists.specs.Members.{In}
use Rattle.lists.proofs.laws.ListNotions.{last_of}
use Rattle.graph.proofs.laws.Notions.{Joint}
use Rattle.lists.proofs.laws.MemberLaws.{nil_not_cons, append_empty}
use Rattle.graph.proofs.laws.Ranks.{cost_step, cost-behind}

module _ (g : Graph) where
  -- Which bridges may lie between goes by place: every place of a list but the first and the last.

  -- A bridge that may have a list after it may have any other that is empty where the first is.
  pub goes_on : (v : ℕ) (s t : List ℕ) → (s ≡ [] → t ≡ []) → GoesOn g v s → GoesOn g v t
  goes_on v [] [] f h = tt
  goes_on v [] (x ∷ t) f h = absurd (nil_not_cons (sym (f refl)))
  goes_on v (x ∷ s) [] f h = tt
  goes_on v (x ∷ s) (y ∷ t) f h = h

  -- A list that leads on to `b` ends there.
  pub ends : (u : ℕ) (t : List ℕ) (b : ℕ) → Onward g u t b → last_of u t ≡ b
  ends u [] b e = e
  ends u (v ∷ t) b (j, m, o) = ends v t b o

  -- Parts of an allowed path are allowed.
  pub split : (u : ℕ) (t s : List ℕ) (b : ℕ) → Onward g u (t ++ s) b
      → Onward g u t (last_of u t) × Onward g (last_of u t) s b × Joint g t (last_of u t) s
  split u [] s b o = (refl, o, tt)
  split u (v ∷ []) s b (j, m, o) = ((j, tt, refl), o, m)
  split u (v ∷ w ∷ t) s b (j, m, o) = let r = split v (w ∷ t) s b o in ((j, m, r.0), r.1, r.2)

  -- Two allowed paths join to one where the joint may lie between or is an end of the whole.
  pub join : (u : ℕ) (t : List ℕ) (c : ℕ) (s : List ℕ) (b : ℕ) → Onward g u t c → Onward g c s b → Joint g t c s → Onward g u (t ++ s) b
  join u [] c s b e o h = subst (λ (x : ℕ). Onward g x s b) (sym e) o
  join u (v ∷ []) c s b (j, m, e) o h =
      (j, subst (λ (x : ℕ). GoesOn g x s) (sym e) h, subst (λ (x : ℕ). Onward g x s b) (sym e) o)
  join u (v ∷ w ∷ t) c s b (j, m, p) o h = (j, m, join v (w ∷ t) c s b p o h)

  -- The same for whole paths.
  pub path_part : (a b : ℕ) (xs : List ℕ) (c : ℕ) (t ys : List ℕ) → IsPath g a b (xs ++ ((c ∷ t) ++ ys)) → IsPath g c (last_of c t) (c ∷ t)
  path_part a b [] c t ys (e, o) = (refl, (split c t ys b o).0)
  path_part a b (x ∷ xs) c t ys (e, o) = (refl, (split c t ys b (split x xs (c ∷ (t ++ ys)) b o).1.2).0)

  pub path_join : (a c b : ℕ) (p s : List ℕ) → IsPath g a c p → IsPath g c b (c ∷ s) → T (g.between c) ⊎ (length p ≡ 1) ⊎ (s ≡ []) → IsPath g a b (p ++ s)
  path_join a c b [] s k _ h = elim k [ ]
  path_join a c b (u ∷ t) s (e, o) (f, o') h = (e, join u t c s b o o' (joint t s h))
    where
      joint : (t s : List ℕ) → T (g.between c) ⊎ (length (u ∷ t) ≡ 1) ⊎ (s ≡ []) → Joint g t c s
      joint [] s h = tt
      joint (v ∷ t) [] h = tt
      joint (v ∷ t) (w ∷ s) (inl h) = h
      joint (v ∷ t) (w ∷ s) (inr (inl k)) = absurd (omega arith)
      joint (v ∷ t) (w ∷ s) (inr (inr k)) = absurd (nil_not_cons (sym k))

  -- A part of an allowed path may be replaced by another allowed part with the same ends;
  -- a part of no hop, at an end of the path, only by itself.
  pub replaced : (a : ℕ) (t₁ : List ℕ) (c : ℕ) (t₂ : List ℕ) (d : ℕ) (t₃ : List ℕ) (b : ℕ) (s : List ℕ)
      → Onward g a t₁ c → Joint g t₁ c (t₂ ++ t₃) → Onward g d t₃ b → Joint g t₂ d t₃ → (t₂ ≡ [] → s ≡ []) → Onward g c s d
      → Onward g a (t₁ ++ (s ++ t₃)) b
  replaced a t₁ c t₂ d t₃ b s o₁ j₁ o₃ j₂ f o =
      join a t₁ c (s ++ t₃) b o₁ (join c s d t₃ b o o₃ (after s t₂ f j₂)) (before t₁ j₁)
    where
      after : (s t : List ℕ) → (t ≡ [] → s ≡ []) → Joint g t d t₃ → Joint g s d t₃
      after [] t f h = tt
      after (x ∷ s) [] f h = absurd (nil_not_cons (sym (f refl)))
      after (x ∷ s) (y ∷ t) f h = h

      empty : t₂ ++ t₃ ≡ [] → s ++ t₃ ≡ []
      empty e = let r = append_empty t₂ t₃ e in cc (f r.0, r.1)

      before : (t : List ℕ) → Joint g t c (t₂ ++ t₃) → Joint g t c (s ++ t₃)
      before [] h = tt
      before (x ∷ t) h = goes_on c (t₂ ++ t₃) (s ++ t₃) empty h

  -- Cost along a path

  -- The cost of a path is the sum of its two parts' costs.
  pub cost_of_parts : (u : ℕ) (t : List ℕ) (c : ℕ) (s : List ℕ) → Onward g u t c → cost_onward g u (t ++ s) ≡ cost_onward g u t + cost_onward g c s
  cost_of_parts u t c s o = cost-behind g u t s ∙ ap (λ (d : ℕ). cost_onward g u t + cost_onward g d s) (ends u t c o)

  -- Every hop costs at least 1 ("metric 1 to 16,777,215": 01, "The table").
  pub cost-positive : (u v : ℕ) (t : List ℕ) (b : ℕ) → Onward g u (v ∷ t) b → 0 < cost_onward g u (v ∷ t)
  cost-positive u v t b o = omega (arith, cost_step g u v t)

  -- Costs strictly rise along a path (01, "The chosen path").
  pub cost-rises : (u : ℕ) (t : List ℕ) (c v : ℕ) (s : List ℕ) (b : ℕ) → Onward g u t c → Onward g c (v ∷ s) b
      → cost_onward g u t < cost_onward g u (t ++ (v ∷ s))
  cost-rises u t c v s b o p = omega (arith, cost_of_parts u t c (v ∷ s) o, cost-positive c v s b p)

  -- They fall from each bridge on it to every later one: what is left of a path from a later bridge costs less.
  pub cost-falls : (u : ℕ) (t : List ℕ) (c : ℕ) (s : List ℕ) (b : ℕ) → Onward g u (t ++ (c ∷ s)) b → cost_onward g c s < cost_onward g u (t ++ (c ∷ s))
  cost-falls u [] c s b o = omega (arith, cost_step g u c s)
  cost-falls u (v ∷ t) c s b o = omega (arith, cost_step g u v (t ++ (c ∷ s)), cost-falls v t c s b o.2)

  -- From any bridge that a path comes to, its rest leads to the same end, and costs less than the whole.
  pub rest_of : (u : ℕ) (t : List ℕ) (b c : ℕ) → Onward g u t b → In c t → (s : List ℕ) × Onward g c s b × (cost_onward g c s < cost_onward g u t)
  rest_of u [] b c _ h = elim h [ ]
  rest_of u (v ∷ t) b c (j, m, o) (inl e) = (
    t,
    subst (λ (x : ℕ). Onward g x t b) (sym e) o,
    subst (λ (x : ℕ). cost_onward g x t < cost_onward g u (v ∷ t)) (sym e) (cost-falls u [] v t b (j, m, o)),
  )
  rest_of u (v ∷ t) b c (j, m, o) (inr k) = go (rest_of v t b c o k)
    where
      go : ((s : List ℕ) × Onward g c s b × (cost_onward g c s < cost_onward g v t))
          → (s : List ℕ) × Onward g c s b × (cost_onward g c s < cost_onward g u (v ∷ t))
      go (s, p, l) = (s, p, omega (arith, cost_step g u v t))

  -- A path as its first bridge and the list after it.
  pub path-first : (a b : ℕ) (p : List ℕ) → IsPath g a b p → (t : List ℕ) × (p ≡ a ∷ t) × Onward g a t b
  path-first a b [] h = elim h [ ]
  path-first a b (u ∷ t) (e, o) = (t, ap (λ (x : ℕ). x ∷ t) e, subst (λ (x : ℕ). Onward g x t b) e o)

module _ (g : Graph) (L : GraphLaws g) where
  -- A bridge that a path comes to is a bridge of the graph, and so is one that it leaves.
  pub entered-inside : (u v : ℕ) → Joined g u v → v < g.size
  entered-inside u v j = L.inside v u (rw (L.symmetric v u) j)

  pub rest-inside : (u : ℕ) (t : List ℕ) (b : ℕ) → Onward g u t b → (x : ℕ) → In x t → x < g.size
  rest-inside u [] b _ x h = elim h [ ]
  rest-inside u (v ∷ t) b (j, m, o) x (inl e) = rw e (entered-inside u v j)
  rest-inside u (v ∷ t) b (j, m, o) x (inr k) = rest-inside v t b o x k

  pub path_inside : (u v : ℕ) (t : List ℕ) (b : ℕ) → Onward g u (v ∷ t) b → (x : ℕ) → In x (u ∷ v ∷ t) → x < g.size
  path_inside u v t b (j, m, o) x (inl e) = rw e (L.inside u v j)
  path_inside u v t b (j, m, o) x (inr k) = rest-inside u (v ∷ t) b (j, m, o) x k

  pub end-inside : (u v : ℕ) (t : List ℕ) (b : ℕ) → Onward g u (v ∷ t) b → b < g.size
  end-inside u v [] b (j, m, e) = rw (← e) (entered-inside u v j)
  end-inside u v (w ∷ t) b (j, m, o) = end-inside v w t b o

  -- A path from a bridge of the graph stays among the bridges of the graph.
  pub stays-inside : (a b : ℕ) (p : List ℕ) → a < g.size → IsPath g a b p → (x : ℕ) → In x p → x < g.size
  stays-inside a b [] h k x _ = elim k [ ]
  stays-inside a b (u ∷ t) h (e, o) x (inl f) = rw (f, e) h
  stays-inside a b (u ∷ t) h (e, o) x (inr k) = rest-inside u t b o x k

  -- "The frame from b to a passes the same links in reverse" (demand 3): a path reversed is a path.
  pub onward-reverse : (u : ℕ) (t : List ℕ) (b : ℕ) → Onward g u t b
      → (s : List ℕ) × (reverse (u ∷ t) ≡ b ∷ s) × Onward g b s u × (length s ≡ length t)
  onward-reverse u [] b e = ([], ap (λ (x : ℕ). x ∷ []) e, sym e, refl)
  onward-reverse u (v ∷ t) b (j, m, o) = go (onward-reverse v t b o)
    where
      on : (s t : List ℕ) → length s ≡ length t → GoesOn g v t → Joint g s v (u ∷ [])
      on [] t l h = tt
      on (x ∷ s) [] l h = absurd (omega arith)
      on (x ∷ s) (y ∷ t) l h = h

      go : ((s : List ℕ) × (reverse (v ∷ t) ≡ b ∷ s) × Onward g b s v × (length s ≡ length t))
          → (s : List ℕ) × (reverse (u ∷ v ∷ t) ≡ b ∷ s) × Onward g b s u × (length s ≡ suc (length t))
      go (s, e, p, l) = (
        s ++ (u ∷ []),
        reverse-cons u (v ∷ t) ∙ ap (λ (q : List ℕ). q ++ (u ∷ [])) e,
        join g b s v (u ∷ []) u p (rw (L.symmetric v u) j, tt, refl) (on s t l m),
        omega (arith, length-append s (u ∷ [])),
      )

  pub path-reverse : (a b : ℕ) (p : List ℕ) → IsPath g a b p → IsPath g b a (reverse p)
  path-reverse a b [] h = elim h [ ]
  path-reverse a b (u ∷ t) (e, o) = go (onward-reverse u t b o)
    where
      go : ((s : List ℕ) × (reverse (u ∷ t) ≡ b ∷ s) × Onward g b s u × (length s ≡ length t)) → IsPath g b a (reverse (u ∷ t))
      go (s, f, p, l) = subst (λ (q : List ℕ). IsPath g b a q) (sym f) (refl, subst (λ (x : ℕ). Onward g b s x) e p)
