-- The chosen path: it is unique, of least cost, without a bridge twice; its parts and its reverse are chosen;
-- its cost and hop count do not depend on the key (01, "The chosen path").
-- Assumes nothing.
use Rattle.std.specs.Prelude.{ℕ, ◌-◌, ◌≤◌, ◌<◌, ◌≡◌, refl, List, [], ◌∷◌, ◌++◌, map, reverse, ◌⊎◌, length}
use Rattle.std.proofs.Common.{arith, sym, ap, ◌∙◌, subst, append-nil, append_assoc, inl, inr}
use Rattle.std.proofs.lemmas.List.{append_cancel_left, append_cancel_right, reverse-reverse, length-map}
use Rattle.graph.specs.Order.{Lower}
use Rattle.graph.specs.Graph.{Graph, GraphLaws, KeyLaws, Onward, IsPath, cost, hops, path_id, rank}
use Rattle.graph.specs.Chosen.{Chosen}
use Rattle.lists.specs.Members.{In}
use Rattle.lists.proofs.laws.ListNotions.{Distinct, last_of, HasPart}
use Rattle.graph.proofs.laws.Notions.{Joint, Least, RanksAbove}
use Rattle.lists.proofs.laws.NumberLaws.{le_or_gt}
use Rattle.lists.proofs.laws.MemberLaws.{nil_not_cons, last_of_append, two_in}
use Rattle.graph.proofs.laws.OrderLaws.{lower-never, lower-one-way, lower-compared, length-sorted}
use Rattle.graph.proofs.laws.Ranks.{rank-places, rank-around, rank-around-same, rank-reverse, cost_stay}
use Rattle.graph.proofs.laws.Paths.{ends, split, replaced, cost-positive, path-first, path-reverse}
use Rattle.graph.proofs.laws.LeastPaths.{least-distinct, distinct-bounded, no_tie, least-apart}

module _ (g : Graph) (key : ℕ → ℕ) where
  -- Of two paths the one of lower rank costs no more.
  pub lower-cost : (p q : List ℕ) → Lower (rank g key p) (rank g key q) → cost g p ≤ cost g q
  lower-cost p q (inl h) = omega arith
  lower-cost p q (inr h) = omega arith

  pub not-lower-cost : (p q : List ℕ) → (Lower (rank g key q) (rank g key p) → ⊥) → cost g p ≤ cost g q
  not-lower-cost p q f = go (le_or_gt (cost g p) (cost g q))
    where
      go : (cost g p ≤ cost g q) ⊎ (cost g q < cost g p) → cost g p ≤ cost g q
      go (inl h) = h
      go (inr h) = absurd (f (inl h))

  -- "The chosen path" (01): there is at most one.
  pub chosen_unique : (a b : ℕ) (p q : List ℕ) → Chosen g key a b p → Chosen g key a b q → p ≡ q
  chosen_unique a b p q P Q = go (P.least q Q.path) (Q.least p P.path)
    where
      go : (q ≡ p) ⊎ Lower (rank g key p) (rank g key q) → (p ≡ q) ⊎ Lower (rank g key q) (rank g key p) → p ≡ q
      go (inl e) r = sym e
      go (inr h) (inl e) = e
      go (inr h) (inr k) = absurd (lower-one-way (rank g key p) (rank g key q) h k)

  -- "Every other list of bridges from a to b, each joined to the next, costs more, or ties and has more hops,
  -- or ties in both and has a higher masked PATHID" (demand 3). All lists, repeats included.
  pub chosen-below : (a b : ℕ) (p q : List ℕ) → Chosen g key a b p → IsPath g a b q → (q ≡ p → ⊥) → RanksAbove g key q p
  chosen-below a b p q P o n = go (P.least q o)
    where
      go : (q ≡ p) ⊎ Lower (rank g key p) (rank g key q) → RanksAbove g key q p
      go (inl e) = absurd (n e)
      go (inr (inl h)) = inl h
      go (inr (inr (h, inl k))) = inr (inl (h, k))
      go (inr (inr (h, inr k))) = inr (inr (h, k.0, k.1))

  -- "compared place by place" (01, "The chosen path"): PATHIDs are compared only where they have equal lengths.
  pub path_id-lengths : (a b : ℕ) (p q : List ℕ) → IsPath g a b p → IsPath g a b q → hops p ≡ hops q → length (path_id key p) ≡ length (path_id key q)
  path_id-lengths a b [] q P Q e = elim P [ ]
  path_id-lengths a b (x ∷ p) [] P Q e = elim Q [ ]
  path_id-lengths a b (x ∷ p) (y ∷ q) P Q e =
      omega (arith, length-sorted (map key (x ∷ p)), length-sorted (map key (y ∷ q)), length-map p key, length-map q key)

  -- No path is lower than the chosen one.
  pub chosen-lowest : (a b : ℕ) (p q : List ℕ) → Chosen g key a b p → IsPath g a b q → Lower (rank g key q) (rank g key p) → ⊥
  chosen-lowest a b p q P o h = go (P.least q o)
    where
      go : (q ≡ p) ⊎ Lower (rank g key p) (rank g key q) → ⊥
      go (inl e) = lower-never (rank g key p) (subst (λ (z : List ℕ). Lower (rank g key z) (rank g key p)) e h)
      go (inr k) = lower-one-way (rank g key p) (rank g key q) k h

  -- "The chosen path has the least cost" (01, "The chosen path").
  pub chosen-cost : (a b : ℕ) (p q : List ℕ) → Chosen g key a b p → IsPath g a b q → cost g p ≤ cost g q
  chosen-cost a b p q P o = not-lower-cost p q (chosen-lowest a b p q P o)

  -- The chosen path as its first bridge and the list after it, which is of least cost.
  pub chosen-first : (a b : ℕ) (p : List ℕ) → Chosen g key a b p → (t : List ℕ) × (p ≡ a ∷ t) × Least g a t b
  chosen-first a b p P = go (path-first g a b p P.path)
    where
      go : ((t : List ℕ) × (p ≡ a ∷ t) × Onward g a t b) → (t : List ℕ) × (p ≡ a ∷ t) × Least g a t b
      go (t, e, o) = (t, e, record { way = o; no_less = λ s k. omega (arith, chosen-cost a b p (a ∷ s) P (refl, k), ap (cost g) e) })

  pub chosen-least : (a b : ℕ) (t : List ℕ) → Chosen g key a b (a ∷ t) → Least g a t b
  chosen-least a b t P = record { way = P.path.1; no_less = λ s k. chosen-cost a b (a ∷ t) (a ∷ s) P (refl, k) }

  -- "a path from a bridge to itself is that bridge, cost 0, hops 0" (01, "The chosen path"): it is the chosen one.
  pub chosen_stay : (a : ℕ) → Chosen g key a a (a ∷ [])
  chosen_stay a = record { path = (refl, refl); least = λ q o. go q (path-first g a a q o) }
    where
      go : (q : List ℕ) → ((t : List ℕ) × (q ≡ a ∷ t) × Onward g a t a) → (q ≡ a ∷ []) ⊎ Lower (rank g key (a ∷ [])) (rank g key q)
      go q ([], e, o) = inl e
      go q (v ∷ t, e, o) = rw e (inr (inl (omega (arith, cost_stay g a, cost-positive g a v t a o))))

  pub chosen_self : (a : ℕ) (p : List ℕ) → Chosen g key a a p → p ≡ a ∷ []
  chosen_self a p P = chosen_unique a a p (a ∷ []) P (chosen_stay a)

  -- The chosen path has no bridge twice (demand 3: the frame stands at no bridge twice).
  pub chosen-distinct : (a b : ℕ) (p : List ℕ) → Chosen g key a b p → Distinct p
  chosen-distinct a b p P = go (chosen-first a b p P)
    where
      go : ((t : List ℕ) × (p ≡ a ∷ t) × Least g a t b) → Distinct p
      go (t, e, W) = subst (λ (z : List ℕ). Distinct z) (sym e) (least-distinct g a t b W)

  -- "The path between any two bridges on the way is that part of it" (demand 3): a part of a chosen path is chosen between its own ends.
  pub chosen_part : (a b : ℕ) (xs : List ℕ) (c : ℕ) (t ys : List ℕ) → Chosen g key a b (xs ++ ((c ∷ t) ++ ys)) → Chosen g key c (last_of c t) (c ∷ t)
  chosen_part a b xs c [] ys P = chosen_stay c
  chosen_part a b xs c (v ∷ t) ys P = go xs P (onward_part xs P.path)
    where
      d : ℕ
      d = last_of v t

      -- Where the path goes on from the part's first bridge, and with any other part in its place.
      onward_part : (xs : List ℕ) → IsPath g a b (xs ++ ((c ∷ v ∷ t) ++ ys))
          → Onward g c (v ∷ t) d × ((s : List ℕ) → Onward g c s d → IsPath g a b (xs ++ ((c ∷ s) ++ ys)))
      onward_part [] (e, o) = let r = split g c (v ∷ t) ys b o in
          (r.0, λ s k. (e, replaced g c [] c (v ∷ t) d ys b s refl tt r.1 r.2 (λ f. absurd (nil_not_cons (sym f))) k))
      onward_part (x ∷ xs) (e, o) =
          let o' : Onward g x ((xs ++ (c ∷ [])) ++ ((v ∷ t) ++ ys)) b = subst (λ (z : List ℕ). Onward g x z b) (sym (append_assoc xs (c ∷ []) ((v ∷ t) ++ ys))) o in
          inside (last_of x (xs ++ (c ∷ []))) (last_of_append x xs c []) (split g x (xs ++ (c ∷ [])) ((v ∷ t) ++ ys) b o')
        where
          inside : (c' : ℕ) → c' ≡ c → Onward g x (xs ++ (c ∷ [])) c' × Onward g c' ((v ∷ t) ++ ys) b × Joint g (xs ++ (c ∷ [])) c' ((v ∷ t) ++ ys)
              → Onward g c (v ∷ t) d × ((s : List ℕ) → Onward g c s d → IsPath g a b ((x ∷ xs) ++ ((c ∷ s) ++ ys)))
          inside c' f (o₁, o₂, j₁) = let r = split g c (v ∷ t) ys b (subst (λ (z : ℕ). Onward g z ((v ∷ t) ++ ys) b) f o₂) in (
            r.0,
            λ s k. (
              e,
              subst (λ (z : List ℕ). Onward g x z b) (append_assoc xs (c ∷ []) (s ++ ys))
                  (replaced g x (xs ++ (c ∷ [])) c (v ∷ t) d ys b s (subst (λ (z : ℕ). Onward g x (xs ++ (c ∷ [])) z) f o₁)
                  (subst (λ (z : ℕ). Joint g (xs ++ (c ∷ [])) z ((v ∷ t) ++ ys)) f j₁) r.1 r.2 (λ f. absurd (nil_not_cons (sym f))) k),
            ),
          )

      cancel : (xs s : List ℕ) → xs ++ ((c ∷ s) ++ ys) ≡ xs ++ ((c ∷ v ∷ t) ++ ys) → c ∷ s ≡ c ∷ v ∷ t
      cancel xs s e = append_cancel_right (c ∷ s) (c ∷ v ∷ t) ys (append_cancel_left xs ((c ∷ s) ++ ys) ((c ∷ v ∷ t) ++ ys) e)

      compare : (xs s : List ℕ) → Onward g c s d
          → (xs ++ ((c ∷ s) ++ ys) ≡ xs ++ ((c ∷ v ∷ t) ++ ys))
          ⊎ Lower (rank g key (xs ++ ((c ∷ v ∷ t) ++ ys))) (rank g key (xs ++ ((c ∷ s) ++ ys)))
          → Lower (rank g key (c ∷ v ∷ t)) (rank g key (c ∷ s)) ⊎ (rank g key (c ∷ v ∷ t) ≡ rank g key (c ∷ s))
          ⊎ Lower (rank g key (c ∷ s)) (rank g key (c ∷ v ∷ t))
          → (c ∷ s ≡ c ∷ v ∷ t) ⊎ Lower (rank g key (c ∷ v ∷ t)) (rank g key (c ∷ s))
      compare xs s k (inl e) r = inl (cancel xs s e)
      compare xs s k (inr h) (inl l) = inr l
      compare xs s k (inr h) (inr (inl e)) =
          absurd (lower-never (rank g key (xs ++ ((c ∷ s) ++ ys)))
          (subst (λ (z : List ℕ). Lower z (rank g key (xs ++ ((c ∷ s) ++ ys)))) (rank-around-same g key xs c (v ∷ t) s ys (sym (ends g c s d k)) e) h))
      compare xs s k (inr h) (inr (inr l)) =
          absurd (lower-one-way (rank g key (xs ++ ((c ∷ v ∷ t) ++ ys))) (rank g key (xs ++ ((c ∷ s) ++ ys))) h
          (rank-around g key xs c s (v ∷ t) ys (ends g c s d k) l))

      go : (xs : List ℕ) → Chosen g key a b (xs ++ ((c ∷ v ∷ t) ++ ys))
          → Onward g c (v ∷ t) d × ((s : List ℕ) → Onward g c s d → IsPath g a b (xs ++ ((c ∷ s) ++ ys))) → Chosen g key c d (c ∷ v ∷ t)
      go xs P (o, f) = record { path = (refl, o); least = λ q k. other q (path-first g c d q k) }
        where
          other : (q : List ℕ) → ((s : List ℕ) × (q ≡ c ∷ s) × Onward g c s d) → (q ≡ c ∷ v ∷ t) ⊎ Lower (rank g key (c ∷ v ∷ t)) (rank g key q)
          other q (s, e, k) = subst (λ (z : List ℕ). (z ≡ c ∷ v ∷ t) ⊎ Lower (rank g key (c ∷ v ∷ t)) (rank g key z)) (sym e)
              (compare xs s k (P.least (xs ++ ((c ∷ s) ++ ys)) (f s k)) (lower-compared (rank g key (c ∷ v ∷ t)) (rank g key (c ∷ s))))

  -- From each bridge on the way the rest of the chosen path is chosen, and up to each bridge what came before.
  pub chosen-rest : (a b : ℕ) (xs : List ℕ) (c : ℕ) (t : List ℕ) → Chosen g key a b (xs ++ (c ∷ t)) → Chosen g key c b (c ∷ t)
  chosen-rest a b xs c t P = subst (λ (z : ℕ). Chosen g key c z (c ∷ t)) (last xs P.path)
      (chosen_part a b xs c t [] (subst (λ (z : List ℕ). Chosen g key a b (xs ++ (c ∷ z))) (sym (append-nil t)) P))
    where
      last : (xs : List ℕ) → IsPath g a b (xs ++ (c ∷ t)) → last_of c t ≡ b
      last [] (e, o) = ends g c t b o
      last (x ∷ xs) (e, o) = sym (last_of_append x xs c t) ∙ ends g x (xs ++ (c ∷ t)) b o

  pub chosen-start : (a b : ℕ) (xs : List ℕ) (c : ℕ) (ys : List ℕ) → Chosen g key a b (xs ++ (c ∷ ys)) → Chosen g key a c (xs ++ (c ∷ []))
  chosen-start a b [] c ys P = subst (λ (z : ℕ). Chosen g key z c (c ∷ [])) P.path.0 (chosen_stay c)
  chosen-start a b (x ∷ xs) c ys P = subst (λ (z : ℕ). Chosen g key z c (x ∷ (xs ++ (c ∷ [])))) P.path.0
      (subst (λ (z : ℕ). Chosen g key x z (x ∷ (xs ++ (c ∷ [])))) (last_of_append x xs c [])
      (chosen_part a b [] x (xs ++ (c ∷ [])) ys (subst (λ (z : List ℕ). Chosen g key a b (x ∷ z)) (sym (append_assoc xs (c ∷ []) ys)) P)))

-- Cost and hop count of the chosen path do not depend on the key: "least cost, then the fewest hops" come before the PATHID
-- (01, "The chosen path").
pub chosen-any-key : (g : Graph) (key key' : ℕ → ℕ) (a b : ℕ) (p q : List ℕ) → Chosen g key a b p → Chosen g key' a b q
    → (cost g p ≡ cost g q) × (hops p ≡ hops q)
chosen-any-key g key key' a b p q P Q = go (P.least q Q.path) (Q.least p P.path)
  where
    go : (q ≡ p) ⊎ Lower (rank g key p) (rank g key q) → (p ≡ q) ⊎ Lower (rank g key' q) (rank g key' p) → (cost g p ≡ cost g q) × (hops p ≡ hops q)
    go (inl e) r = (ap (cost g) (sym e), ap hops (sym e))
    go (inr h) (inl e) = (ap (cost g) e, ap hops e)
    go (inr (inl h)) (inr (inl k)) = absurd (omega arith)
    go (inr (inl h)) (inr (inr k)) = absurd (omega arith)
    go (inr (inr h)) (inr (inl k)) = absurd (omega arith)
    go (inr (inr (h, inl l))) (inr (inr (k, inl m))) = absurd (omega arith)
    go (inr (inr (h, inl l))) (inr (inr (k, inr m))) = absurd (omega arith)
    go (inr (inr (h, inr l))) (inr (inr (k, inl m))) = absurd (omega arith)
    go (inr (inr (h, inr l))) (inr (inr (k, inr m))) = (h, l.0)

module _ (g : Graph) (L : GraphLaws g) (key : ℕ → ℕ) where
  -- The chosen path has at most as many bridges as the graph, so the lists enumerated suffice (01, "The chosen path").
  pub chosen-bounded : (a b : ℕ) (p : List ℕ) → Chosen g key a b p → hops p ≤ g.size - 1
  chosen-bounded a b p P = go (chosen-first g key a b p P)
    where
      go : ((t : List ℕ) × (p ≡ a ∷ t) × Least g a t b) → hops p ≤ g.size - 1
      go (t, e, W) = omega (arith, distinct-bounded g L a t b W.way (least-distinct g a t b W), ap hops e)

  pub chosen-fits : (a b : ℕ) (p : List ℕ) → a < g.size → Chosen g key a b p → length p ≤ g.size
  chosen-fits a b p l P = go (path-first g a b p P.path)
    where
      go : ((t : List ℕ) × (p ≡ a ∷ t) × Onward g a t b) → length p ≤ g.size
      go (t, e, o) = omega (arith, chosen-bounded a b p P, ap (λ (z : List ℕ). length z) e)

  -- "The frame from b to a passes the same links in reverse" (demand 3): the reverse of a chosen path is chosen.
  pub chosen-reverse : (a b : ℕ) (p : List ℕ) → Chosen g key a b p → Chosen g key b a (reverse p)
  chosen-reverse a b p P = record { path = path-reverse g L a b p P.path; least = λ q o. go q (P.least (reverse q) (path-reverse g L b a q o)) }
    where
      go : (q : List ℕ) → (reverse q ≡ p) ⊎ Lower (rank g key p) (rank g key (reverse q))
          → (q ≡ reverse p) ⊎ Lower (rank g key (reverse p)) (rank g key q)
      go q (inl e) = inl (sym (reverse-reverse q) ∙ ap (λ (z : List ℕ). reverse z) e)
      go q (inr h) = inr (subst (λ (z : List ℕ). Lower z (rank g key q)) (sym (rank-reverse g key L.symmetric p))
          (subst (λ (z : List ℕ). Lower (rank g key p) z) (rank-reverse g key L.symmetric q) h))

  -- "The path between any two bridges on the way is that part of it" (demand 3), in the other direction: the part reversed.
  pub chosen_part_back : (a b : ℕ) (xs : List ℕ) (c : ℕ) (t ys : List ℕ) → Chosen g key a b (xs ++ ((c ∷ t) ++ ys))
      → Chosen g key (last_of c t) c (reverse (c ∷ t))
  chosen_part_back a b xs c t ys P = chosen-reverse c (last_of c t) (c ∷ t) (chosen_part g key a b xs c t ys P)

  -- Of any two bridges on the way one is not after the other: the chosen path between them is that part, or that part reversed.
  pub chosen_of_two : (a b : ℕ) (p : List ℕ) → Chosen g key a b p → (c d : ℕ) → In c p → In d p
      → (xs : List ℕ) × (part : List ℕ) × (ys : List ℕ) × (p ≡ xs ++ (part ++ ys)) × (Chosen g key c d part ⊎ Chosen g key c d (reverse part))
  chosen_of_two a b p P c d h k = go (two_in c d p h k)
    where
      go : HasPart c d p ⊎ HasPart d c p
          → (xs : List ℕ) × (part : List ℕ) × (ys : List ℕ) × (p ≡ xs ++ (part ++ ys)) × (Chosen g key c d part ⊎ Chosen g key c d (reverse part))
      go (inl (xs, t, ys, e, f)) = (xs, c ∷ t, ys, e, inl (subst (λ (z : ℕ). Chosen g key c z (c ∷ t)) f (chosen_part g key a b xs c t ys (rw e at P))))
      go (inr (xs, t, ys, e, f)) = (xs, d ∷ t, ys, e, inr (subst (λ (z : ℕ). Chosen g key z d (reverse (d ∷ t))) f (chosen_part_back a b xs d t ys (rw e at P))))

  module _ (K : KeyLaws g key) where
    -- A path than which no other is lower is the chosen path, because no two tie (01, "The chosen path").
    pub lowest-chosen : (a b : ℕ) (p : List ℕ) → IsPath g a b p → ((q : List ℕ) → IsPath g a b q → Lower (rank g key q) (rank g key p) → ⊥) → Chosen g key a b p
    lowest-chosen a b p o f = record { path = o; least = λ q k. go q k (lower-compared (rank g key p) (rank g key q)) }
      where
        tie : (q : List ℕ) → rank g key p ≡ rank g key q → ((t : List ℕ) × (p ≡ a ∷ t) × Onward g a t b) → ((s : List ℕ) × (q ≡ a ∷ s) × Onward g a s b) → q ≡ p
        tie q e (t, e₁, o₁) (s, e₂, o₂) = e₂ ∙ ap (λ (z : List ℕ). a ∷ z) (sym (no_tie g L key K a t s b P Q ids)) ∙ sym e₁
          where
            places : (cost g p ≡ cost g q) × (hops p ≡ hops q) × (path_id key p ≡ path_id key q)
            places = rank-places g key p q e

            P : Least g a t b
            P = record { way = o₁; no_less = λ r k. omega (arith, not-lower-cost g key p (a ∷ r) (f (a ∷ r) (refl, k)), ap (cost g) e₁) }

            Q : Least g a s b
            Q = record { way = o₂; no_less = λ r k. omega (arith, P.no_less r k, places.0, ap (cost g) e₁, ap (cost g) e₂) }

            ids : path_id key (a ∷ t) ≡ path_id key (a ∷ s)
            ids = ap (path_id key) (sym e₁) ∙ places.2 ∙ ap (path_id key) e₂

        go : (q : List ℕ) → IsPath g a b q → Lower (rank g key p) (rank g key q) ⊎ (rank g key p ≡ rank g key q) ⊎ Lower (rank g key q) (rank g key p)
            → (q ≡ p) ⊎ Lower (rank g key p) (rank g key q)
        go q k (inl h) = inr h
        go q k (inr (inl e)) = inl (tie q e (path-first g a b p o) (path-first g a b q k))
        go q k (inr (inr h)) = absurd (f q k h)

    -- Chosen paths from two different bridges to one have different PATHIDs (01, "The chosen path").
    pub chosen-apart : (v w b : ℕ) (p q : List ℕ) → Chosen g key v b p → Chosen g key w b q → path_id key p ≡ path_id key q → v ≡ w
    chosen-apart v w b p q P Q e = go (chosen-first g key v b p P) (chosen-first g key w b q Q)
      where
        go : ((t : List ℕ) × (p ≡ v ∷ t) × Least g v t b) → ((s : List ℕ) × (q ≡ w ∷ s) × Least g w s b) → v ≡ w
        go (t, f, P) (s, h, Q) = least-apart g L key K v t w s b P Q (ap (path_id key) (sym f) ∙ e ∙ ap (path_id key) h)
