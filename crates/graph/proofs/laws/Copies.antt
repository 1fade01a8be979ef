-- Group frames: copies sent down the chosen paths from a sender to its receivers reach each receiver once, no bridge twice,
-- and never the sender (demand 3).
-- Assumes nothing.
use Prim.Native.Nat.{ℕ, zero, suc, ◌+◌, ◌≤◌, ◌<◌}
use native.Mathlib.Omega.{arith}
use Rattle.std.specs.Prelude.{◌≡◌, ◌⊎◌}
use Rattle.std.proofs.Math.Path.{refl, sym, ap, subst}
use Rattle.std.proofs.Common.{◌∙◌, inl, inr}
use mathlib.Core.List.{List, [], ◌∷◌, ◌++◌, append_assoc, append_cancel_right}
use Rattle.std.proofs.Math.ListN.{length, length-append}
use Rattle.graph.specs.Graph.{Graph, GraphLaws, hops}
use Rattle.graph.specs.Chosen.{Chosen}
use Rattle.lists.specs.Members.{In, occurrences}
use Rattle.lists.proofs.laws.ListNotions.{Distinct, last_of}
use Rattle.graph.proofs.laws.Notions.{Least, Leaves}
use Rattle.graph.proofs.laws.Moves.{copies, entered, Feeds, HandsDown}
use Rattle.lists.proofs.laws.NumberLaws.{le_or_gt}
use Rattle.lists.proofs.laws.MemberLaws.{in_left, in_right, in-here, in_append, in-flat_map, flat_map-in}
use Rattle.lists.proofs.laws.DistinctLaws.{distinct_append, distinct-flat_map, nothing-in, same-last, occurrences-none, occurrences-one, occurrences-at-most-one}
use Rattle.graph.proofs.laws.Paths.{ends, stays-inside}
use Rattle.graph.proofs.laws.ChosenPaths.{chosen_unique, chosen-first, chosen_stay, chosen-start, chosen-bounded}
use Rattle.graph.proofs.laws.Forwarding.{leaves-split, split-leaves, arrival}

-- `v` is the bridge after `n` hops of its chosen path from `s`.
abbrev pub Placed : Graph → (ℕ → ℕ) → ℕ → ℕ → ℕ → Type 0
Placed g key s n v = (xs : List ℕ) × (length xs ≡ n) × Chosen g key s v (xs ++ (v ∷ []))

module _ (g : Graph) (key : ℕ → ℕ) (s : ℕ) where
  -- A bridge has one place on the chosen paths from `s`.
  one_place : (m n v : ℕ) → Placed g key s m v → Placed g key s n v → m ≡ n
  one_place m n v (xs, k, P) (ys, l, Q) =
      let e : xs ++ (v ∷ []) ≡ ys ++ (v ∷ []) = chosen_unique g key s v (xs ++ (v ∷ [])) (ys ++ (v ∷ [])) P Q in
      omega (arith, ap (λ (z : List ℕ). length z) (append_cancel_right xs ys (v ∷ []) e))

  module _ (Receives : ℕ → Type 0) where
    -- Where a copy goes from `c` to `v`, both lie on chosen paths from `s`, one hop apart.
    fed-placed : (c v : ℕ) → Feeds g key s Receives c v
        → (xs : List ℕ) × Chosen g key s c (xs ++ (c ∷ [])) × Chosen g key s v ((xs ++ (c ∷ [])) ++ (v ∷ []))
    fed-placed c v (r, k, p, P, h) = go (leaves-split c v p h)
      where
        go : ((xs : List ℕ) × (ys : List ℕ) × (p ≡ xs ++ (c ∷ v ∷ ys)))
            → (xs : List ℕ) × Chosen g key s c (xs ++ (c ∷ [])) × Chosen g key s v ((xs ++ (c ∷ [])) ++ (v ∷ []))
        go (xs, ys, e) = (
          xs,
          chosen-start g key s r xs c (v ∷ ys) (rw e at P),
          chosen-start g key s r (xs ++ (c ∷ [])) v ys
              (subst (λ (z : List ℕ). Chosen g key s r z) (e ∙ sym (append_assoc xs (c ∷ []) (v ∷ ys))) P),
        )

    -- A bridge is entered from one bridge only.
    one_parent : (c d v : ℕ) → Feeds g key s Receives c v → Feeds g key s Receives d v → c ≡ d
    one_parent c d v h k = go (fed-placed c v h) (fed-placed d v k)
      where
        go : ((xs : List ℕ) × Chosen g key s c (xs ++ (c ∷ [])) × Chosen g key s v ((xs ++ (c ∷ [])) ++ (v ∷ [])))
            → ((xs : List ℕ) × Chosen g key s d (xs ++ (d ∷ [])) × Chosen g key s v ((xs ++ (d ∷ [])) ++ (v ∷ []))) → c ≡ d
        go (xs, P, Q) (ys, P', Q') = same-last xs ys c d (append_cancel_right (xs ++ (c ∷ [])) (ys ++ (d ∷ [])) (v ∷ [])
            (chosen_unique g key s v ((xs ++ (c ∷ [])) ++ (v ∷ [])) ((ys ++ (d ∷ [])) ++ (v ∷ [])) Q Q'))

    module _ (L : GraphLaws g) (inside : s < g.size) (children : ℕ → List ℕ) (H : HandsDown g key s Receives children) where
      placed-inside : (n v : ℕ) → Placed g key s n v → v < g.size
      placed-inside n v (xs, l, P) = stays-inside g L s v (xs ++ (v ∷ [])) inside P.path v (in-here v xs [])

      -- A copy of round `n` is at a bridge after `n` hops of its chosen path.
      pub copy_placed : (n v : ℕ) → In v (copies children s n) → Placed g key s n v
      unfolding copies
      copy_placed zero v (inr h) = elim h [ ]
      copy_placed zero v (inl e) = rw e ([], refl, chosen_stay g key s)
      copy_placed (suc n) v h = go (flat_map-in children v (copies children s n) h) (copy_placed n)
        where
          next : (c : ℕ) → Placed g key s n c
              → ((xs : List ℕ) × Chosen g key s c (xs ++ (c ∷ [])) × Chosen g key s v ((xs ++ (c ∷ [])) ++ (v ∷ []))) → Placed g key s (suc n) v
          next c k (xs, P, Q) = let e : length xs ≡ n = one_place (length xs) n c (xs, refl, P) k in
              (xs ++ (c ∷ []), omega (arith, length-append xs (c ∷ [])), Q)

          go : ((c : ℕ) × In c (copies children s n) × In v (children c)) → ((c : ℕ) → In c (copies children s n) → Placed g key s n c) → Placed g key s (suc n) v
          go (c, k, l) ih = next c (ih c k) (fed-placed c v (H.fed c v (placed-inside n c (ih c k)) l))

      pub copy_inside : (n v : ℕ) → In v (copies children s n) → v < g.size
      copy_inside n v h = placed-inside n v (copy_placed n v h)

      -- "At each bridge that the frame from a enters, the entry for a names the arrival port" (demand 3), for copies and their sender:
      -- from a bridge entered from `c` the chosen path back to the sender begins with the hop to `c`.
      pub copy_arrival : (c v : ℕ) → c < g.size → In v (children c) → (t : List ℕ) × Chosen g key v s (v ∷ c ∷ t)
      copy_arrival c v l h = go (H.fed c v l h)
        where
          go : Feeds g key s Receives c v → (t : List ℕ) × Chosen g key v s (v ∷ c ∷ t)
          go (r, k, p, P, i) = arrival g L key s r p c v P i

      -- Within a round no bridge is entered twice.
      pub round_distinct : (n : ℕ) → Distinct (copies children s n)
      unfolding copies
      round_distinct zero = (λ h. h, tt)
      round_distinct (suc n) = distinct-flat_map children (copies children s n) (round_distinct n) (λ c k. H.once c (copy_inside n c k))
          (λ c d v k l i j. one_parent c d v (H.fed c v (copy_inside n c k) i) (H.fed d v (copy_inside n d l) j))

      -- No bridge is entered in two rounds.
      pub one_round : (m n v : ℕ) → In v (copies children s m) → In v (copies children s n) → m ≡ n
      one_round m n v h k = one_place m n v (copy_placed m v h) (copy_placed n v k)

      entered_in : (n v : ℕ) → In v (entered children s n) → (m : ℕ) × (0 < m) × (m ≤ n) × In v (copies children s m)
      unfolding entered
      entered_in zero v h = elim h [ ]
      entered_in (suc n) v h = go (in_append v (entered children s n) (copies children s (suc n)) h) (entered_in n v)
        where
          go : In v (entered children s n) ⊎ In v (copies children s (suc n))
              → (In v (entered children s n) → (m : ℕ) × (0 < m) × (m ≤ n) × In v (copies children s m))
              → (m : ℕ) × (0 < m) × (m ≤ suc n) × In v (copies children s m)
          go (inl k) ih = let r = ih k in (r.0, r.1, omega (arith, r.2), r.3)
          go (inr k) ih = (suc n, omega arith, omega arith, k)

      in-entered : (m n v : ℕ) → 0 < m → m ≤ n → In v (copies children s m) → In v (entered children s n)
      unfolding entered
      in-entered m zero v h l k = absurd (omega arith)
      in-entered m (suc n) v h l k = go (le_or_gt m n) (in-entered m n v h)
        where
          go : (m ≤ n) ⊎ (n < m) → (m ≤ n → In v (copies children s m) → In v (entered children s n)) → In v (entered children s n ++ copies children s (suc n))
          go (inl i) ih = in_left v (entered children s n) (copies children s (suc n)) (ih i k)
          go (inr i) ih = let e : m ≡ suc n = omega arith in
              in_right v (entered children s n) (copies children s (suc n)) (subst (λ (z : ℕ). In v (copies children s z)) e k)

      -- "It reaches no bridge twice" (demand 3), for every number of rounds.
      pub entered-distinct : (n : ℕ) → Distinct (entered children s n)
      unfolding entered
      entered-distinct zero = tt
      entered-distinct (suc n) = distinct_append (entered children s n) (copies children s (suc n)) (entered-distinct n) (round_distinct (suc n))
          (λ v h k. go v k (entered_in n v h))
        where
          go : (v : ℕ) → In v (copies children s (suc n)) → ((m : ℕ) × (0 < m) × (m ≤ n) × In v (copies children s m)) → ⊥
          go v k (m, i, l, h) = omega (arith, one_round m (suc n) v h k)

      pub at-most-once : (n v : ℕ) → occurrences v (entered children s n) ≤ 1
      at-most-once n v = occurrences-at-most-one v (entered children s n) (entered-distinct n)

      -- "and never comes back to its sender" (demand 3), for every number of rounds.
      pub sender_not-entered : (n : ℕ) → In s (entered children s n) → ⊥
      unfolding copies
      sender_not-entered n h = go (entered_in n s h)
        where
          go : ((m : ℕ) × (0 < m) × (m ≤ n) × In s (copies children s m)) → ⊥
          go (m, i, l, k) = omega (arith, one_round m 0 s k (inl refl))

      pub sender_never : (n : ℕ) → occurrences s (entered children s n) ≡ 0
      sender_never n = occurrences-none s (entered children s n) (sender_not-entered n)

      -- From as many rounds as the graph has bridges on no copy is left ("With no such entry it ends there": 01, "Frames").
      pub no_copy_left : (n : ℕ) → g.size ≤ n → copies children s n ≡ []
      no_copy_left n l = nothing-in (copies children s n) (λ v h. go v (copy_placed n v h))
        where
          go : (v : ℕ) → Placed g key s n v → ⊥
          go v (xs, e, P) = omega (arith, chosen-bounded g L key s v (xs ++ (v ∷ [])) P, length-append xs (v ∷ []))

      -- A copy is handed down the chosen path to a receiver, hop by hop.
      passed_on : (r : ℕ) → Receives r → (p : List ℕ) → Chosen g key s r p → (ys xs : List ℕ) (c : ℕ) → p ≡ xs ++ (c ∷ ys)
          → In c (copies children s (length xs)) → In (last_of c ys) (copies children s (length xs + length ys))
      unfolding copies
      passed_on r k p P [] xs c e h = let f : length xs ≡ length xs + 0 = omega arith in subst (λ (z : ℕ). In c (copies children s z)) f h
      passed_on r k p P (v ∷ ys) xs c e h = let f : length (xs ++ (c ∷ [])) + length ys ≡ length xs + suc (length ys) = omega (arith, length-append xs (c ∷ [])) in
          subst (λ (z : ℕ). In (last_of v ys) (copies children s z)) f
          (passed_on r k p P ys (xs ++ (c ∷ [])) v (e ∙ sym (append_assoc xs (c ∷ []) (v ∷ ys))) next)
        where
          fed : In v (children c)
          fed = H.feeds c v (copy_inside (length xs) c h)
              (r, k, p, P, subst (λ (z : List ℕ). Leaves c v z) (sym e) (split-leaves xs c v ys))

          next : In v (copies children s (length (xs ++ (c ∷ []))))
          next = let f : suc (length xs) ≡ length (xs ++ (c ∷ [])) = omega (arith, length-append xs (c ∷ [])) in
              subst (λ (z : ℕ). In v (copies children s z)) f (in-flat_map children v c (copies children s (length xs)) h fed)

      -- "reaches exactly once every other receiving member of its service to which a path from the sender leads" (demand 3).
      pub receiver-entered : (r : ℕ) → Receives r → (r ≡ s → ⊥) → (p : List ℕ) → Chosen g key s r p → (n : ℕ) → hops p ≤ n → In r (entered children s n)
      unfolding copies
      receiver-entered r k f p P n l = go (chosen-first g key s r p P)
        where
          go : ((t : List ℕ) × (p ≡ s ∷ t) × Least g s t r) → In r (entered children s n)
          go ([], e, W) = absurd (f (sym W.way))
          go (v ∷ t, e, W) = in-entered (suc (length t)) n r (omega arith) (omega (arith, ap hops e))
              (subst (λ (z : ℕ). In z (copies children s (suc (length t)))) (ends g s (v ∷ t) r W.way)
              (subst (λ (z : ℕ). In (last_of v t) (copies children s z)) count (passed_on r k p P (v ∷ t) [] s e (inl refl))))
            where
              count : 0 + suc (length t) ≡ suc (length t)
              count = omega arith

      -- The same from as many rounds as the graph has bridges on, counted: "A bridge is reached once for each copy that enters it"
      -- (01, "Frames").
      pub receiver-once : (r : ℕ) → Receives r → (r ≡ s → ⊥) → (p : List ℕ) → Chosen g key s r p → (n : ℕ) → g.size ≤ n → occurrences r (entered children s n) ≡ 1
      receiver-once r k f p P n l = occurrences-one r (entered children s n) (entered-distinct n)
          (receiver-entered r k f p P n (omega (arith, chosen-bounded g L key s r p P)))
