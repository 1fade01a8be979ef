-- A search kept in lookups settles bridges with their chosen paths, keeps what it keeps at every step, and finds every bridge with a path.
-- Assumes nothing.
use Rattle.std.specs.Prelude.{ℕ, suc, ◌+◌, ◌≤◌, ◌<◌, ◌≡◌, refl, List, [], ◌∷◌, ◌⊎◌, Bool, true, false, T, length}
use Rattle.std.proofs.Common.{arith, sym, ap, ◌∙◌, subst, inl, inr}
use Rattle.std.proofs.Math.Option.{none, some}
use Rattle.graph.specs.Order.{Lower, insert_upward}
use Rattle.graph.specs.Graph.{Graph, GraphLaws, KeyLaws, Joined, cost, hops, path_id, rank}
use Rattle.graph.specs.Chosen.{Chosen, chosen}
use Rattle.graph.proofs.laws.Notions.{Least}
use Rattle.graph.proofs.laws.Search.{Settling, Candidate, Labels, candidate_rank}
use Rattle.graph.specs.Lookups.{State, Offers, offer, label, Says, Kept}
use Rattle.graph.proofs.laws.LookupNotions.{Starts, Stays, Takes, Advances}
use Rattle.graph.proofs.laws.OrderLaws.{lower-never, lower-chained, sorted-one}
use Rattle.graph.proofs.laws.Ranks.{cost_step, cost_stay}
use Rattle.graph.proofs.laws.Paths.{entered-inside}
use Rattle.graph.proofs.laws.ChosenPaths.{chosen_unique, chosen-first, chosen_stay}
use Rattle.graph.proofs.laws.Settling.{candidate-path_id, candidates_compared}
use Rattle.graph.proofs.laws.Labels.{nearest-settles, search_ends}

-- The predicates of the settling argument, for a search kept in lookups.

abbrev pub Open : Graph → State → ℕ → Type 0
Open g st u = (u < g.size) × (T (st.settled u) → ⊥)

abbrev pub Settled : Graph → (ℕ → ℕ) → ℕ → State → ℕ → List ℕ → Type 0
Settled g key r st v p = (v < g.size) × T (st.settled v) × Chosen g key v r p

abbrev pub Label : Graph → (ℕ → ℕ) → ℕ → State → ℕ → ℕ → List ℕ → Type 0
Label g key r st u v p = (Open g st u) × T (st.labelled u) × (v ≡ st.next u) × Settled g key r st v p

test-or-not : (b : Bool) → T b ⊎ (T b → ⊥)
test-or-not true = inl tt
test-or-not false = inr (λ h. h)

module _ (g : Graph) (L : GraphLaws g) (key : ℕ → ℕ) (r : ℕ) (st : State) (M : Kept g key r st) where
  -- Bridges carry their chosen path.
  pub kept_settling : Settling g key r (Open g st) (Settled g key r st)
  kept_settling = record {
    final = λ v p k. k.2;
    root = (M.inside, M.root, chosen_stay g key r);
    each = λ u l. each u l (test-or-not (st.settled u));
    apart = λ u p w k. w.1 k.1;
  }
    where
      each : (u : ℕ) → u < g.size → T (st.settled u) ⊎ (T (st.settled u) → ⊥) → Open g st u ⊎ ((p : List ℕ) × Settled g key r st u p)
      each u l (inl k) = let f = M.found u l k in inr (f.0, (l, k, f.1))
      each u l (inr f) = inl (l, f)

  -- The lookups of a settled bridge say its chosen path, whichever way that is known.
  pub kept-says : (v : ℕ) (p : List ℕ) → Settled g key r st v p → Says g key st v p
  kept-says v p (l, k, P) = let f = M.found v l k in
      subst (λ (z : List ℕ). Says g key st v z) (chosen_unique g key v r f.0 p f.1 P) f.2

  -- What a candidate is compared by is what the lookups offer.
  offer_is : (x w : ℕ) (q : List ℕ) → Settled g key r st w q → offer g st x w ≡ candidate_rank g key x q
  offer_is x w q k = go (chosen-first g key w r q k.2) (kept-says w q k)
    where
      go : ((t : List ℕ) × (q ≡ w ∷ t) × Least g w t r) → Says g key st w q → offer g st x w ≡ candidate_rank g key x q
      go (t, e, W) S = cc (costs, count, S.row_is)
        where
          costs : g.hop x w + st.far w ≡ cost g (x ∷ q)
          costs = omega (arith, S.far_is, ap (cost g) e, ap (λ (z : List ℕ). cost g (x ∷ z)) e, cost_step g x w t)

          count : suc (st.steps w) ≡ hops (x ∷ q)
          count = omega (arith, S.steps_is, ap hops e, ap (λ (z : List ℕ). hops (x ∷ z)) e)

  label_is : (x : ℕ) (q : List ℕ) → Open g st x → T (st.labelled x) → Settled g key r st (st.next x) q → label st x ≡ candidate_rank g key x q
  label_is x q (l, w) h k = cc (M.far_through x l w h, M.steps_through x l w h, offer_is x (st.next x) q k)

  candidate-offers : (x w : ℕ) (q : List ℕ) → Candidate g r (Open g st) (Settled g key r st) x w q → Offers g r st x w
  candidate-offers x w q C = record { done = C.settled.1; joined = C.joined; passes = C.passes }

  -- A lower rank is a lower offer.
  lower-offer : (x v : ℕ) (p : List ℕ) (w : ℕ) (q : List ℕ) → Label g key r st x v p → Settled g key r st w q
      → Lower (rank g key (x ∷ q)) (rank g key (x ∷ p)) → Lower (offer g st x w) (label st x)
  lower-offer x v p w q (o, h, e, k) s l = go (chosen-first g key v r p k.2) (chosen-first g key w r q s.2)
    where
      k' : Settled g key r st (st.next x) p
      k' = subst (λ (z : ℕ). Settled g key r st z p) e k

      go : ((t : List ℕ) × (p ≡ v ∷ t) × Least g v t r) → ((t : List ℕ) × (q ≡ w ∷ t) × Least g w t r) → Lower (offer g st x w) (label st x)
      go (t, f, P) (t', f', Q) =
          subst (λ (z : List ℕ). Lower z (label st x)) (sym (offer_is x w q s))
          (subst (λ (z : List ℕ). Lower (candidate_rank g key x q) z) (sym (label_is x p o h k'))
          (subst (λ (z : List ℕ). Lower (candidate_rank g key x z) (candidate_rank g key x p)) (sym f')
          (subst (λ (z : List ℕ). Lower (candidate_rank g key x (w ∷ t')) (candidate_rank g key x z)) (sym f)
          (candidates_compared g key x w t' v t
          (subst (λ (z : List ℕ). Lower (rank g key (x ∷ z)) (rank g key (x ∷ v ∷ t))) f'
          (subst (λ (z : List ℕ). Lower (rank g key (x ∷ q)) (rank g key (x ∷ z))) f l))))))

  -- The label of an open bridge, with the path of its next hop.
  label_of : (u : ℕ) → Open g st u → T (st.labelled u) → (p : List ℕ) × Label g key r st u (st.next u) p
  label_of u o h =
      let f = M.offered u o.0 o.1 h in
      let l = entered-inside g L u (st.next u) f.joined in
      let p = M.found (st.next u) l f.done in
      (p.0, (o, h, refl, (l, f.done, p.1)))

  -- Each open bridge that is labelled has its lowest candidate.
  pub kept-labels : Labels g key r (Open g st) (Settled g key r st) (Label g key r st)
  kept-labels = record {
    candidate = λ u v p l. candidate u v p l;
    lowest = λ u v p l w q C h. M.lowest u w l.0.0 C.settled.0 l.0.1 l.1 (candidate-offers u w q C) (lower-offer u v p w q l C.settled h);
    labelled = λ u w q C. labelled u w q C;
  }
    where
      candidate : (u v : ℕ) (p : List ℕ) → Label g key r st u v p → Candidate g r (Open g st) (Settled g key r st) u v p
      candidate u v p (o, h, e, k) = let f = M.offered u o.0 o.1 h in
          record { waits = o; settled = k; joined = subst (λ (z : ℕ). Joined g u z) (sym e) f.joined; passes = subst (λ (z : ℕ). (z ≡ r) ⊎ T (g.between z)) (sym e) f.passes }

      labelled : (u w : ℕ) (q : List ℕ) → Candidate g r (Open g st) (Settled g key r st) u w q → (v : ℕ) × (p : List ℕ) × Label g key r st u v p
      labelled u w q C =
          let o = C.waits in
          let f = label_of u o (M.reached u w o.0 C.settled.0 o.1 (candidate-offers u w q C)) in
          (st.next u, f.0, f.1)

  label_far : (x v : ℕ) (p : List ℕ) → Label g key r st x v p → st.far x ≡ cost g (x ∷ p)
  label_far x v p (o, h, e, k) =
      let f : label st x ≡ candidate_rank g key x p = label_is x p o h (subst (λ (z : ℕ). Settled g key r st z p) e k) in cc

  -- The nearest labelled bridge may be settled: the path of its next hop with the bridge itself in front is its chosen path,
  -- and its lookups, with its own key inserted into its next hop's row, say so.
  pub kept_settles : KeyLaws g key → (u : ℕ) → u < g.size → (T (st.settled u) → ⊥) → T (st.labelled u)
      → ((x : ℕ) → x < g.size → (T (st.settled x) → ⊥) → T (st.labelled x) → st.far u ≤ st.far x)
      → (q : List ℕ) × Settled g key r st (st.next u) q × Chosen g key u r (u ∷ q) × (st.far u ≡ cost g (u ∷ q)) × (st.steps u ≡ hops (u ∷ q))
      × (insert_upward (key u) (st.row (st.next u)) ≡ path_id key (u ∷ q))
  kept_settles K u l w h near = go (label_of u (l, w) h)
    where
      nearest : (p : List ℕ) → Label g key r st u (st.next u) p → (x y : ℕ) (q : List ℕ) → Label g key r st x y q → cost g (u ∷ p) ≤ cost g (x ∷ q)
      nearest p k x y q j = omega (arith, label_far u (st.next u) p k, label_far x y q j, near x j.0.0 j.0.1 j.1)

      go : ((p : List ℕ) × Label g key r st u (st.next u) p)
          → (q : List ℕ) × Settled g key r st (st.next u) q × Chosen g key u r (u ∷ q) × (st.far u ≡ cost g (u ∷ q)) × (st.steps u ≡ hops (u ∷ q))
          × (insert_upward (key u) (st.row (st.next u)) ≡ path_id key (u ∷ q))
      go (p, k) =
          let e : label st u ≡ candidate_rank g key u p = label_is u p (l, w) h k.3 in
          let rows : st.row (st.next u) ≡ path_id key p = cc in (
            p,
            k.3,
            nearest-settles g key r (Open g st) (Settled g key r st) (Label g key r st) kept-labels L K kept_settling u (st.next u) p k (nearest p k),
            label_far u (st.next u) p k,
            cc,
            ap (insert_upward (key u)) rows ∙ sym (candidate-path_id g key u p),
          )

  -- The nearest labelled bridge offers a settled one nothing: the way through it costs more, because every hop costs at least 1.
  pub settled_nearer : (u x : ℕ) → u < g.size → x < g.size → (T (st.settled u) → ⊥) → T (st.labelled u) → T (st.settled x) → Joined g x u
      → st.far x < g.hop x u + st.far u
  settled_nearer u x i j n h k joined = omega (arith, M.ordered x u j i k n h)

  -- With no labelled bridge left open, a settled bridge has the path that the definition gives, and its lookups say it;
  -- for an open one the definition gives none: "12. No path exists." (01, "Refusals in checking order").
  pub kept_ends : KeyLaws g key → ((x : ℕ) → x < g.size → (T (st.settled x) → ⊥) → T (st.labelled x) → ⊥) → (u : ℕ) → u < g.size
      → ((p : List ℕ) × T (st.settled u) × (chosen g key u r ≡ some p) × Says g key st u p) ⊎ ((T (st.settled u) → ⊥) × (chosen g key u r ≡ none))
  kept_ends K none_left u l = go (search_ends g key r (Open g st) (Settled g key r st) (Label g key r st) kept-labels L K kept_settling
      (λ x v p k. none_left x k.0.0 k.0.1 k.1) u l)
    where
      go : ((p : List ℕ) × Settled g key r st u p × (chosen g key u r ≡ some p)) ⊎ (Open g st u × (chosen g key u r ≡ none))
          → ((p : List ℕ) × T (st.settled u) × (chosen g key u r ≡ some p) × Says g key st u p) ⊎ ((T (st.settled u) → ⊥) × (chosen g key u r ≡ none))
      go (inl (p, k, e)) = inl (p, k.1, e, kept-says u p k)
      go (inr (o, e)) = inr (o.1, e)

-- A search that starts with the root alone settled keeps it.
pub kept-starts : (g : Graph) (key : ℕ → ℕ) (r : ℕ) (st : State) → Starts g key r st → Kept g key r st
kept-starts g key r st S = record {
  inside = S.inside;
  root = S.root;
  found = λ v i k. subst (λ (z : ℕ). (p : List ℕ) × Chosen g key z r p × Says g key st z p) (sym (S.alone v k)) (r ∷ [], chosen_stay g key r, says);
  offered = λ x i n k. subst (λ (z : ℕ). Offers g r st x z) (sym (S.labelled_next x i (other x n) k))
      (record { done = S.root; joined = S.labelled_joined x i (other x n) k; passes = inl refl });
  far_through = λ x i n k. rw (S.labelled_next x i (other x n) k) (omega (arith, S.labelled_far x i (other x n) k, S.far_root));
  steps_through = λ x i n k. rw (S.labelled_next x i (other x n) k) (omega (arith, S.labelled_steps x i (other x n) k, S.steps_root));
  lowest = λ x y i j n k O c. lower-never (label st x) (subst (λ (z : List ℕ). Lower z (label st x))
      (ap (offer g st x) (S.alone y O.done) ∙ sym (through x i n k)) c);
  reached = λ x y i j n O. S.beside x i (other x n) (subst (λ (z : ℕ). Joined g x z) (S.alone y O.done) O.joined);
  ordered = λ v x i j k n m. omega (arith, S.far_root, ap (λ (z : ℕ). st.far z) (S.alone v k));
}
  where
    other : (x : ℕ) → (T (st.settled x) → ⊥) → x ≡ r → ⊥
    other x n e = n (subst (λ (z : ℕ). T (st.settled z)) (sym e) S.root)

    says : Says g key st r (r ∷ [])
    says = record {
      far_is = S.far_root ∙ sym (cost_stay g r);
      steps_is = S.steps_root;
      row_is = S.row_root ∙ sym (sorted-one (key r));
      next_is = λ y t e. absurd (omega (arith, ap (λ (z : List ℕ). length z) e));
    }

    through : (x : ℕ) → x < g.size → (T (st.settled x) → ⊥) → T (st.labelled x) → label st x ≡ offer g st x r
    through x i n k = cc (costs, count, ap (λ (z : ℕ). st.row z) (S.labelled_next x i (other x n) k))
      where
        costs : st.far x ≡ g.hop x r + st.far r
        costs = omega (arith, S.labelled_far x i (other x n) k, S.far_root)

        count : st.steps x ≡ suc (st.steps r)
        count = omega (arith, S.labelled_steps x i (other x n) k, S.steps_root)

-- A step of the search keeps it.
module _ (g : Graph) (L : GraphLaws g) (key : ℕ → ℕ) (K : KeyLaws g key) (r u : ℕ) (st st' : State) (M : Kept g key r st)
    (l : u < g.size) (w : T (st.settled u) → ⊥) (h : T (st.labelled u))
    (near : (x : ℕ) → x < g.size → (T (st.settled x) → ⊥) → T (st.labelled x) → st.far u ≤ st.far x)
    (A : Advances g key r u st st') where
  still_open : (x : ℕ) → (T (st'.settled x) → ⊥) → T (st.settled x) → ⊥
  still_open x n k = n (A.still x k)

  old-says : (v : ℕ) (p : List ℕ) → T (st.settled v) → Says g key st v p → Says g key st' v p
  old-says v p k S = record {
    far_is = A.far_kept v (A.still v k) ∙ S.far_is;
    steps_is = A.steps_kept v (A.still v k) ∙ S.steps_is;
    row_is = A.row_kept v k ∙ S.row_is;
    next_is = λ y t e. A.next_kept v (A.still v k) ∙ S.next_is y t e;
  }

  found-now : (p : List ℕ) × Chosen g key u r p × Says g key st' u p
  found-now = go (kept_settles g L key r st M K u l w h near)
    where
      second_is : (q : List ℕ) → Settled g key r st (st.next u) q → (y : ℕ) (t : List ℕ) → u ∷ q ≡ u ∷ y ∷ t → st.next u ≡ y
      second_is q k y t e = side (chosen-first g key (st.next u) r q k.2)
        where
          side : ((z : List ℕ) × (q ≡ st.next u ∷ z) × Least g (st.next u) z r) → st.next u ≡ y
          side (z, f, W) = cc

      go : ((q : List ℕ) × Settled g key r st (st.next u) q × Chosen g key u r (u ∷ q) × (st.far u ≡ cost g (u ∷ q)) × (st.steps u ≡ hops (u ∷ q))
          × (insert_upward (key u) (st.row (st.next u)) ≡ path_id key (u ∷ q)))
          → (p : List ℕ) × Chosen g key u r p × Says g key st' u p
      go (q, k, P, c, n, i) = (
        u ∷ q,
        P,
        record {
          far_is = A.far_kept u A.done ∙ c;
          steps_is = A.steps_kept u A.done ∙ n;
          row_is = A.row_new ∙ i;
          next_is = λ y t e. A.next_kept u A.done ∙ second_is q k y t e;
        },
      )

  -- The label that stays, the label that is taken, and the offers of bridges settled before.
  label_stays : (x : ℕ) → x < g.size → (T (st.settled x) → ⊥) → T (st.labelled x) → Stays g r u st st' x → label st' x ≡ label st x
  label_stays x i n k S = cc (S.same_far, S.same_steps, rows)
    where
      rows : st'.row (st'.next x) ≡ st.row (st.next x)
      rows = ap (λ (z : ℕ). st'.row z) S.same_next ∙ A.row_kept (st.next x) (M.offered x i n k).done

  label_taken : (x : ℕ) → Takes g r u st st' x → label st' x ≡ offer g st' x u
  label_taken x N = cc (costs, count, ap (λ (z : ℕ). st'.row z) N.new_next)
    where
      costs : st'.far x ≡ g.hop x u + st'.far u
      costs = omega (arith, N.new_far, A.far_kept u A.done)

      count : st'.steps x ≡ suc (st'.steps u)
      count = omega (arith, N.new_steps, A.steps_kept u A.done)

  old_offer : (x y : ℕ) → T (st.settled y) → offer g st' x y ≡ offer g st x y
  old_offer x y k = cc (costs, count, A.row_kept y k)
    where
      costs : g.hop x y + st'.far y ≡ g.hop x y + st.far y
      costs = omega (arith, A.far_kept y (A.still y k))

      count : suc (st'.steps y) ≡ suc (st.steps y)
      count = omega (arith, A.steps_kept y (A.still y k))

  old_offers : (x y : ℕ) → T (st.settled y) → Offers g r st' x y → Offers g r st x y
  old_offers x y k O = record { done = k; joined = O.joined; passes = O.passes }

  labelled_before : (x : ℕ) → Stays g r u st st' x → T (st'.labelled x) → T (st.labelled x)
  labelled_before x S k = subst (λ (b : Bool). T b) S.same_labelled k

  labelled_after : (x : ℕ) → Stays g r u st st' x → T (st.labelled x) → T (st'.labelled x)
  labelled_after x S k = subst (λ (b : Bool). T b) (sym S.same_labelled) k

  pub kept_advances : Kept g key r st'
  kept_advances = record {
    inside = M.inside;
    root = A.still r M.root;
    found = λ v i k. found v i (A.only v k);
    offered = λ x i n k. offered x i n k (A.relaxed x i n);
    far_through = λ x i n k. far_through x i n k (A.relaxed x i n);
    steps_through = λ x i n k. steps_through x i n k (A.relaxed x i n);
    lowest = λ x y i j n k O c. lowest x y i j n k O (A.only y O.done) (A.relaxed x i n) c;
    reached = λ x y i j n O. reached x y i j n O (A.only y O.done) (A.relaxed x i n);
    ordered = λ v x i j k n m. ordered v x i j k n m (A.only v k) (A.relaxed x j n);
  }
    where
      found : (v : ℕ) → v < g.size → T (st.settled v) ⊎ (v ≡ u) → (p : List ℕ) × Chosen g key v r p × Says g key st' v p
      found v i (inl k) = let f = M.found v i k in (f.0, f.1, old-says v f.0 k f.2)
      found v i (inr e) = subst (λ (z : ℕ). (p : List ℕ) × Chosen g key z r p × Says g key st' z p) (sym e) found-now

      offered : (x : ℕ) → x < g.size → (T (st'.settled x) → ⊥) → T (st'.labelled x) → Stays g r u st st' x ⊎ Takes g r u st st' x
          → Offers g r st' x (st'.next x)
      offered x i n k (inl S) = let O = M.offered x i (still_open x n) (labelled_before x S k) in
          subst (λ (z : ℕ). Offers g r st' x z) (sym S.same_next) (record { done = A.still (st.next x) O.done; joined = O.joined; passes = O.passes })
      offered x i n k (inr N) = subst (λ (z : ℕ). Offers g r st' x z) (sym N.new_next) N.offers

      far_through : (x : ℕ) → x < g.size → (T (st'.settled x) → ⊥) → T (st'.labelled x) → Stays g r u st st' x ⊎ Takes g r u st st' x
          → st'.far x ≡ g.hop x (st'.next x) + st'.far (st'.next x)
      far_through x i n k (inl S) = let k' = labelled_before x S k in
          rw S.same_next (omega (
            arith,
            S.same_far,
            M.far_through x i (still_open x n) k',
            A.far_kept (st.next x) (A.still (st.next x) (M.offered x i (still_open x n) k').done),
          ))
      far_through x i n k (inr N) = rw N.new_next (omega (arith, N.new_far, A.far_kept u A.done))

      steps_through : (x : ℕ) → x < g.size → (T (st'.settled x) → ⊥) → T (st'.labelled x) → Stays g r u st st' x ⊎ Takes g r u st st' x
          → st'.steps x ≡ suc (st'.steps (st'.next x))
      steps_through x i n k (inl S) = let k' = labelled_before x S k in
          rw S.same_next (omega (
            arith,
            S.same_steps,
            M.steps_through x i (still_open x n) k',
            A.steps_kept (st.next x) (A.still (st.next x) (M.offered x i (still_open x n) k').done),
          ))
      steps_through x i n k (inr N) = rw N.new_next (omega (arith, N.new_steps, A.steps_kept u A.done))

      lowest : (x y : ℕ) → x < g.size → y < g.size → (T (st'.settled x) → ⊥) → T (st'.labelled x) → Offers g r st' x y
          → T (st.settled y) ⊎ (y ≡ u) → Stays g r u st st' x ⊎ Takes g r u st st' x → Lower (offer g st' x y) (label st' x) → ⊥
      lowest x y i j n k O (inl d) (inl S) c = let k' = labelled_before x S k in
          M.lowest x y i j (still_open x n) k' (old_offers x y d O)
          (subst (λ (z : List ℕ). Lower z (label st x)) (old_offer x y d)
          (subst (λ (z : List ℕ). Lower (offer g st' x y) z) (label_stays x i (still_open x n) k' S) c))
      lowest x y i j n k O (inl d) (inr N) c = let k' = M.reached x y i j (still_open x n) (old_offers x y d O) in
          M.lowest x y i j (still_open x n) k' (old_offers x y d O)
          (subst (λ (z : List ℕ). Lower z (label st x)) (old_offer x y d)
          (lower-chained (offer g st' x y) (offer g st' x u) (label st x)
          (subst (λ (z : List ℕ). Lower (offer g st' x y) z) (label_taken x N) c) (N.lower_now k')))
      lowest x y i j n k O (inr e) (inl S) c = let f = S.enough (subst (λ (z : ℕ). Offers g r st' x z) e O) in
          f.1 (subst (λ (z : List ℕ). Lower (offer g st' x u) z) (label_stays x i (still_open x n) f.0 S)
          (subst (λ (z : ℕ). Lower (offer g st' x z) (label st' x)) e c))
      lowest x y i j n k O (inr e) (inr N) c = lower-never (offer g st' x u)
          (subst (λ (z : List ℕ). Lower (offer g st' x u) z) (label_taken x N) (subst (λ (z : ℕ). Lower (offer g st' x z) (label st' x)) e c))

      reached : (x y : ℕ) → x < g.size → y < g.size → (T (st'.settled x) → ⊥) → Offers g r st' x y → T (st.settled y) ⊎ (y ≡ u)
          → Stays g r u st st' x ⊎ Takes g r u st st' x → T (st'.labelled x)
      reached x y i j n O (inl d) (inl S) = labelled_after x S (M.reached x y i j (still_open x n) (old_offers x y d O))
      reached x y i j n O (inr e) (inl S) = labelled_after x S (S.enough (subst (λ (z : ℕ). Offers g r st' x z) e O)).0
      reached x y i j n O d (inr N) = N.now_labelled

      ordered : (v x : ℕ) → v < g.size → x < g.size → T (st'.settled v) → (T (st'.settled x) → ⊥) → T (st'.labelled x)
          → T (st.settled v) ⊎ (v ≡ u) → Stays g r u st st' x ⊎ Takes g r u st st' x → st'.far v ≤ st'.far x
      ordered v x i j k n m (inl d) (inl S) =
          omega (arith, A.far_kept v k, S.same_far, M.ordered v x i j d (still_open x n) (labelled_before x S m))
      ordered v x i j k n m (inl d) (inr N) = omega (arith, A.far_kept v k, N.new_far, M.ordered v u i l d w h)
      ordered v x i j k n m (inr e) (inl S) =
          omega (arith, A.far_kept v k, S.same_far, ap (λ (z : ℕ). st.far z) e, near x j (still_open x n) (labelled_before x S m))
      ordered v x i j k n m (inr e) (inr N) = omega (arith, A.far_kept v k, N.new_far, ap (λ (z : ℕ). st.far z) e)
