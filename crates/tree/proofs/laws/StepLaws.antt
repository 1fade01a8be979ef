-- One step of a search: the nearest bridge is settled with its chosen path, its neighbours are relaxed, and what is kept stays true.
-- Assumes nothing.
use Rattle.std.specs.Prelude.{ℕ, suc, ◌+◌, ◌*◌, ◌≤◌, ◌<◌, ◌≡◌, refl, List, [], ◌∷◌, map, ◌⊎◌, cond, T, ltb, eqb, length, get_or}
use Rattle.std.proofs.Common.{arith, sym, ap, ◌∙◌, subst, inl, inr, ltb→lt, lt→ltb, eqb→eq, eq-eqb, ne_eqb}
use Rattle.graph.specs.Order.{Lower, insert_upward, Upward}
use Rattle.graph.proofs.laws.OrderLaws.{sorted-upward}
use Rattle.lists.proofs.laws.NumberLaws.{same_or_not, le_or_gt}
use Rattle.graph.specs.Graph.{Graph, cost, hops, path_id}
use Rattle.graph.proofs.laws.Notions.{Least}
use Rattle.graph.proofs.laws.Ranks.{cost-most}
use Rattle.graph.specs.Chosen.{Chosen}
use Rattle.graph.proofs.laws.ChosenPaths.{chosen-first, chosen_self, chosen-bounded, chosen_unique}
use Rattle.graph.specs.Lookups.{State, Offers, offer, label, Says, Kept}
use Rattle.graph.proofs.laws.LookupNotions.{Stays, Takes, Advances}
use Rattle.graph.proofs.laws.LookupLaws.{Settled, kept_settles, settled_nearer, kept_advances}
use Rattle.ect.specs.Rows.{row_of, Insertable}
use Rattle.ect.proofs.laws.RowLaws.{insertion_read-back, insertion_keeps, length-after}
use Rattle.labels.specs.Labels.{no_cost, Label, label_at, label_rank, settled_labels, settled_path_ids, state_of}
use Rattle.labels.proofs.laws.LabelLaws.{length-settled, label-settled, label_unsettled, settling_keeps, settled_says, says-settled}
use Rattle.labels.specs.Relaxing.{Relaxable, offer_at, Unchanged, Changed}
use Rattle.tree.specs.Settling.{Settleable}
use Rattle.tree.specs.Trees.{mark_at, Represents, Keyed, first_back}
use Rattle.tree.proofs.laws.TreeLaws.{PassedOn, neighbour_in, offered-cost, offered-joined, joined-listed, one_cost}
use Rattle.tree.specs.Tracked.{Tracked}

-- An offer that is lower than a label costs no more.
pub lower-cost : (costs path-ids labels : List ℕ) (via i : ℕ) (b : Label) → Lower (offer_at costs path-ids labels via i) (label_rank path-ids b)
    → (label_at labels via).cost + get_or costs i 0 ≤ b.cost
lower-cost costs path-ids labels via i b (inl h) = omega arith
lower-cost costs path-ids labels via i b (inr h) = omega arith

-- A search under way, and a bridge that waits at the least cost.
pub record Step (g : Graph) (key : ℕ → ℕ) (n root : ℕ) (starts neighbours costs keys labels path-ids : List ℕ) (u : ℕ) : Type 0 where
  pub represents : Represents g n starts neighbours costs
  pub keyed : Keyed g key keys
  pub tracked : Tracked g key n root labels path-ids
  pub has_labels : 320 ≤ length labels
  pub has_path_ids : 4096 ≤ length path-ids
  pub u_in : u < n
  pub waits : (label_at labels u).waits < no_cost
  pub near : (x : ℕ) → x < n → (label_at labels u).waits ≤ (label_at labels x).waits

module _ {g : Graph} {key : ℕ → ℕ} {n root : ℕ} {starts neighbours costs keys labels path-ids : List ℕ} {u : ℕ}
    (Z : Step g key n root starts neighbours costs keys labels path-ids u) where
  R : Represents g n starts neighbours costs
  R = Z.represents

  K : Keyed g key keys
  K = Z.keyed

  M : Tracked g key n root labels path-ids
  M = Z.tracked

  u_in : u < n
  u_in = Z.u_in

  abbrev st : State
  st = state_of n labels path-ids

  pub not-settled : T (st.settled u) → ⊥
  not-settled h = omega (arith, (settled_says n labels path-ids u h).2)

  waits-at-cost : (label_at labels u).waits ≡ (label_at labels u).cost
  waits-at-cost = go (M.waits_or_not u u_in)
    where
      go : ((label_at labels u).waits ≡ no_cost) ⊎ ((label_at labels u).waits ≡ (label_at labels u).cost) → (label_at labels u).waits ≡ (label_at labels u).cost
      go (inl e) = absurd (omega arith)
      go (inr e) = e

  labelled-u : T (st.labelled u)
  labelled-u = lt→ltb (label_at labels u).cost no_cost (omega (arith, waits-at-cost))

  inside : u < g.size
  inside = omega (arith, R.size_is)

  nearest : (x : ℕ) → x < g.size → (T (st.settled x) → ⊥) → T (st.labelled x) → st.far u ≤ st.far x
  nearest x i f k = go (M.waits_or_not x (omega (arith, R.size_is)))
    where
      go : ((label_at labels x).waits ≡ no_cost) ⊎ ((label_at labels x).waits ≡ (label_at labels x).cost) → st.far u ≤ st.far x
      go (inl e) = absurd (f (says-settled n labels path-ids x (omega (arith, R.size_is)) (ltb→lt (label_at labels x).cost no_cost k) (omega arith)))
      go (inr e) = omega (arith, waits-at-cost, Z.near x (omega (arith, R.size_is)))

  -- The label of `u` is that of its chosen path.
  pub settles : (q : List ℕ) × Settled g key root st (st.next u) q × Chosen g key u root (u ∷ q) × (st.far u ≡ cost g (u ∷ q)) × (st.steps u ≡ hops (u ∷ q))
      × (insert_upward (key u) (st.row (st.next u)) ≡ path_id key (u ∷ q))
  settles = kept_settles g R.laws key root st M.kept K.laws u inside not-settled labelled-u nearest

  few-steps : st.steps u < 64
  few-steps = omega (arith, settles.4, chosen-bounded g R.laws key u root (u ∷ settles.0) settles.2, R.size_is, R.most)

  cost_bound : st.far u ≤ 63 * 16777214
  cost_bound = omega (arith, settles.3, settles.4, few-steps, cost-most g 16777214 R.hop_most u settles.0)

  pub next-steps : st.steps u ≡ suc (st.steps (st.next u))
  next-steps = M.kept.steps_through u inside not-settled labelled-u

  -- The row of the next hop.
  next_row : row_of path-ids (st.next u) (st.steps u) ≡ st.row (st.next u)
  next_row = let e : st.steps u ≡ st.steps (st.next u) + 1 = omega (arith, next-steps) in ap (λ (k : ℕ). row_of path-ids (st.next u) k) e

  apart : st.next u ≡ u → ⊥
  apart e = not-settled (subst (λ (k : ℕ). T (st.settled k)) e settles.1.1)

  row-upward : Upward (row_of path-ids (st.next u) (st.steps u))
  row-upward = go (M.kept.found (st.next u) settles.1.0 settles.1.1)
    where
      go : ((p : List ℕ) × Chosen g key (st.next u) root p × Says g key st (st.next u) p) → Upward (row_of path-ids (st.next u) (st.steps u))
      go (p, P, S) = subst Upward (sym (next_row ∙ S.row_is)) (sorted-upward (map key p))

  insertable : Insertable path-ids (st.next u) u (st.steps u)
  insertable = record {
    apart = apart;
    room = few-steps;
    has_from = omega (arith, settles.1.0, R.size_is, R.most);
    has_to = omega (arith, R.most);
    upward = row-upward;
  }

  pub step_settleable : Settleable labels path-ids keys u
  step_settleable = record {
    u_in = omega (arith, R.most);
    next_in = omega (arith, settles.1.0, R.size_is, R.most);
    has_labels = Z.has_labels;
    has_key = omega (arith, K.has_keys, R.size_is);
    insertable = insertable;
  }

  -- The labels and masked PATHIDs with `u` settled.
  abbrev labels₁ : List ℕ
  labels₁ = settled_labels labels root u

  abbrev path_ids₁ : List ℕ
  path_ids₁ = settled_path_ids labels path-ids u (get_or keys u 0)

  u-low : u < 64
  u-low = omega (arith, R.most)

  same-cost : (x : ℕ) → x < 64 → (label_at labels₁ x).cost ≡ (label_at labels x).cost
  same-cost x l = ap (λ (b : Label). b.cost) (settling_keeps labels root u x l u-low Z.has_labels).2

  same_hops : (x : ℕ) → x < 64 → (label_at labels₁ x).hops ≡ (label_at labels x).hops
  same_hops x l = ap (λ (b : Label). b.hops) (settling_keeps labels root u x l u-low Z.has_labels).2

  same_next : (x : ℕ) → x < 64 → (label_at labels₁ x).next ≡ (label_at labels x).next
  same_next x l = ap (λ (b : Label). b.next) (settling_keeps labels root u x l u-low Z.has_labels).2

  pub length-path-ids : length path_ids₁ ≡ length path-ids
  length-path-ids = length-after path-ids (st.next u) u (st.steps u) (get_or keys u 0) insertable

  -- The places of the neighbours of `u`.
  abbrev from : ℕ
  from = get_or starts u 0

  abbrev end : ℕ
  end = get_or starts (u + 1) 0

  way_bound : (i : ℕ) → from ≤ i → i < end → (label_at labels₁ u).cost + get_or costs i 0 < no_cost
  way_bound i h k = omega (arith, same-cost u u-low, cost_bound, R.cost_is u i u_in h k, R.hop_most u (get_or neighbours i 0))

  pub step_relaxable : Relaxable starts neighbours costs path_ids₁ labels₁ u
  step_relaxable = record {
    via_in = u-low;
    has_labels = omega (arith, length-settled labels root u);
    has_path_ids = omega (arith, length-path-ids);
    has_starts = omega (arith, R.has_starts);
    has_neighbours = R.has_neighbours u u_in;
    has_costs = R.has_costs u u_in;
    in_order = R.in_order u u_in;
    hops_in = omega (arith, same_hops u u-low, few-steps);
    neighbour_in = λ i h k. omega (arith, neighbour_in R u u_in i h k, R.most);
    cost_in = way_bound;
    one_cost = one_cost R u u_in;
    next_in = λ i h k f. next_in (get_or neighbours i 0) (neighbour_in R u u_in i h k) f;
  }
    where
      next_in : (x : ℕ) → x < n → (label_at labels₁ x).cost < no_cost → (label_at labels₁ x).next < 64
      next_in x l f = omega (
        arith,
        same_next x (omega (arith, R.most)),
        M.next_in x l (omega (arith, same-cost x (omega (arith, R.most)))),
        R.most,
      )

  low : (x : ℕ) → x < n → x < 64
  low x l = omega (arith, R.most)

  -- Who is offered the way through `u` is offered it by a bridge that may lie between: it is not the root, which is settled already.
  no_root : u ≡ root → ⊥
  no_root e = not-settled (subst (λ (z : ℕ). T (st.settled z)) (sym e) M.kept.root)

  may_pass : (u ≡ root) ⊎ T (g.between u) → mark_at starts u ≡ 0
  may_pass (inl e) = absurd (no_root e)
  may_pass (inr b) = eqb→eq (mark_at starts u) 0 (subst T (R.marked u u_in) b)

  passes : mark_at starts u ≡ 0 → T (g.between u)
  passes e = subst T (sym (R.marked u u_in ∙ eq-eqb (mark_at starts u) 0 e)) tt

  -- After `u` passed the way on.
  module _ (labels₂ : List ℕ) (X : PassedOn starts neighbours costs path_ids₁ u labels₁ labels₂) where
    abbrev st' : State
    st' = state_of n labels₂ path_ids₁

    -- The label of the bridge `x` is as it was, and no offer to it was lower; or it was offered the way through `u` and took it.
    record Same (x : ℕ) : Type 0 where
      same : label_at labels₂ x ≡ label_at labels₁ x
      not_lower : mark_at starts u ≡ 0 → (i : ℕ) → from ≤ i → i < end → get_or neighbours i 0 ≡ x
          → Lower (offer_at costs path_ids₁ labels₁ u i) (label_rank path_ids₁ (label_at labels₁ x)) → ⊥

    abbrev Took : ℕ → Type 0
    Took x = Changed neighbours costs path_ids₁ u from end labels₁ labels₂ x

    each : (x : ℕ) → x < 64 → Same x ⊎ ((mark_at starts u ≡ 0) × Took x)
    each x l = go (same_or_not (mark_at starts u) 0)
      where
        relaxed : mark_at starts u ≡ 0 → Unchanged neighbours costs path_ids₁ u from end labels₁ labels₂ x ⊎ Took x → Same x ⊎ ((mark_at starts u ≡ 0) × Took x)
        relaxed e (inl U) = inl (record { same = U.same; not_lower = λ f. U.not_lower })
        relaxed e (inr C) = inr (e, C)

        go : (mark_at starts u ≡ 0) ⊎ (mark_at starts u ≡ 0 → ⊥) → Same x ⊎ ((mark_at starts u ≡ 0) × Took x)
        go (inl e) = relaxed e ((X.offered e).each x l)
        go (inr f) = inl (record { same = ap (λ (z : List ℕ). label_at z x) (X.kept_back f); not_lower = λ e. absurd (f e) })

    -- A settled bridge takes nothing: the way through `u` costs more.
    not_taken : (x : ℕ) → x < n → T (st.settled x) ⊎ (x ≡ u) → Took x → ⊥
    not_taken x l (inl k) C = omega (
      arith,
      lower-cost costs path_ids₁ labels₁ u C.place (label_at labels₁ x) C.lower_now,
      same-cost u u-low,
      same-cost x (low x l),
      offered-cost R u u_in C.place x C.after C.before C.offered,
      settled_nearer g R.laws key root st M.kept u x inside (omega (arith, R.size_is)) not-settled labelled-u k
          (offered-joined R u u_in C.place x C.after C.before C.offered),
    )
    not_taken x l (inr e) C = omega (
      arith,
      lower-cost costs path_ids₁ labels₁ u C.place (label_at labels₁ x) C.lower_now,
      ap (λ (k : ℕ). (label_at labels₁ k).cost) e,
      offered-cost R u u_in C.place x C.after C.before C.offered,
      offered-joined R u u_in C.place x C.after C.before C.offered,
    )

    settled_same : (x : ℕ) → x < n → T (st.settled x) ⊎ (x ≡ u) → label_at labels₂ x ≡ label_at labels₁ x
    settled_same x l k = go (each x (low x l))
      where
        go : Same x ⊎ ((mark_at starts u ≡ 0) × Took x) → label_at labels₂ x ≡ label_at labels₁ x
        go (inl U) = U.same
        go (inr (e, C)) = absurd (not_taken x l k C)

    taken_waits : (x : ℕ) (C : Took x) → (label_at labels₂ x).waits < no_cost
    taken_waits x C = omega (arith, ap (λ (b : Label). b.waits) C.took, way_bound C.place C.after C.before)

    pub only : (v : ℕ) → T (st'.settled v) → T (st.settled v) ⊎ (v ≡ u)
    only v k = go (settled_says n labels₂ path_ids₁ v k) (same_or_not v u)
      where
        old : (v < n) × ((label_at labels₂ v).cost < no_cost) × (no_cost ≤ (label_at labels₂ v).waits) → (v ≡ u → ⊥)
            → Same v ⊎ ((mark_at starts u ≡ 0) × Took v) → T (st.settled v)
        old (l, j, m) f (inl U) =
            let e : label_at labels₂ v ≡ label_at labels v = U.same ∙ label_unsettled labels root u v (low v l) u-low f in
            says-settled n labels path-ids v l (omega (arith, ap (λ (b : Label). b.cost) e)) (omega (arith, ap (λ (b : Label). b.waits) e))
        old (l, j, m) f (inr (e, C)) = absurd (omega (arith, taken_waits v C))

        go : (v < n) × ((label_at labels₂ v).cost < no_cost) × (no_cost ≤ (label_at labels₂ v).waits) → (v ≡ u) ⊎ (v ≡ u → ⊥) → T (st.settled v) ⊎ (v ≡ u)
        go s (inl e) = inr e
        go s (inr f) = inl (old s f (each v (low v s.0)))

    pub still : (v : ℕ) → T (st.settled v) → T (st'.settled v)
    still v k = go (settled_says n labels path-ids v k)
      where
        go : (v < n) × ((label_at labels v).cost < no_cost) × (no_cost ≤ (label_at labels v).waits) → T (st'.settled v)
        go (l, j, m) =
            let f : v ≡ u → ⊥ = λ e. not-settled (subst (λ (z : ℕ). T (st.settled z)) e k) in
            let e : label_at labels₂ v ≡ label_at labels v = settled_same v l (inl k) ∙ label_unsettled labels root u v (low v l) u-low f in
            says-settled n labels₂ path_ids₁ v l (omega (arith, ap (λ (b : Label). b.cost) e)) (omega (arith, ap (λ (b : Label). b.waits) e))

    label_u : label_at labels₂ u ≡ label_at labels₁ u
    label_u = settled_same u u_in (inr refl)

    pub done : T (st'.settled u)
    done = says-settled n labels₂ path_ids₁ u u_in
        (omega (arith, ap (λ (b : Label). b.cost) label_u, same-cost u u-low, waits-at-cost))
        (omega (arith, ap (λ (b : Label). b.waits) label_u, ap (λ (b : Label). b.waits) (label-settled labels root u u-low Z.has_labels)))

    settled_in : (v : ℕ) → T (st'.settled v) → v < n
    settled_in v k = (settled_says n labels₂ path_ids₁ v k).0

    kept_label : (v : ℕ) → T (st'.settled v) → label_at labels₂ v ≡ label_at labels₁ v
    kept_label v k = settled_same v (settled_in v k) (only v k)

    far_kept : (v : ℕ) → T (st'.settled v) → st'.far v ≡ st.far v
    far_kept v k = ap (λ (b : Label). b.cost) (kept_label v k) ∙ same-cost v (low v (settled_in v k))

    pub steps_kept : (v : ℕ) → T (st'.settled v) → st'.steps v ≡ st.steps v
    steps_kept v k = ap (λ (b : Label). b.hops) (kept_label v k) ∙ same_hops v (low v (settled_in v k))

    pub next_kept : (v : ℕ) → T (st'.settled v) → st'.next v ≡ st.next v
    next_kept v k = ap (λ (b : Label). b.next) (kept_label v k) ∙ same_next v (low v (settled_in v k))

    settled_steps : (v : ℕ) → v < n → T (st.settled v) → st.steps v < 64
    settled_steps v l k = go (M.kept.found v (omega (arith, R.size_is)) k)
      where
        go : ((p : List ℕ) × Chosen g key v root p × Says g key st v p) → st.steps v < 64
        go (p, P, S) = omega (arith, S.steps_is, chosen-bounded g R.laws key v root p P, R.size_is, R.most)

    -- Rows of bridges settled before are as they were.
    old_row : (v m : ℕ) → v < n → T (st.settled v) → m ≤ 64 → row_of path_ids₁ v m ≡ row_of path-ids v m
    old_row v m l k h = insertion_keeps path-ids (st.next u) u (st.steps u) (get_or keys u 0) insertable v m
        (λ e. not-settled (subst (λ (z : ℕ). T (st.settled z)) e k)) h

    row_kept : (v : ℕ) → T (st.settled v) → st'.row v ≡ st.row v
    row_kept v k =
        let l : v < n = (settled_says n labels path-ids v k).0 in
        ap (λ (m : ℕ). row_of path_ids₁ v (m + 1)) (steps_kept v (still v k)) ∙ old_row v (st.steps v + 1) l k (omega (arith, settled_steps v l k))

    row_new : st'.row u ≡ insert_upward (key u) (st.row (st.next u))
    row_new =
        ap (λ (m : ℕ). row_of path_ids₁ u (m + 1)) (steps_kept u done)
        ∙ insertion_read-back path-ids (st.next u) u (st.steps u) (get_or keys u 0) insertable
        ∙ ap (λ (k : ℕ). insert_upward k (row_of path-ids (st.next u) (st.steps u))) (K.key_is u inside)
        ∙ ap (insert_upward (key u)) next_row

    not_u : (x : ℕ) → (T (st'.settled x) → ⊥) → x ≡ u → ⊥
    not_u x f e = f (subst (λ (z : ℕ). T (st'.settled z)) (sym e) done)

    -- The offer and the label as the code compares them.
    offer_is : (i x : ℕ) → from ≤ i → i < end → get_or neighbours i 0 ≡ x → offer g st' x u ≡ offer_at costs path_ids₁ labels₁ u i
    offer_is i x h k e = cc (costs_are, count, ap (λ (b : Label). row_of path_ids₁ u (b.hops + 1)) label_u)
      where
        costs_are : g.hop x u + st'.far u ≡ (label_at labels₁ u).cost + get_or costs i 0
        costs_are = omega (arith, ap (λ (b : Label). b.cost) label_u, offered-cost R u u_in i x h k e)

        count : suc (st'.steps u) ≡ (label_at labels₁ u).hops + 1
        count = omega (arith, ap (λ (b : Label). b.hops) label_u)

    label_is : (x : ℕ) → x < n → (x ≡ u → ⊥) → (T (st.settled x) → ⊥) → T (st.labelled x) → label_rank path_ids₁ (label_at labels₁ x) ≡ label st x
    label_is x l f o k =
        ap (label_rank path_ids₁) (label_unsettled labels root u x (low x l) u-low f)
        ∙ ap (λ (t : List ℕ). st.far x ∷ st.steps x ∷ t)
        (old_row (st.next x) (st.steps x) next_in O.done (omega (arith, steps_next, settled_steps (st.next x) next_in O.done))
        ∙ ap (λ (m : ℕ). row_of path-ids (st.next x) m) one_more)
      where
        inside_x : x < g.size
        inside_x = omega (arith, R.size_is)

        O : Offers g root st x (st.next x)
        O = M.kept.offered x inside_x o k

        next_in : st.next x < n
        next_in = (settled_says n labels path-ids (st.next x) O.done).0

        steps_next : st.steps x ≡ suc (st.steps (st.next x))
        steps_next = M.kept.steps_through x inside_x o k

        one_more : st.steps x ≡ st.steps (st.next x) + 1
        one_more = omega (arith, steps_next)

    lower_is : (i x : ℕ) → from ≤ i → i < end → get_or neighbours i 0 ≡ x → x < n → (T (st'.settled x) → ⊥) → T (st.labelled x)
        → (Lower (offer_at costs path_ids₁ labels₁ u i) (label_rank path_ids₁ (label_at labels₁ x)) → Lower (offer g st' x u) (label st x))
        × (Lower (offer g st' x u) (label st x) → Lower (offer_at costs path_ids₁ labels₁ u i) (label_rank path_ids₁ (label_at labels₁ x)))
    lower_is i x h k e l f m = go (offer g st' x u) (label st x) (offer_is i x h k e) (label_is x l (not_u x f) (λ s. f (still x s)) m)
      where
        go : (a b : List ℕ) → a ≡ offer_at costs path_ids₁ labels₁ u i → label_rank path_ids₁ (label_at labels₁ x) ≡ b
            → (Lower (offer_at costs path_ids₁ labels₁ u i) (label_rank path_ids₁ (label_at labels₁ x)) → Lower a b)
            × (Lower a b → Lower (offer_at costs path_ids₁ labels₁ u i) (label_rank path_ids₁ (label_at labels₁ x)))
        go a b p q = (
          λ h. subst (λ (z : List ℕ). Lower z b) (sym p) (subst (λ (z : List ℕ). Lower (offer_at costs path_ids₁ labels₁ u i) z) q h),
          λ h. subst (λ (z : List ℕ). Lower (offer_at costs path_ids₁ labels₁ u i) z) (sym q) (subst (λ (z : List ℕ). Lower z b) p h),
        )

    stays : (x : ℕ) → x < n → (T (st'.settled x) → ⊥) → Same x → Stays g root u st st' x
    stays x l f U = record {
      same_labelled = ap (λ (b : Label). ltb b.cost no_cost) same;
      same_far = ap (λ (b : Label). b.cost) same;
      same_steps = ap (λ (b : Label). b.hops) same;
      same_next = ap (λ (b : Label). b.next) same;
      enough = λ O. enough (may_pass O.passes) (joined-listed R u u_in x O.joined);
    }
      where
        same : label_at labels₂ x ≡ label_at labels x
        same = U.same ∙ label_unsettled labels root u x (low x l) u-low (not_u x f)

        enough : mark_at starts u ≡ 0 → ((i : ℕ) × (from ≤ i) × (i < end) × (get_or neighbours i 0 ≡ x)) → T (st.labelled x) × (Lower (offer g st' x u) (label st x) → ⊥)
        enough m (i, h, k, e) = let t = labelled_x (le_or_gt no_cost (st.far x)) in
            (t, λ q. U.not_lower m i h k e ((lower_is i x h k e l f t).1 q))
          where
            labelled_x : (no_cost ≤ st.far x) ⊎ (st.far x < no_cost) → T (st.labelled x)
            labelled_x (inl c) = absurd (U.not_lower m i h k e (inl (omega (arith, way_bound i h k, same-cost x (low x l)))))
            labelled_x (inr c) = lt→ltb (st.far x) no_cost c

    takes : (x : ℕ) → x < n → (T (st'.settled x) → ⊥) → mark_at starts u ≡ 0 → Took x → Takes g root u st st' x
    takes x l f m C = record {
      offers = record { done = done; joined = offered-joined R u u_in C.place x C.after C.before C.offered; passes = inr (passes m) };
      now_labelled = lt→ltb (st'.far x) no_cost (omega (arith, far_x, way_bound C.place C.after C.before));
      new_far = omega (arith, far_x, same-cost u u-low, offered-cost R u u_in C.place x C.after C.before C.offered);
      new_steps = omega (arith, ap (λ (b : Label). b.hops) C.took, same_hops u u-low);
      new_next = ap (λ (b : Label). b.next) C.took;
      lower_now = λ t. (lower_is C.place x C.after C.before C.offered l f t).0 C.lower_now;
    }
      where
        far_x : st'.far x ≡ (label_at labels₁ u).cost + get_or costs C.place 0
        far_x = ap (λ (b : Label). b.cost) C.took

    advances : Advances g key root u st st'
    advances = record {
      done = done;
      still = still;
      only = only;
      far_kept = far_kept;
      steps_kept = steps_kept;
      next_kept = next_kept;
      row_kept = row_kept;
      row_new = row_new;
      relaxed = λ x i f. go x (omega (arith, R.size_is)) f (each x (low x (omega (arith, R.size_is))));
    }
      where
        go : (x : ℕ) → x < n → (T (st'.settled x) → ⊥) → Same x ⊎ ((mark_at starts u ≡ 0) × Took x)
            → Stays g root u st st' x ⊎ Takes g root u st st' x
        go x l f (inl U) = inl (stays x l f U)
        go x l f (inr (m, C)) = inr (takes x l f m C)

    kept_now : Kept g key root st'
    kept_now = kept_advances g R.laws key K.laws root u st st' M.kept inside not-settled labelled-u nearest advances

    -- The first hop from the root.
    first_now : (v : ℕ) → v < n → T (st'.settled v) → (p : List ℕ) → Chosen g key v root p → (label_at labels₂ v).first ≡ first_back p
    first_now v l k p P = go (only v k) (same_or_not v u)
      where
        through : (q : List ℕ) → Settled g key root st (st.next u) q → (st.next u ≡ root) ⊎ (st.next u ≡ root → ⊥)
            → cond (eqb (st.next u) root) u (label_at labels (st.next u)).first ≡ first_back (u ∷ q)
        through q (i, s, Q) (inl e) = simp (eq-eqb (st.next u) root e)
            (ap (λ (z : List ℕ). first_back (u ∷ z)) (sym (chosen_self g key root q (subst (λ (z : ℕ). Chosen g key z root q) e Q))))
        through q (i, s, Q) (inr f) = simp (ne_eqb (st.next u) root f)
            (M.first_is (st.next u) (omega (arith, R.size_is)) s q Q ∙ longer (chosen-first g key (st.next u) root q Q))
          where
            longer : ((t : List ℕ) × (q ≡ st.next u ∷ t) × Least g (st.next u) t root) → first_back q ≡ first_back (u ∷ q)
            longer ([], e, L) = absurd (f L.way)
            longer (y ∷ t, e, L) = rw e refl

        settled_now : v ≡ u → (label_at labels₂ v).first ≡ first_back p
        settled_now e =
            ap (λ (z : ℕ). (label_at labels₂ z).first) e
            ∙ ap (λ (b : Label). b.first) (label_u ∙ label-settled labels root u u-low Z.has_labels)
            ∙ through settles.0 settles.1 (same_or_not (st.next u) root)
            ∙ ap first_back (chosen_unique g key u root (u ∷ settles.0) p settles.2 (subst (λ (z : ℕ). Chosen g key z root p) e P))

        go : T (st.settled v) ⊎ (v ≡ u) → (v ≡ u) ⊎ (v ≡ u → ⊥) → (label_at labels₂ v).first ≡ first_back p
        go s (inl e) = settled_now e
        go (inr e) (inr f) = absurd (f e)
        go (inl s) (inr f) =
            ap (λ (b : Label). b.first) (kept_label v k ∙ label_unsettled labels root u v (low v l) u-low f) ∙ M.first_is v l s p P

    -- What is kept stays true.
    pub step_tracked : Tracked g key n root labels₂ path_ids₁
    step_tracked = record {
      kept = kept_now;
      waits_or_not = λ x l. waits_or_not x l (each x (low x l)) (same_or_not x u);
      cost_at_most = λ x l. cost_at_most x l (each x (low x l));
      next_in = λ x l h. next_in x l h (each x (low x l));
      root_next = next_kept root (still root M.kept.root) ∙ M.root_next;
      first_is = first_now;
    }
      where
        waits_or_not : (x : ℕ) → x < n → Same x ⊎ ((mark_at starts u ≡ 0) × Took x) → (x ≡ u) ⊎ (x ≡ u → ⊥)
            → ((label_at labels₂ x).waits ≡ no_cost) ⊎ ((label_at labels₂ x).waits ≡ (label_at labels₂ x).cost)
        waits_or_not x l s (inl e) = inl (ap (λ (z : ℕ). (label_at labels₂ z).waits) e ∙ ap (λ (b : Label). b.waits) (label_u ∙ label-settled labels root u u-low Z.has_labels))
        waits_or_not x l (inr (m, C)) (inr f) = inr (ap (λ (b : Label). b.waits) C.took ∙ sym (ap (λ (b : Label). b.cost) C.took))
        waits_or_not x l (inl U) (inr f) =
            subst (λ (b : Label). (b.waits ≡ no_cost) ⊎ (b.waits ≡ b.cost)) (sym (U.same ∙ label_unsettled labels root u x (low x l) u-low f)) (M.waits_or_not x l)

        cost_at_most : (x : ℕ) → x < n → Same x ⊎ ((mark_at starts u ≡ 0) × Took x) → (label_at labels₂ x).cost ≤ no_cost
        cost_at_most x l (inl U) = omega (arith, ap (λ (b : Label). b.cost) U.same, same-cost x (low x l), M.cost_at_most x l)
        cost_at_most x l (inr (m, C)) = omega (arith, ap (λ (b : Label). b.cost) C.took, way_bound C.place C.after C.before)

        next_in : (x : ℕ) → x < n → (label_at labels₂ x).cost < no_cost → Same x ⊎ ((mark_at starts u ≡ 0) × Took x) → (label_at labels₂ x).next < n
        next_in x l h (inl U) = omega (
          arith,
          ap (λ (b : Label). b.next) U.same,
          same_next x (low x l),
          M.next_in x l (omega (arith, ap (λ (b : Label). b.cost) U.same, same-cost x (low x l))),
        )
        next_in x l h (inr (m, C)) = omega (arith, ap (λ (b : Label). b.next) C.took)
