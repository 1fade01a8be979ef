-- The start of a search: the root alone is settled and its neighbours are relaxed. Then what a search keeps is true.
-- Assumes nothing.
use Rattle.std.specs.Prelude.{ℕ, ◌+◌, ◌≤◌, ◌<◌, ◌≡◌, List, [], ◌∷◌, ◌⊎◌, T, length, get_or}
use Rattle.std.proofs.Common.{arith, sym, ap, ◌∙◌, subst, inl, inr, ltb→lt, lt→ltb}
use Rattle.lists.proofs.laws.NumberLaws.{same_or_not}
use Rattle.graph.specs.Graph.{Graph, Joined}
use Rattle.graph.specs.Chosen.{Chosen}
use Rattle.graph.proofs.laws.ChosenPaths.{chosen_self}
use Rattle.graph.specs.Lookups.{State}
use Rattle.graph.proofs.laws.LookupNotions.{Starts}
use Rattle.graph.proofs.laws.LookupLaws.{kept-starts}
use Rattle.ect.specs.Rows.{row_of}
use Rattle.labels.specs.Labels.{no_cost, Label, label_at, state_of}
use Rattle.labels.proofs.laws.LabelLaws.{settled_says, says-settled}
use Rattle.labels.specs.Relaxing.{Relaxable, Unchanged, Changed, Relaxed}
use Rattle.tree.specs.Settling.{Begun}
use Rattle.tree.specs.Trees.{Represents, first_back}
use Rattle.tree.proofs.laws.TreeLaws.{neighbour_in, offered-cost, offered-joined, joined-listed, one_cost}
use Rattle.tree.proofs.laws.StepLaws.{lower-cost}
use Rattle.tree.specs.Tracked.{Tracked}

module _ (g : Graph) (n root : ℕ) (starts neighbours costs : List ℕ) (R : Represents g n starts neighbours costs) (key : ℕ)
    (labels₀ path_ids₀ labels path-ids : List ℕ) (root_in : root < n) (has_labels : 320 ≤ length labels₀) (has_path_ids : 4096 ≤ length path_ids₀)
    (B : Begun root key labels₀ path_ids₀ labels path-ids) where
  abbrev from : ℕ
  from = get_or starts root 0

  abbrev end : ℕ
  end = get_or starts (root + 1) 0

  low : (x : ℕ) → x < n → x < 64
  low x l = omega (arith, R.most)

  cost-root : (label_at labels root).cost ≡ 0
  cost-root = ap (λ (b : Label). b.cost) B.root_label

  way_bound : (i : ℕ) → from ≤ i → i < end → (label_at labels root).cost + get_or costs i 0 < no_cost
  way_bound i h k = omega (arith, cost-root, R.cost_is root i root_in h k, R.hop_most root (get_or neighbours i 0))

  pub start_relaxable : Relaxable starts neighbours costs path-ids labels root
  start_relaxable = record {
    via_in = low root root_in;
    has_labels = omega (arith, B.same_labels);
    has_path_ids = omega (arith, B.same_path_ids);
    has_starts = omega (arith, R.has_starts);
    has_neighbours = R.has_neighbours root root_in;
    has_costs = R.has_costs root root_in;
    in_order = R.in_order root root_in;
    hops_in = omega (arith, ap (λ (b : Label). b.hops) B.root_label);
    neighbour_in = λ i h k. low (get_or neighbours i 0) (neighbour_in R root root_in i h k);
    cost_in = way_bound;
    one_cost = one_cost R root root_in;
    next_in = λ i h k f. next_in (get_or neighbours i 0) (neighbour_in R root root_in i h k) f (same_or_not (get_or neighbours i 0) root);
  }
    where
      next_in : (x : ℕ) → x < n → (label_at labels x).cost < no_cost → (x ≡ root) ⊎ (x ≡ root → ⊥) → (label_at labels x).next < 64
      next_in x l h (inl e) = omega (arith, ap (λ (z : ℕ). (label_at labels z).next) e, ap (λ (b : Label). b.next) B.root_label, low root root_in)
      next_in x l h (inr f) = absurd (omega (arith, B.others_unlabelled x (low x l) f))

  -- After the root's neighbours were offered the way to it.
  module _ (labels₂ : List ℕ) (X : Relaxed starts neighbours costs path-ids root labels labels₂) where
    abbrev st : State
    st = state_of n labels₂ path-ids

    abbrev Same : ℕ → Type 0
    Same x = Unchanged neighbours costs path-ids root from end labels labels₂ x

    abbrev Took : ℕ → Type 0
    Took x = Changed neighbours costs path-ids root from end labels labels₂ x

    label-root : label_at labels₂ root ≡ record { waits = no_cost; cost = 0; hops = 0; next = root; first = root }
    label-root = go (X.each root (low root root_in)) ∙ B.root_label
      where
        go : Same root ⊎ Took root → label_at labels₂ root ≡ label_at labels root
        go (inl U) = U.same
        go (inr C) = absurd (omega (
          arith,
          lower-cost costs path-ids labels root C.place (label_at labels root) C.lower_now,
          offered-cost R root root_in C.place root C.after C.before C.offered,
          offered-joined R root root_in C.place root C.after C.before C.offered,
        ))

    -- A bridge other than the root has a label where it took the offer.
    took : (x : ℕ) → x < n → (x ≡ root → ⊥) → T (st.labelled x) → Took x
    took x l f k = go (X.each x (low x l))
      where
        go : Same x ⊎ Took x → Took x
        go (inl U) = absurd (omega (arith, ltb→lt (label_at labels₂ x).cost no_cost k, ap (λ (b : Label). b.cost) U.same, B.others_unlabelled x (low x l) f))
        go (inr C) = C

    took-waits : (x : ℕ) → Took x → (label_at labels₂ x).waits < no_cost
    took-waits x C = omega (arith, ap (λ (b : Label). b.waits) C.took, way_bound C.place C.after C.before)

    pub alone : (v : ℕ) → T (st.settled v) → v ≡ root
    alone v k = go (settled_says n labels₂ path-ids v k) (same_or_not v root)
      where
        go : (v < n) × ((label_at labels₂ v).cost < no_cost) × (no_cost ≤ (label_at labels₂ v).waits) → (v ≡ root) ⊎ (v ≡ root → ⊥) → v ≡ root
        go s (inl e) = e
        go (l, j, m) (inr f) = absurd (omega (arith, took-waits v (took v l f (lt→ltb (label_at labels₂ v).cost no_cost j))))

    beside : (x : ℕ) → x < n → (x ≡ root → ⊥) → Joined g x root → T (st.labelled x)
    beside x l f j = go (X.each x (low x l)) (joined-listed R root root_in x j)
      where
        go : Same x ⊎ Took x → ((i : ℕ) × (from ≤ i) × (i < end) × (get_or neighbours i 0 ≡ x)) → T (st.labelled x)
        go (inl U) (i, h, k, e) = absurd (U.not_lower i h k e (inl (omega (arith, way_bound i h k, B.others_unlabelled x (low x l) f))))
        go (inr C) r = lt→ltb (label_at labels₂ x).cost no_cost (omega (arith, ap (λ (b : Label). b.cost) C.took, way_bound C.place C.after C.before))

    started : (path-key : ℕ → ℕ) → path-key root ≡ key → Starts g path-key root st
    started path-key key_is = record {
      inside = omega (arith, R.size_is);
      root = says-settled n labels₂ path-ids root root_in (omega (arith, ap (λ (b : Label). b.cost) label-root)) (omega (arith, ap (λ (b : Label). b.waits) label-root));
      alone = alone;
      far_root = ap (λ (b : Label). b.cost) label-root;
      steps_root = ap (λ (b : Label). b.hops) label-root;
      row_root = ap (λ (b : Label). row_of path-ids root (b.hops + 1)) label-root ∙ B.root_row ∙ ap (λ (k : ℕ). k ∷ []) (sym key_is);
      beside = λ x i f j. beside x (omega (arith, R.size_is)) f j;
      labelled_joined = λ x i f k. let C = took x (omega (arith, R.size_is)) f k in offered-joined R root root_in C.place x C.after C.before C.offered;
      labelled_far = λ x i f k. let C = took x (omega (arith, R.size_is)) f k in
          omega (arith, ap (λ (b : Label). b.cost) C.took, cost-root, offered-cost R root root_in C.place x C.after C.before C.offered);
      labelled_steps = λ x i f k. let C = took x (omega (arith, R.size_is)) f k in
          omega (arith, ap (λ (b : Label). b.hops) C.took, ap (λ (b : Label). b.hops) B.root_label);
      labelled_next = λ x i f k. ap (λ (b : Label). b.next) (took x (omega (arith, R.size_is)) f k).took;
    }

    pub start-tracked : (path-key : ℕ → ℕ) → path-key root ≡ key → Tracked g path-key n root labels₂ path-ids
    start-tracked path-key key_is = record {
      kept = kept-starts g path-key root st (started path-key key_is);
      waits_or_not = λ x l. waits_or_not x l (X.each x (low x l)) (same_or_not x root);
      cost_at_most = λ x l. cost_at_most x l (X.each x (low x l)) (same_or_not x root);
      next_in = λ x l h. next_in x l h (same_or_not x root);
      root_next = ap (λ (b : Label). b.next) label-root;
      first_is = λ v l k p P. first_is v p (alone v k) P;
    }
      where
        waits_or_not : (x : ℕ) → x < n → Same x ⊎ Took x → (x ≡ root) ⊎ (x ≡ root → ⊥)
            → ((label_at labels₂ x).waits ≡ no_cost) ⊎ ((label_at labels₂ x).waits ≡ (label_at labels₂ x).cost)
        waits_or_not x l s (inl e) = inl (ap (λ (z : ℕ). (label_at labels₂ z).waits) e ∙ ap (λ (b : Label). b.waits) label-root)
        waits_or_not x l (inl U) (inr f) = inl (ap (λ (b : Label). b.waits) U.same ∙ B.none_waits x (low x l))
        waits_or_not x l (inr C) (inr f) = inr (ap (λ (b : Label). b.waits) C.took ∙ sym (ap (λ (b : Label). b.cost) C.took))

        cost_at_most : (x : ℕ) → x < n → Same x ⊎ Took x → (x ≡ root) ⊎ (x ≡ root → ⊥) → (label_at labels₂ x).cost ≤ no_cost
        cost_at_most x l s (inl e) = omega (arith, ap (λ (z : ℕ). (label_at labels₂ z).cost) e, ap (λ (b : Label). b.cost) label-root)
        cost_at_most x l (inl U) (inr f) = omega (arith, ap (λ (b : Label). b.cost) U.same, B.others_unlabelled x (low x l) f)
        cost_at_most x l (inr C) (inr f) = omega (arith, ap (λ (b : Label). b.cost) C.took, way_bound C.place C.after C.before)

        next_in : (x : ℕ) → x < n → (label_at labels₂ x).cost < no_cost → (x ≡ root) ⊎ (x ≡ root → ⊥) → (label_at labels₂ x).next < n
        next_in x l h (inl e) = omega (arith, ap (λ (z : ℕ). (label_at labels₂ z).next) e, ap (λ (b : Label). b.next) label-root)
        next_in x l h (inr f) = omega (arith, ap (λ (b : Label). b.next) (took x l f (lt→ltb (label_at labels₂ x).cost no_cost h)).took)

        first_is : (v : ℕ) (p : List ℕ) → v ≡ root → Chosen g path-key v root p → (label_at labels₂ v).first ≡ first_back p
        first_is v p e P =
            ap (λ (z : ℕ). (label_at labels₂ z).first) e ∙ ap (λ (b : Label). b.first) label-root
            ∙ ap first_back (sym (chosen_self g path-key root p (subst (λ (z : ℕ). Chosen g path-key z root p) e P)))
