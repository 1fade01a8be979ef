-- The order in which bridges are settled: the root first, each other bridge after its next hop. And the order left in the labels.
-- Assumes nothing.
use Rattle.std.specs.Prelude.{ℕ, ◌+◌, ◌≤◌, ◌<◌, ◌≡◌, refl, List, ◌⊎◌, Bool, true, false, cond, T, length, get_or, set}
use Rattle.std.proofs.Common.{arith, sym, ap, ◌∙◌, subst, inl, inr, length-set, get_or-set_same, get_or-set_other}
use Rattle.lists.specs.Lists.{rising}
use Rattle.lists.specs.Members.{sum_over}
use Rattle.lists.proofs.laws.NumberLaws.{le_or_gt, same_or_not}
use Rattle.lists.proofs.laws.SelectedLaws.{in-rising, length-rising}
use Rattle.lists.proofs.laws.SumLaws.{sum_falls, sum_bounded}
use Rattle.graph.specs.Graph.{Graph}
use Rattle.labels.specs.Labels.{no_cost, label_at, state_of, settled_labels, settled_path_ids}
use Rattle.labels.proofs.laws.LabelLaws.{settled_says, says-settled}
use Rattle.tree.specs.Trees.{Ordered}
use Rattle.tree.specs.Tracked.{open_bridges, InOrder, Noted}
use Rattle.tree.proofs.laws.TreeLaws.{PassedOn}
use Rattle.tree.proofs.laws.StepLaws.{Step, settles, next-steps, only, still, done, steps_kept, next_kept}

-- The root alone is settled.
module _ (n root : ℕ) (labels : List ℕ) (root_in : root < n) (root-settled : T ((state_of n labels labels).settled root))
    (alone : (v : ℕ) → T ((state_of n labels labels).settled v) → v ≡ root) where
  one-settled : 1 + open_bridges n labels ≤ n
  one-settled = omega (arith, falls, sum_bounded (λ (u : ℕ). 1) 1 (rising 0 n) (λ x k. omega arith), length-rising 0 n)
    where
      not_more : (b : Bool) → cond b 0 1 ≤ 1
      not_more true = omega arith
      not_more false = omega arith

      less : (b : Bool) → T b → cond b 0 1 < 1
      less true t = omega arith
      less false t = absurd t

      falls : open_bridges n labels < sum_over (λ u. 1) (rising 0 n)
      falls = sum_falls (λ u. cond ((state_of n labels labels).settled u) 0 1) (λ u. 1) (rising 0 n) (λ x. not_more ((state_of n labels labels).settled x))
          root (in-rising 0 n root (omega arith) (omega arith)) (less ((state_of n labels labels).settled root) root-settled)

  pub order-starts : (order : List ℕ) → length order ≡ 64 → InOrder n root labels (set order 0 root) 1
  order-starts order l = record {
    size = length-set order 0 root ∙ l;
    least = omega arith;
    room = one-settled;
    root_first = first;
    settled_at = λ k h. subst (λ (d : ℕ). T ((state_of n labels labels).settled d)) (sym (at k h)) root-settled;
    has_hops = λ k h m. absurd (omega arith);
    after_next = λ k h m. absurd (omega arith);
    listed = λ u s. (0, omega arith, first ∙ sym (alone u s));
  }
    where
      first : get_or (set order 0 root) 0 0 ≡ root
      first = get_or-set_same order 0 root 0 (omega arith)

      at : (k : ℕ) → k < 1 → get_or (set order 0 root) k 0 ≡ root
      at k h = let e : k ≡ 0 = omega arith in ap (λ (i : ℕ). get_or (set order 0 root) i 0) e ∙ first

-- The bridge `u` is settled next.
module _ {g : Graph} {key : ℕ → ℕ} {n root : ℕ} {starts neighbours costs keys labels path-ids : List ℕ} {u : ℕ}
    (Z : Step g key n root starts neighbours costs keys labels path-ids u) (labels₂ : List ℕ)
    (X : PassedOn starts neighbours costs (settled_path_ids labels path-ids u (get_or keys u 0)) u (settled_labels labels root u) labels₂)
    (fewer : open_bridges n labels₂ < open_bridges n labels) (order : List ℕ) (count : ℕ) (O : InOrder n root labels order count) where
  abbrev order₂ : List ℕ
  order₂ = set order count u

  before : (k : ℕ) → k < count → get_or order₂ k 0 ≡ get_or order k 0
  before k h = get_or-set_other order count k u 0 (omega arith)

  last : get_or order₂ count 0 ≡ u
  last = get_or-set_same order count u 0 (omega (arith, O.size, O.room, Z.represents.most))

  -- What holds of each bridge of the order so far, and of `u`, holds of each bridge of the order with `u`.
  at_each : (P : ℕ → ℕ → Type 0) → ((k : ℕ) → k < count → P k (get_or order k 0)) → P count u → (k : ℕ) → k < count + 1 → P k (get_or order₂ k 0)
  at_each P old new k h = go (le_or_gt count k)
    where
      go : (count ≤ k) ⊎ (k < count) → P k (get_or order₂ k 0)
      go (inl l) = let e : count ≡ k = omega arith in
          subst (λ (i : ℕ). P i (get_or order₂ i 0)) e (subst (λ (d : ℕ). P count d) (sym last) new)
      go (inr l) = subst (λ (d : ℕ). P k d) (sym (before k l)) (old k l)

  still-settled : (k : ℕ) → k < count → T ((state_of n labels₂ labels₂).settled (get_or order k 0))
  still-settled k h = still Z labels₂ X (get_or order k 0) (O.settled_at k h)

  pub order_goes_on : InOrder n root labels₂ order₂ (count + 1)
  order_goes_on = record {
    size = length-set order count u ∙ O.size;
    least = omega arith;
    room = omega (arith, O.room);
    root_first = before 0 (omega (arith, O.least)) ∙ O.root_first;
    settled_at = at_each (λ k d. T ((state_of n labels₂ labels₂).settled d)) still-settled (done Z labels₂ X);
    has_hops = λ k p h. at_each (λ i d. 0 < i → 0 < (label_at labels₂ d).hops)
        (λ i l q. omega (arith, O.has_hops i q l, steps_kept Z labels₂ X (get_or order i 0) (still-settled i l)))
        (λ q. omega (arith, next-steps Z, steps_kept Z labels₂ X u (done Z labels₂ X))) k h p;
    after_next = λ k p h. at_each (λ i d. 0 < i → (j : ℕ) × (j < i) × (get_or order₂ j 0 ≡ (label_at labels₂ d).next)) old-place (λ q. new-place) k h p;
    listed = λ v s. go v (only Z labels₂ X v s);
  }
    where
      old-place : (i : ℕ) → i < count → 0 < i → (j : ℕ) × (j < i) × (get_or order₂ j 0 ≡ (label_at labels₂ (get_or order i 0)).next)
      old-place i l q =
          let (j, m, e) = O.after_next i q l in
          (j, m, before j (omega arith) ∙ e ∙ sym (next_kept Z labels₂ X (get_or order i 0) (still-settled i l)))

      new-place : (j : ℕ) × (j < count) × (get_or order₂ j 0 ≡ (label_at labels₂ u).next)
      new-place =
          let (j, m, e) = O.listed (label_at labels u).next (settles Z).1.1 in
          (j, m, before j m ∙ e ∙ sym (next_kept Z labels₂ X u (done Z labels₂ X)))

      go : (v : ℕ) → T ((state_of n labels path-ids).settled v) ⊎ (v ≡ u) → (k : ℕ) × (k < count + 1) × (get_or order₂ k 0 ≡ v)
      go v (inl s) = let (k, m, e) = O.listed v s in (k, omega arith, before k m ∙ e)
      go v (inr e) = (count, omega arith, last ∙ sym e)

-- The order is left in the labels, place by place.
pub record Noting (order : List ℕ) (count : ℕ) (labels labels' : List ℕ) (k : ℕ) : Type 0 where
  pub within : k ≤ count
  pub so_far : Noted order k labels labels'

pub noting_starts : (order : List ℕ) (count : ℕ) (labels : List ℕ) → Noting order count labels labels 0
noting_starts order count labels = record {
  within = omega arith;
  so_far = record { same_length = refl; first_places = λ k h. absurd (omega arith); other_places = λ k h. refl };
}

module _ {order : List ℕ} {count : ℕ} {labels labels' : List ℕ} {k : ℕ} (N : Noting order count labels labels' k) where
  pub noting_goes_on : k < count → count ≤ length labels → Noting order count labels (set labels' k (get_or order k 0)) (k + 1)
  noting_goes_on h l = record {
    within = omega arith;
    so_far = record {
      same_length = length-set labels' k (get_or order k 0) ∙ N.so_far.same_length;
      first_places = λ i m. go i m (same_or_not i k);
      other_places = λ i m. get_or-set_other labels' k i (get_or order k 0) 0 (omega arith) ∙ N.so_far.other_places i (omega arith);
    };
  }
    where
      go : (i : ℕ) → i < k + 1 → (i ≡ k) ⊎ (i ≡ k → ⊥) → get_or (set labels' k (get_or order k 0)) i 0 ≡ get_or order i 0
      go i m (inl e) = ap (λ (j : ℕ). get_or (set labels' k (get_or order k 0)) j 0) e
          ∙ get_or-set_same labels' k (get_or order k 0) 0 (omega (arith, N.so_far.same_length)) ∙ ap (λ (j : ℕ). get_or order j 0) (sym e)
      go i m (inr f) = get_or-set_other labels' k i (get_or order k 0) 0 f ∙ N.so_far.first_places i (omega arith)

  pub noting_ends : count ≤ k → Noted order count labels labels'
  noting_ends h = let e : k ≡ count = omega (arith, N.within) in subst (λ (i : ℕ). Noted order i labels labels') e N.so_far

-- The parts of the labels after the first are as they were.
pub other-parts : {n root : ℕ} {labels order labels' : List ℕ} {count : ℕ} → n ≤ 64 → InOrder n root labels order count → Noted order count labels labels'
    → (part x : ℕ) → 64 ≤ part → get_or labels' (part + x) 0 ≡ get_or labels (part + x) 0
other-parts most O N part x h = N.other_places (part + x) (omega (arith, O.room))

-- No bridge waits, and the order is left in the labels.
module _ {n root : ℕ} {labels order labels' : List ℕ} {count : ℕ} (most : n ≤ 64) (O : InOrder n root labels order count)
    (none_waits : (x : ℕ) → x < n → (label_at labels x).waits ≡ no_cost) (cost_at_most : (x : ℕ) → x < n → (label_at labels x).cost ≤ no_cost)
    (root_hops : (label_at labels root).hops ≡ 0) (N : Noted order count labels labels') where
  kept : (part x : ℕ) → 64 ≤ part → get_or labels' (part + x) 0 ≡ get_or labels (part + x) 0
  kept = other-parts most O N

  placed : (P : ℕ → Type 0) (k : ℕ) → k < count → P (get_or order k 0) → P (get_or labels' k 0)
  placed P k h p = subst P (sym (N.first_places k h)) p

  pub order-left : Ordered n root labels'
  order-left = record {
    count = count;
    least = O.least;
    most = omega (arith, O.room);
    root_first = N.first_places 0 (omega (arith, O.least)) ∙ O.root_first;
    root_hops = kept 128 root (omega arith) ∙ root_hops;
    inside = λ k h. placed (λ d. d < n) k h (says k h).0;
    has_path = λ k h. placed (λ d. (label_at labels' d).cost ≡ no_cost → ⊥) k h (λ e. omega (arith, kept 64 (get_or order k 0) (omega arith), (says k h).1));
    has_hops = λ k p h. placed (λ d. 0 < (label_at labels' d).hops) k h (omega (arith, kept 128 (get_or order k 0) (omega arith), O.has_hops k p h));
    after_next = λ k p h. placed (λ d. (j : ℕ) × (j < k) × (get_or labels' j 0 ≡ (label_at labels' d).next)) k h (next_place k p h);
    listed = listed;
    then_none = λ h. N.other_places count (omega arith) ∙ none_waits count h;
  }
    where
      says : (k : ℕ) → k < count → (get_or order k 0 < n) × ((label_at labels (get_or order k 0)).cost < no_cost) × (no_cost ≤ (label_at labels (get_or order k 0)).waits)
      says k h = settled_says n labels labels (get_or order k 0) (O.settled_at k h)

      next_place : (k : ℕ) → 0 < k → k < count → (j : ℕ) × (j < k) × (get_or labels' j 0 ≡ (label_at labels' (get_or order k 0)).next)
      next_place k p h =
          let (j, m, e) = O.after_next k p h in
          (j, m, N.first_places j (omega arith) ∙ e ∙ sym (kept 192 (get_or order k 0) (omega arith)))

      listed : (u : ℕ) → u < n → ((label_at labels' u).cost ≡ no_cost → ⊥) → (k : ℕ) × (k < count) × (get_or labels' k 0 ≡ u)
      listed u l f =
          let same : (label_at labels' u).cost ≡ (label_at labels u).cost = kept 64 u (omega arith) in
          let below : (label_at labels u).cost < no_cost = omega (arith, cost_at_most u l) in
          let (k, h, e) = O.listed u (says-settled n labels labels u l below (omega (arith, none_waits u l))) in
          (k, h, N.first_places k h ∙ e)
