-- The neighbours of a settled bridge, offered the way through it one after the other: what is kept true of every label.
-- Assumes nothing.
use Rattle.std.specs.Prelude.{ℕ, ◌+◌, ◌≤◌, ◌<◌, ◌≡◌, refl, List, ◌∷◌, ◌⊎◌, Bool, true, false, cond, not, T, ltb, length, get_or}
use Rattle.std.proofs.Common.{arith, sym, ap, ◌∙◌, subst, inl, inr}
use Rattle.std.proofs.Math.Bool.{not-not}
use Rattle.graph.specs.Order.{Lower, is_lower}
use Rattle.graph.proofs.laws.OrderLaws.{test-lower, lower-test, lower_by_first, lower_by_rest}
use Rattle.lists.proofs.laws.NumberLaws.{same_or_not}
use Rattle.ect.specs.Rows.{row_of}
use Rattle.labels.specs.Labels.{Label, label_at, label_rank, offer_rank, taken, relaxed}
use Rattle.labels.proofs.laws.LabelLaws.{length_taken, label_taken, label-passed}
use Rattle.labels.specs.Relaxing.{Comparable, Relaxable, offer_at, took_at, Unchanged, Changed, Relaxed}

-- An offer is compared with the label `b`, of which cost, hops and next hop were read: by the costs, by the hops, by the rows of the
-- two next hops.
module _ (path-ids : List ℕ) (via cost hops : ℕ) (b : Label) {old-cost : ℕ} (read-cost : old-cost ≡ b.cost) where
  pub lower_by_cost : {answer : Bool} → answer ≡ ltb cost old-cost → (cost ≡ old-cost → ⊥) → answer ≡ is_lower (offer_rank path-ids via cost hops) (label_rank path-ids b)
  lower_by_cost e d =
      e
      ∙ ap (ltb cost) read-cost
      ∙ lower_by_first cost b.cost (hops ∷ row_of path-ids via hops) (b.hops ∷ row_of path-ids b.next b.hops) (λ i. d (i ∙ sym read-cost))

  module _ {old-hops : ℕ} (read-hops : old-hops ≡ b.hops) (same : cost ≡ old-cost) where
    then_on_lem : is_lower (hops ∷ row_of path-ids via hops) (b.hops ∷ row_of path-ids b.next b.hops) ≡ is_lower (offer_rank path-ids via cost hops) (label_rank path-ids b)
    then_on_lem = lower_by_rest cost b.cost (hops ∷ row_of path-ids via hops) (b.hops ∷ row_of path-ids b.next b.hops) (same ∙ read-cost)

    pub lower_by_hops : {answer : Bool} → answer ≡ ltb hops old-hops → (hops ≡ old-hops → ⊥) → answer ≡ is_lower (offer_rank path-ids via cost hops) (label_rank path-ids b)
    lower_by_hops e d =
        e
        ∙ ap (ltb hops) read-hops
        ∙ lower_by_first hops b.hops (row_of path-ids via hops) (row_of path-ids b.next b.hops) (λ i. d (i ∙ sym read-hops))
        ∙ then_on_lem

    pub lower_by_rows : {answer : Bool} {next count : ℕ} → next ≡ b.next → count ≡ hops → hops ≡ old-hops
        → answer ≡ is_lower (row_of path-ids via count) (row_of path-ids next count) → answer ≡ is_lower (offer_rank path-ids via cost hops) (label_rank path-ids b)
    lower_by_rows {answer} {next} {count} read_next counted alike e =
        e
        ∙ ap (λ (k : ℕ). is_lower (row_of path-ids via k) (row_of path-ids next k)) counted
        ∙ ap (λ (x : ℕ). is_lower (row_of path-ids via hops) (row_of path-ids x hops)) read_next
        ∙ ap (λ (k : ℕ). is_lower (row_of path-ids via hops) (row_of path-ids b.next k)) (alike ∙ read-hops)
        ∙ lower_by_rest hops b.hops (row_of path-ids via hops) (row_of path-ids b.next b.hops) (alike ∙ read-hops)
        ∙ then_on_lem

-- The labels after an offer, by the answer of the comparison.
module _ (labels path-ids : List ℕ) (via v cost hops : ℕ) (b : Bool) (e : b ≡ is_lower (offer_rank path-ids via cost hops) (label_rank path-ids (label_at labels v))) where
  pub offer-refused : not b ≡ true → labels ≡ relaxed labels path-ids via v cost hops
  offer-refused f = ap (λ (z : Bool). cond z (taken labels via v cost hops) labels) (sym (ap not f) ∙ not-not b ∙ e)

  pub offer-taken : not b ≡ false → taken labels via v cost hops ≡ relaxed labels path-ids via v cost hops
  offer-taken f = ap (λ (z : Bool). cond z (taken labels via v cost hops) labels) (sym (ap not f) ∙ not-not b ∙ e)

module _ (starts neighbours costs path-ids labels : List ℕ) (via : ℕ) where
  abbrev from : ℕ
  from = get_or starts via 0

  abbrev end : ℕ
  end = get_or starts (via + 1) 0

  -- The neighbours up to the place `i` were offered the way.
  pub record Offering (labels' : List ℕ) (i : ℕ) : Type 0 where
    pub after : from ≤ i
    pub within : i ≤ end
    pub same_length : length labels' ≡ length labels
    pub each : (x : ℕ) → x < 64
        → Unchanged neighbours costs path-ids via from i labels labels' x ⊎ Changed neighbours costs path-ids via from i labels labels' x

  module _ (R : Relaxable starts neighbours costs path-ids labels via) where
    pub offering_starts : Offering labels from
    offering_starts = record {
      after = omega arith;
      within = R.in_order;
      same_length = refl;
      each = λ x l. inl (record { same = refl; not_lower = λ i h k. absurd (omega arith) });
    }

    module _ {labels' : List ℕ} {i : ℕ} (O : Offering labels' i) (h : i < end) where
      abbrev v : ℕ
      v = get_or neighbours i 0

      abbrev way : ℕ
      way = (label_at labels via).cost + get_or costs i 0

      -- The next neighbour can be compared.
      comparable : Comparable labels' path-ids via v way ((label_at labels via).hops + 1)
      comparable = record {
        via_in = R.via_in;
        v_in = R.neighbour_in i O.after h;
        has_labels = omega (arith, O.same_length, R.has_labels);
        has_path_ids = R.has_path_ids;
        hops_in = omega (arith, R.hops_in);
        next_in = λ e. next_in e (O.each v (R.neighbour_in i O.after h));
      }
        where
          next_in : way ≡ (label_at labels' v).cost
              → Unchanged neighbours costs path-ids via from i labels labels' v ⊎ Changed neighbours costs path-ids via from i labels labels' v
              → (label_at labels' v).next < 64
          next_in e (inl U) = omega (
            arith,
            ap (λ (b : Label). b.next) U.same,
            R.next_in i O.after h (omega (arith, R.cost_in i O.after h, ap (λ (b : Label). b.cost) U.same)),
          )
          next_in e (inr C) = omega (arith, ap (λ (b : Label). b.next) C.took, R.via_in)

      earlier : {k : ℕ} → (x : ℕ) → (x ≡ v → ⊥) → from ≤ k → k < i + 1 → get_or neighbours k 0 ≡ x → k < i
      earlier {k} x f l m e = go (same_or_not k i)
        where
          go : (k ≡ i) ⊎ (k ≡ i → ⊥) → k < i
          go (inl d) = absurd (f (sym e ∙ ap (λ (m : ℕ). get_or neighbours m 0) d))
          go (inr d) = omega arith

      later : (labels'' : List ℕ) (x : ℕ) → label_at labels'' x ≡ label_at labels' x → Changed neighbours costs path-ids via from i labels labels' x
          → Changed neighbours costs path-ids via from (i + 1) labels labels'' x
      later labels'' x e C = record {
        place = C.place;
        after = C.after;
        before = omega (arith, C.before);
        offered = C.offered;
        took = e ∙ C.took;
        lower_now = C.lower_now;
      }

      -- A bridge that is not this neighbour.
      others : (labels'' : List ℕ) (x : ℕ) → (x ≡ v → ⊥) → label_at labels'' x ≡ label_at labels' x
          → Unchanged neighbours costs path-ids via from i labels labels' x ⊎ Changed neighbours costs path-ids via from i labels labels' x
          → Unchanged neighbours costs path-ids via from (i + 1) labels labels'' x ⊎ Changed neighbours costs path-ids via from (i + 1) labels labels'' x
      others labels'' x f e (inl U) =
          inl (record { same = e ∙ U.same; not_lower = λ k l m d. U.not_lower k l (earlier x f l m d) d })
      others labels'' x f e (inr C) = inr (later labels'' x e C)

      -- This neighbour, where the offer is not lower than its label now.
      refuses : (Lower (offer_at costs path-ids labels via i) (label_rank path-ids (label_at labels' v)) → ⊥)
          → Unchanged neighbours costs path-ids via from i labels labels' v ⊎ Changed neighbours costs path-ids via from i labels labels' v
          → Unchanged neighbours costs path-ids via from (i + 1) labels labels' v ⊎ Changed neighbours costs path-ids via from (i + 1) labels labels' v
      refuses f (inl U) = inl (record { same = U.same; not_lower = λ k l m d. not_lower k l m d (same_or_not k i) })
        where
          not_lower : (k : ℕ) → from ≤ k → k < i + 1 → get_or neighbours k 0 ≡ v → (k ≡ i) ⊎ (k ≡ i → ⊥)
              → Lower (offer_at costs path-ids labels via k) (label_rank path-ids (label_at labels v)) → ⊥
          not_lower k l m d (inl e) q =
              f (subst (λ (b : Label). Lower (offer_at costs path-ids labels via i) (label_rank path-ids b)) (sym U.same)
              (subst (λ (z : ℕ). Lower (offer_at costs path-ids labels via z) (label_rank path-ids (label_at labels v))) e q))
          not_lower k l m d (inr e) q = U.not_lower k l (omega arith) d q
      refuses f (inr C) = inr (later labels' v refl C)

      -- This neighbour, where it is.
      takes : (labels'' : List ℕ) → label_at labels'' v ≡ took_at costs labels via (label_at labels' v) i
          → Lower (offer_at costs path-ids labels via i) (label_rank path-ids (label_at labels' v))
          → Unchanged neighbours costs path-ids via from i labels labels' v ⊎ Changed neighbours costs path-ids via from i labels labels' v
          → Unchanged neighbours costs path-ids via from (i + 1) labels labels'' v ⊎ Changed neighbours costs path-ids via from (i + 1) labels labels'' v
      takes labels'' e q (inl U) = inr (record {
        place = i;
        after = O.after;
        before = omega arith;
        offered = refl;
        took = e ∙ ap (λ (b : Label). took_at costs labels via b i) U.same;
        lower_now = subst (λ (b : Label). Lower (offer_at costs path-ids labels via i) (label_rank path-ids b)) U.same q;
      })
      takes labels'' e q (inr C) = inr (record {
        place = C.place;
        after = C.after;
        before = omega (arith, C.before);
        offered = C.offered;
        took = e ∙ ap (λ (b : Label). took_at costs labels via b i) C.took
            ∙ ap (λ (c : ℕ). record {
              waits = (label_at labels via).cost + c;
              cost = (label_at labels via).cost + c;
              hops = (label_at labels via).hops + 1;
              next = via;
              first = (label_at labels v).first;
            })
            (R.one_cost i C.place O.after h C.after (omega (arith, C.before)) (sym C.offered));
        lower_now = C.lower_now;
      })

      goes_on : (labels'' : List ℕ) → labels'' ≡ relaxed labels' path-ids via v way ((label_at labels via).hops + 1) → Offering labels'' (i + 1)
      goes_on labels'' e = go (is_lower (offer_at costs path-ids labels via i) (label_rank path-ids (label_at labels' v)))
          (test-lower (offer_at costs path-ids labels via i) (label_rank path-ids (label_at labels' v)))
          (lower-test (offer_at costs path-ids labels via i) (label_rank path-ids (label_at labels' v))) e
        where
          hops : ℕ
          hops = (label_at labels via).hops + 1

          v_in : v < 64
          v_in = R.neighbour_in i O.after h

          go : (b : Bool) → (T b → Lower (offer_at costs path-ids labels via i) (label_rank path-ids (label_at labels' v)))
              → (Lower (offer_at costs path-ids labels via i) (label_rank path-ids (label_at labels' v)) → T b)
              → labels'' ≡ cond b (taken labels' via v way ((label_at labels via).hops + 1)) labels' → Offering labels'' (i + 1)
          go true f g e = record {
            after = omega (arith, O.after);
            within = omega arith;
            same_length = ap length e ∙ length_taken labels' via v way hops ∙ O.same_length;
            each = λ x l. each x l (same_or_not x v);
          }
            where
              each : (x : ℕ) → x < 64 → (x ≡ v) ⊎ (x ≡ v → ⊥)
                  → Unchanged neighbours costs path-ids via from (i + 1) labels labels'' x ⊎ Changed neighbours costs path-ids via from (i + 1) labels labels'' x
              each x l (inl d) =
                  subst (λ (z : ℕ). Unchanged neighbours costs path-ids via from (i + 1) labels labels'' z ⊎ Changed neighbours costs path-ids via from (i + 1) labels labels'' z) (sym d)
                  (takes labels'' (ap (λ (t : List ℕ). label_at t v) e ∙ label_taken labels' via v way hops v_in (omega (arith, O.same_length, R.has_labels))) (f tt) (O.each v v_in))
              each x l (inr d) = others labels'' x d (ap (λ (t : List ℕ). label_at t x) e ∙ label-passed labels' via v way hops x l v_in d) (O.each x l)
          go false f g e = record {
            after = omega (arith, O.after);
            within = omega arith;
            same_length = ap length e ∙ O.same_length;
            each = λ x l. subst (λ (t : List ℕ). Unchanged neighbours costs path-ids via from (i + 1) labels t x ⊎ Changed neighbours costs path-ids via from (i + 1) labels t x) (sym e)
                (each x l (same_or_not x v));
          }
            where
              each : (x : ℕ) → x < 64 → (x ≡ v) ⊎ (x ≡ v → ⊥)
                  → Unchanged neighbours costs path-ids via from (i + 1) labels labels' x ⊎ Changed neighbours costs path-ids via from (i + 1) labels labels' x
              each x l (inl d) =
                  subst (λ (z : ℕ). Unchanged neighbours costs path-ids via from (i + 1) labels labels' z ⊎ Changed neighbours costs path-ids via from (i + 1) labels labels' z) (sym d)
                  (refuses g (O.each v v_in))
              each x l (inr d) = others labels' x d refl (O.each x l)

      -- With cost and hops read of the bridge `via`, and the sums made of them.
      module _ {via_cost via_hops cost hops : ℕ} (read-cost : via_cost ≡ (label_at labels via).cost) (read-hops : via_hops ≡ (label_at labels via).hops)
          (added : cost ≡ via_cost + get_or costs i 0) (counted : hops ≡ via_hops + 1) where
        cost_is : cost ≡ way
        cost_is = omega arith

        hops_are : hops ≡ (label_at labels via).hops + 1
        hops_are = omega arith

        pub offering_comparable : Comparable labels' path-ids via (get_or neighbours i 0) cost hops
        offering_comparable = rw (cost_is, hops_are) comparable

        pub offering_goes_on : {labels'' : List ℕ} → labels'' ≡ relaxed labels' path-ids via (get_or neighbours i 0) cost hops → Offering labels'' (i + 1)
        offering_goes_on {labels''} d = goes_on labels'' (d ∙ ap (λ (k : ℕ). relaxed labels' path-ids via v k hops) cost_is ∙ ap (relaxed labels' path-ids via v way) hops_are)

    pub offering_ends : {labels' : List ℕ} {i : ℕ} → Offering labels' i → end ≤ i → Relaxed starts neighbours costs path-ids via labels labels'
    offering_ends {labels'} {i} O h = record {
      same_length = O.same_length;
      each = λ x l. subst (λ (z : ℕ). Unchanged neighbours costs path-ids via from z labels labels' x ⊎ Changed neighbours costs path-ids via from z labels labels' x)
          (let e : i ≡ end = omega (arith, O.within) in e) (O.each x l);
    }
