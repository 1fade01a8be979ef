-- The search as a whole, for every graph and key that the lists stand for: how it starts, goes on, comes to an end.
-- Assumes nothing.
use Rattle.std.specs.Prelude.{ℕ, ◌+◌, ◌≤◌, ◌<◌, ◌≡◌, refl, List, ◌⊎◌, Bool, true, false, cond, T, eqb, length, get_or, set}
use Rattle.std.proofs.Common.{arith, sym, ap, ◌∙◌, subst, inl, inr, eqb-true}
use Rattle.std.proofs.lemmas.Bool.{eqb-false}
use Rattle.lists.specs.Lists.{rising}
use Rattle.lists.proofs.laws.NumberLaws.{le_or_gt}
use Rattle.lists.proofs.laws.SelectedLaws.{in-rising}
use Rattle.lists.proofs.laws.SumLaws.{sum_falls}
use Rattle.graph.specs.Graph.{Graph, hops}
use Rattle.graph.specs.Chosen.{chosen}
use Rattle.graph.proofs.laws.ChosenPaths.{chosen_self}
use Rattle.labels.specs.Labels.{no_cost, Label, label_at, state_of, settled_labels, settled_path_ids}
use Rattle.labels.proofs.laws.LabelLaws.{length-settled, label_unsettled}
use Rattle.labels.specs.Nearest.{BoundsOf, Nearest}
use Rattle.labels.proofs.laws.NearestLaws.{bounds_settled}
use Rattle.labels.specs.Relaxing.{Relaxable, Relaxed}
use Rattle.tree.specs.Settling.{Settleable, Begun}
use Rattle.tree.specs.Trees.{mark_at, Represents, Keyed, Represented, Ordered, TreeOf, IsTree}
use Rattle.tree.specs.Tracked.{Tracked, Underway, open_bridges, InOrder, Advanceable, Advanced, Finished, Noted}
use Rattle.tree.proofs.laws.TreeLaws.{PassedOn, beyond-same, beyond-kept, search_paths, says-alike}
use Rattle.tree.proofs.laws.StartLaws.{start_relaxable, alone, start-tracked}
use Rattle.tree.proofs.laws.OrderLaws.{order-starts, order_goes_on, other-parts, order-left}
use Rattle.tree.proofs.laws.StepLaws.{Step, not-settled, step_settleable, step_relaxable, still, done, step_tracked, length-path-ids}

module _ (n : ℕ) (starts neighbours costs keys : List ℕ) (root : ℕ) where
  -- The start.
  module _ (S : Represented n starts neighbours costs keys) (labels₀ path_ids₀ labels path-ids : List ℕ) (root_in : root < n)
      (has_labels : 320 ≤ length labels₀) (has_path_ids : 4096 ≤ length path_ids₀) (B : Begun root (get_or keys root 0) labels₀ path_ids₀ labels path-ids) where
    pub search_relaxable : Relaxable starts neighbours costs path-ids labels root
    search_relaxable = start_relaxable S.graph n root starts neighbours costs S.represents (get_or keys root 0) labels₀ path_ids₀ labels path-ids root_in has_labels has_path_ids B

    pub search_starts : (labels₂ : List ℕ) → Relaxed starts neighbours costs path-ids root labels labels₂ → Underway n starts neighbours costs keys root labels₂ path-ids
    search_starts labels₂ X = record {
      root_in = root_in;
      has_labels = omega (arith, X.same_length, B.same_labels);
      has_path_ids = omega (arith, B.same_path_ids);
      represented = S;
      none_beyond = λ x l k. ap (λ (b : Label). b.waits) (beyond-same S.represents root root_in X x l k) ∙ B.none_waits x k;
      tracked = λ g key R K. start-tracked g n root starts neighbours costs R (get_or keys root 0) labels₀ path_ids₀ labels path-ids root_in has_labels has_path_ids B labels₂ X key
          (sym (K.key_is root (omega (arith, R.size_is))));
    }

    pub search_order : (labels₂ : List ℕ) → Relaxed starts neighbours costs path-ids root labels labels₂ → (order : List ℕ) → length order ≡ 64
        → InOrder n root labels₂ (set order 0 root) 1
    search_order labels₂ X = order-starts n root labels₂ root_in ((search_starts labels₂ X).tracked S.graph S.key S.represents S.keyed).kept.root
        (λ v k. alone S.graph n root starts neighbours costs S.represents (get_or keys root 0) labels₀ path_ids₀ labels path-ids root_in has_labels has_path_ids B labels₂ X v k)

  -- A step.
  module _ {labels path-ids : List ℕ} (U : Underway n starts neighbours costs keys root labels path-ids) {u : ℕ} (N : Nearest labels u)
      (waits : (label_at labels u).waits < no_cost) where
    inside : u < n
    inside = go (le_or_gt n u)
      where
        go : (n ≤ u) ⊎ (u < n) → u < n
        go (inl l) = absurd (omega (arith, U.none_beyond u l N.inside))
        go (inr l) = l

    step : (g : Graph) (key : ℕ → ℕ) → Represents g n starts neighbours costs → Keyed g key keys → Step g key n root starts neighbours costs keys labels path-ids u
    step g key R K = record {
      represents = R;
      keyed = K;
      tracked = U.tracked g key R K;
      has_labels = U.has_labels;
      has_path_ids = U.has_path_ids;
      u_in = inside;
      waits = waits;
      near = λ x l. N.none_nearer x (omega (arith, R.most));
    }

    -- For the graph and key that there are.
    one-step : Step U.represented.graph U.represented.key n root starts neighbours costs keys labels path-ids u
    one-step = step U.represented.graph U.represented.key U.represented.represents U.represented.keyed

    module _ (labels₂ : List ℕ) (X : PassedOn starts neighbours costs (settled_path_ids labels path-ids u (get_or keys u 0)) u (settled_labels labels root u) labels₂) where
      underway : Underway n starts neighbours costs keys root labels₂ (settled_path_ids labels path-ids u (get_or keys u 0))
      underway = record {
        root_in = U.root_in;
        has_labels = omega (arith, X.same_length, length-settled labels root u, U.has_labels);
        has_path_ids = omega (arith, length-path-ids one-step, U.has_path_ids);
        represented = U.represented;
        none_beyond = λ x l k. ap (λ (b : Label). b.waits) (beyond-kept U.represented.represents u inside X x l k
            ∙ label_unsettled labels root u x k N.inside (omega (arith, inside))) ∙ U.none_beyond x l k;
        tracked = λ g key R K. step_tracked (step g key R K) labels₂ X;
      }

      fewer : open_bridges n labels₂ < open_bridges n labels
      fewer = sum_falls (λ x. cond ((state_of n labels₂ labels₂).settled x) 0 1) (λ x. cond ((state_of n labels labels).settled x) 0 1) (rising 0 n)
          (λ x. not_more ((state_of n labels labels).settled x) ((state_of n labels₂ labels₂).settled x) (stays x))
          u (in-rising 0 n u (omega arith) (omega (arith, inside)))
          (less ((state_of n labels labels).settled u) ((state_of n labels₂ labels₂).settled u) open_before settled_now)
        where
          stays : (x : ℕ) → T ((state_of n labels labels).settled x) → T ((state_of n labels₂ labels₂).settled x)
          stays x k = still one-step labels₂ X x k

          open_before : T ((state_of n labels labels).settled u) → ⊥
          open_before k = not-settled one-step k

          settled_now : T ((state_of n labels₂ labels₂).settled u)
          settled_now = done one-step labels₂ X

          not_more : (b b' : Bool) → (T b → T b') → cond b' 0 1 ≤ cond b 0 1
          not_more true true f = omega arith
          not_more true false f = absurd (f tt)
          not_more false true f = omega arith
          not_more false false f = omega arith

          less : (b b' : Bool) → (T b → ⊥) → T b' → cond b' 0 1 < cond b 0 1
          less true b' f t = absurd (f tt)
          less false true f t = omega arith
          less false false f t = absurd t

  -- The nearest bridge does not wait: none does.
  pub search_finishes : {labels path-ids order : List ℕ} {count u : ℕ} → Underway n starts neighbours costs keys root labels path-ids → Nearest labels u
      → InOrder n root labels order count → no_cost ≤ (label_at labels u).waits → Finished n starts neighbours costs keys root labels path-ids order count
  search_finishes {labels} {path-ids} {order} {count} {u} U N O h = record { underway = U; none_waits = λ x l. omega (arith, N.none_nearer x l); in_order = O }

  -- The end: the labels of a finished search, with the order left in them.
  module _ {labels path-ids order labels' : List ℕ} {count : ℕ} (F : Finished n starts neighbours costs keys root labels path-ids order count)
      (N : Noted order count labels labels') where
    module _ (g : Graph) (key : ℕ → ℕ) (R : Represents g n starts neighbours costs) (K : Keyed g key keys) where
      M : Tracked g key n root labels path-ids
      M = F.underway.tracked g key R K

      none_waits : (x : ℕ) → x < n → (label_at labels x).waits ≡ no_cost
      none_waits x l = go (M.waits_or_not x l)
        where
          go : ((label_at labels x).waits ≡ no_cost) ⊎ ((label_at labels x).waits ≡ (label_at labels x).cost) → (label_at labels x).waits ≡ no_cost
          go (inl e) = e
          go (inr e) = omega (arith, F.none_waits x (omega (arith, R.most)), M.cost_at_most x l)

      root_hops : (label_at labels root).hops ≡ 0
      root_hops =
          let (p, P, S) = M.kept.found root M.kept.inside M.kept.root in
          S.steps_is ∙ ap hops (chosen_self g key root p P)

      tree_of : TreeOf g key root labels'
      tree_of = record {
        each = λ u i. says-alike g (chosen g key u root) (label_at labels u) (label_at labels' u)
            (left 64 u (omega arith)) (left 128 u (omega arith)) (left 192 u (omega arith)) (left 256 u (omega arith))
            (search_paths g key n root starts neighbours costs keys R K labels path-ids M (λ x l. omega (arith, none_waits x l)) u i);
        ordered = subst (λ (k : ℕ). Ordered k root labels') (sym R.size_is) (order-left R.most F.in_order none_waits M.cost_at_most root_hops N);
      }
        where
          left : (part x : ℕ) → 64 ≤ part → get_or labels' (part + x) 0 ≡ get_or labels (part + x) 0
          left = other-parts R.most F.in_order N

    pub search_ends : IsTree n starts neighbours costs keys root labels'
    search_ends = record { of_graph = tree_of }

-- The bridge that is to be settled next is settled, and passes the way on.
module _ {starts neighbours costs keys : List ℕ} {root : ℕ} {labels path-ids : List ℕ} {u : ℕ} (A : Advanceable starts neighbours costs keys root labels path-ids u) where
  next-step : Step A.underway.represented.graph A.underway.represented.key A.bridges root starts neighbours costs keys labels path-ids u
  next-step = one-step A.bridges starts neighbours costs keys root A.underway A.nearest A.waits

  pub search_settleable : Settleable labels path-ids keys u
  search_settleable = step_settleable next-step

  pub search_marked : 65 + u < length starts
  search_marked = omega (arith, next-step.u_in, next-step.represents.has_starts)

  module _ {labels₁ path_ids₁ : List ℕ} (e : labels₁ ≡ settled_labels labels root u) (f : path_ids₁ ≡ settled_path_ids labels path-ids u (get_or keys u 0)) where
    pub search_relaxable_on : {bounds : List ℕ} → BoundsOf labels bounds → Relaxable starts neighbours costs path_ids₁ labels₁ u × BoundsOf labels₁ bounds
    search_relaxable_on B =
        (rw (e, f) (step_relaxable next-step), rw e (bounds_settled B root u A.nearest.inside A.underway.has_labels (omega (arith, A.waits))))

    search_advances : {labels₂ : List ℕ} → PassedOn starts neighbours costs path_ids₁ u labels₁ labels₂
        → Advanced starts neighbours costs keys root u labels path-ids labels₂ path_ids₁
    search_advances {labels₂} X = record {
      goes_on = λ n U. rw f (underway n starts neighbours costs keys root U A.nearest A.waits labels₂ passed_on);
      fewer_open = λ n U. fewer n starts neighbours costs keys root U A.nearest A.waits labels₂ passed_on;
      next_in_order = λ n U. order_goes_on (one-step n starts neighbours costs keys root U A.nearest A.waits) labels₂ passed_on
          (fewer n starts neighbours costs keys root U A.nearest A.waits labels₂ passed_on);
    }
      where
        passed_on : PassedOn starts neighbours costs (settled_path_ids labels path-ids u (get_or keys u 0)) u (settled_labels labels root u) labels₂
        passed_on = rw (e, f) at X

    -- By the test of its mark it offers its neighbours the way through it, or keeps it back.
    module _ {test : Bool} (g : test ≡ eqb (mark_at starts u) 0) where
      pub search_offers : {labels₂ : List ℕ} → test ≡ true → Relaxed starts neighbours costs path_ids₁ u labels₁ labels₂
          → Advanced starts neighbours costs keys root u labels path-ids labels₂ path_ids₁
      search_offers h X = search_advances (record {
        same_length = X.same_length;
        offered = λ m. X;
        kept_back = λ n. absurd (n (eqb-true (mark_at starts u) 0 (sym g ∙ h)));
      })

      pub search_keeps_back : test ≡ false → Advanced starts neighbours costs keys root u labels path-ids labels₁ path_ids₁
      search_keeps_back h = search_advances (record {
        same_length = refl;
        offered = λ m. absurd (eqb-false (mark_at starts u) 0 (sym g ∙ h) m);
        kept_back = λ n. refl;
      })
