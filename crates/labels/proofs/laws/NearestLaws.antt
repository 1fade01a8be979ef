-- The search for the nearest bridge that waits: the least cost of a group, and bounds that stay bounds.
-- Assumes nothing.
use Rattle.std.specs.Prelude.{ℕ, ◌+◌, ◌*◌, ◌-◌, ◌/◌, ◌≤◌, ◌<◌, min, ◌≡◌, refl, List, ◌⊎◌, cond, ltb, length, get_or, set, replicate}
use Rattle.std.proofs.Common.{arith, ap, ◌∙◌, inl, inr, length-set, get_or-set_same, get_or-set_other, lt-ltb, le-ltb}
use Rattle.std.proofs.lemmas.List.{length-replicate, get_or-replicate}
use Rattle.lists.specs.Lists.{rising}
use Rattle.lists.specs.Members.{sum_over}
use Rattle.lists.proofs.laws.NumberLaws.{le_or_gt, same_or_not}
use Rattle.lists.proofs.laws.SelectedLaws.{in-rising}
use Rattle.lists.proofs.laws.SumLaws.{sum_falls}
use Rattle.labels.specs.Labels.{no_cost, Label, label_at, taken, settled_labels}
use Rattle.labels.specs.Nearest.{LeastPlace, BoundsOf, lowered_bounds, Nearest}
use Rattle.labels.proofs.laws.LabelLaws.{label_taken, label-passed, label-settled, label_unsettled}

-- The first `count` numbers from `from` on are compared; a least one, `least`, stands at `place`.
pub record Comparing (numbers : List ℕ) (from count least place : ℕ) : Type 0 where
  pub within : count ≤ 8
  pub so_far : LeastPlace numbers from count place
  pub has : get_or numbers place 0 ≡ least

pub comparing_starts : (numbers : List ℕ) (from : ℕ) → Comparing numbers from 1 (get_or numbers from 0) from
comparing_starts numbers from = record {
  within = omega arith;
  so_far = record {
    after = omega arith;
    before = omega arith;
    none_less = λ x h k. let e : from ≡ x = omega arith in omega (arith, ap (λ (m : ℕ). get_or numbers m 0) e);
  };
  has = refl;
}

module _ {numbers : List ℕ} {from count least place : ℕ} (C : Comparing numbers from count least place) where
  -- With the next number compared.
  pub comparing_goes_on : {lesser place' : ℕ} → count < 8 → place' ≡ cond (ltb (get_or numbers (from + count) 0) least) (from + count) place
      → lesser ≡ min (get_or numbers (from + count) 0) least → Comparing numbers from (count + 1) lesser place'
  comparing_goes_on {lesser} {place'} h e f = go (le_or_gt least number)
    where
      number : ℕ
      number = get_or numbers (from + count) 0

      next : (x : ℕ) → from ≤ x → x < from + (count + 1) → (x ≡ from + count) ⊎ (x ≡ from + count → ⊥) → lesser ≤ get_or numbers x 0
      next x l m (inl d) = omega (arith, ap (λ (k : ℕ). get_or numbers k 0) d)
      next x l m (inr d) = omega (arith, C.has, C.so_far.none_less x l (omega arith))

      with_place : (from ≤ place') → place' < from + (count + 1) → get_or numbers place' 0 ≡ lesser → Comparing numbers from (count + 1) lesser place'
      with_place l m d = record {
        within = omega arith;
        so_far = record { after = l; before = m; none_less = λ x i j. omega (arith, next x i j (same_or_not x (from + count))) };
        has = d;
      }

      go : (least ≤ number) ⊎ (number < least) → Comparing numbers from (count + 1) lesser place'
      go (inl l) =
          let same : place' ≡ place = e ∙ simp (le-ltb number least l) in
          with_place (omega (arith, C.so_far.after)) (omega (arith, C.so_far.before)) (ap (λ (k : ℕ). get_or numbers k 0) same ∙ C.has ∙ omega arith)
      go (inr l) =
          let next_place : place' ≡ from + count = e ∙ simp (lt-ltb number least l) in
          with_place (omega arith) (omega arith) (ap (λ (k : ℕ). get_or numbers k 0) next_place ∙ omega arith)

  pub comparing_ends : 8 ≤ count → LeastPlace numbers from 8 place
  comparing_ends h = let e : count ≡ 8 = omega (arith, C.within) in rw e at C.so_far

-- How far the bounds can still rise.
abbrev pub room_above : List ℕ → ℕ
room_above bounds = sum_over (λ g. no_cost - get_or bounds g 0) (rising 0 8)

-- What a bound is after one was written.
module _ (bounds : List ℕ) (group bound : ℕ) where
  written : (g : ℕ) → group < length bounds → g ≡ group → get_or (set bounds group bound) g 0 ≡ bound
  written g h e = ap (λ (k : ℕ). get_or (set bounds group bound) k 0) e ∙ get_or-set_same bounds group bound 0 h

  unwritten : (g : ℕ) → (g ≡ group → ⊥) → get_or (set bounds group bound) g 0 ≡ get_or bounds g 0
  unwritten g f = get_or-set_other bounds group g bound 0 f

-- All bridges wait at no cost: no bound is too high.
pub bounds_start : {labels : List ℕ} → ((u : ℕ) → u < 64 → (label_at labels u).waits ≡ no_cost) → BoundsOf labels (replicate 8 no_cost)
bounds_start {labels} none = record {
  one_a_group = length-replicate {A = ℕ} 8 no_cost;
  none_below = λ u l. omega (arith, none u l, get_or-replicate {A = ℕ} 8 (u / 8) no_cost 0 (omega arith));
}

module _ {labels bounds : List ℕ} (B : BoundsOf labels bounds) where
  -- The bridge `v` took the way through the bridge `via`.
  pub bounds_lowered : (via v cost hops : ℕ) → v < 64 → 320 ≤ length labels → {bounds' : List ℕ} → bounds' ≡ lowered_bounds bounds v cost
      → BoundsOf (taken labels via v cost hops) bounds'
  bounds_lowered via v cost hops v_in has {bounds'} e = rw e (record {
    one_a_group = length-set bounds (v / 8) lowered ∙ B.one_a_group;
    none_below = λ x l. go x l (same_or_not x v);
  })
    where
      lowered : ℕ
      lowered = min (get_or bounds (v / 8) 0) cost

      not_above : (g : ℕ) → (g ≡ v / 8) ⊎ (g ≡ v / 8 → ⊥) → get_or (set bounds (v / 8) lowered) g 0 ≤ get_or bounds g 0
      not_above g (inl e) = omega (arith, written bounds (v / 8) lowered g (omega (arith, B.one_a_group)) e, ap (λ (k : ℕ). get_or bounds k 0) e)
      not_above g (inr f) = omega (arith, unwritten bounds (v / 8) lowered g f)

      go : (x : ℕ) → x < 64 → (x ≡ v) ⊎ (x ≡ v → ⊥) → get_or (set bounds (v / 8) lowered) (x / 8) 0 ≤ (label_at (taken labels via v cost hops) x).waits
      go x l (inl e) = omega (
        arith,
        written bounds (v / 8) lowered (x / 8) (omega (arith, B.one_a_group)) (ap (λ (k : ℕ). k / 8) e),
        ap (λ (k : ℕ). (label_at (taken labels via v cost hops) k).waits) e,
        ap (λ (b : Label). b.waits) (label_taken labels via v cost hops v_in has),
      )
      go x l (inr f) = omega (
        arith,
        not_above (x / 8) (same_or_not (x / 8) (v / 8)),
        B.none_below x l,
        ap (λ (b : Label). b.waits) (label-passed labels via v cost hops x l v_in f),
      )

  -- The bridge `u` was settled, and waits no more.
  pub bounds_settled : (root u : ℕ) → u < 64 → 320 ≤ length labels → (label_at labels u).waits ≤ no_cost → BoundsOf (settled_labels labels root u) bounds
  bounds_settled root u u_in has most = record { one_a_group = B.one_a_group; none_below = λ x l. go x l (same_or_not x u) }
    where
      go : (x : ℕ) → x < 64 → (x ≡ u) ⊎ (x ≡ u → ⊥) → get_or bounds (x / 8) 0 ≤ (label_at (settled_labels labels root u) x).waits
      go x l (inl e) = omega (
        arith,
        B.none_below x l,
        ap (λ (k : ℕ). (label_at labels k).waits) e,
        ap (λ (k : ℕ). (label_at (settled_labels labels root u) k).waits) e,
        ap (λ (b : Label). b.waits) (label-settled labels root u u_in has),
      )
      go x l (inr f) = omega (arith, B.none_below x l, ap (λ (b : Label). b.waits) (label_unsettled labels root u x l u_in f))

  -- The bridge `u` waits at the least cost of a group whose bound is least.
  module _ {group u : ℕ} (G : LeastPlace bounds 0 8 group) (A : LeastPlace labels (group * 8) 8 u) where
    -- It waits at the bound: no bridge waits at less.
    pub nearest-found : get_or labels u 0 ≤ get_or bounds group 0 → Nearest labels u
    nearest-found h = record {
      inside = omega (arith, G.before, A.before);
      none_nearer = λ x l. omega (arith, B.none_below x l, G.none_less (x / 8) (omega arith) (omega arith));
    }

    -- It waits at more: the bound can be raised.
    pub bounds_raised : BoundsOf labels (set bounds group (get_or labels u 0))
    bounds_raised = record {
      one_a_group = length-set bounds group (get_or labels u 0) ∙ B.one_a_group;
      none_below = λ x l. go x l (same_or_not (x / 8) group);
    }
      where
        go : (x : ℕ) → x < 64 → (x / 8 ≡ group) ⊎ (x / 8 ≡ group → ⊥) → get_or (set bounds group (get_or labels u 0)) (x / 8) 0 ≤ (label_at labels x).waits
        go x l (inl e) = omega (
          arith,
          written bounds group (get_or labels u 0) (x / 8) (omega (arith, B.one_a_group, G.before)) e,
          A.none_less x (omega arith) (omega arith),
        )
        go x l (inr f) = omega (arith, unwritten bounds group (get_or labels u 0) (x / 8) f, B.none_below x l)

    pub room_falls : get_or bounds group 0 < get_or labels u 0 → get_or labels u 0 ≤ no_cost → room_above (set bounds group (get_or labels u 0)) < room_above bounds
    room_falls h most = sum_falls (λ g. no_cost - get_or (set bounds group (get_or labels u 0)) g 0) (λ g. no_cost - get_or bounds g 0) (rising 0 8)
        (λ g. not_more g (same_or_not g group)) group (in-rising 0 8 group (omega arith) (omega (arith, G.before))) less
      where
        inside : group < length bounds
        inside = omega (arith, B.one_a_group, G.before)

        not_more : (g : ℕ) → (g ≡ group) ⊎ (g ≡ group → ⊥) → no_cost - get_or (set bounds group (get_or labels u 0)) g 0 ≤ no_cost - get_or bounds g 0
        not_more g (inl e) = omega (arith, written bounds group (get_or labels u 0) g inside e, ap (λ (k : ℕ). get_or bounds k 0) e)
        not_more g (inr f) = omega (arith, unwritten bounds group (get_or labels u 0) g f)

        less : no_cost - get_or (set bounds group (get_or labels u 0)) group 0 < no_cost - get_or bounds group 0
        less = omega (arith, written bounds group (get_or labels u 0) group inside refl)
