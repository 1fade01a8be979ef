-- A row of ports made in one pass over the bridges in order: each from its next hop. Assumes nothing.
use Rattle.std.specs.Prelude.{ℕ, suc, ◌+◌, ◌-◌, ◌≤◌, ◌<◌, ◌≡◌, List, ◌++◌, ◌⊎◌, cond, eqb, length, get_or, set, take, drop}
use Rattle.std.proofs.Common.{arith, sym, ◌∙◌, subst, inl, inr, length-set, get_or-set_same, get_or-set_other, ext_get_or, eq-eqb, ne_eqb}
use Rattle.std.proofs.Math.Path.{refl, ap}
use Rattle.std.proofs.lemmas.List.{length-map}
use Rattle.lists.specs.Lists.{rising}
use Rattle.lists.specs.Appending.{Appended}
use Rattle.lists.proofs.laws.NumberLaws.{same_or_not}
use Rattle.lists.proofs.laws.MemberLaws.{map_at}
use Rattle.lists.proofs.laws.SelectedLaws.{rising-at, length-rising}
use Rattle.lists.proofs.laws.GivenLaws.{flat_map-one}
use Rattle.lists.proofs.laws.Splices.{put_back}
use Rattle.labels.specs.Labels.{no_cost, label_at}
use Rattle.egress.specs.Hops.{Clearing}
use Rattle.egress.specs.Leaving.{walked, leaving_by, port_through, egress_row_by, Walkable}

module _ (labels hops : List ℕ) (b : ℕ) where
  -- The row, place by place.
  pub row-length : (n : ℕ) → length (egress_row_by labels hops b n) ≡ n
  row-length n = ap length (flat_map-one (leaving_by labels hops b) (rising 0 n)) ∙ length-map (rising 0 n) (leaving_by labels hops b) ∙ length-rising 0 n

  pub row_at : (n d : ℕ) → d < n → get_or (egress_row_by labels hops b n) d 0 ≡ leaving_by labels hops b d
  row_at n d h =
      ap (λ (t : List ℕ). get_or t d 0) (flat_map-one (leaving_by labels hops b) (rising 0 n))
      ∙ map_at (leaving_by labels hops b) (rising 0 n) d 0 0 (omega (arith, length-rising 0 n))
      ∙ ap (leaving_by labels hops b) (rising-at 0 n d 0 h ∙ omega arith)

  -- Where no path exists, at the root, and at every other bridge by its next hop.
  no_way : (d : ℕ) → (label_at labels d).cost ≡ no_cost → leaving_by labels hops b d ≡ 0
  unfolding leaving_by
  no_way d e = rw (eq-eqb (label_at labels d).cost no_cost e)

  by_walk : (d : ℕ) → ((label_at labels d).cost ≡ no_cost → ⊥) → leaving_by labels hops b d ≡ walked labels hops b (label_at labels d).hops d
  unfolding leaving_by
  by_walk d f = rw (ne_eqb (label_at labels d).cost no_cost f)

  no_hops : (d : ℕ) → ((label_at labels d).cost ≡ no_cost → ⊥) → (label_at labels d).hops ≡ 0 → leaving_by labels hops b d ≡ 0
  unfolding walked
  no_hops d f e = by_walk d f ∙ ap (λ (k : ℕ). walked labels hops b k d) e

  one-hop : (d k : ℕ) → walked labels hops b (suc k) d ≡ cond (eqb (label_at labels d).next b) (get_or hops d 0) (walked labels hops b k (label_at labels d).next)
  unfolding walked
  one-hop d k = refl

  by_next : {n : ℕ} → Walkable labels n → (d : ℕ) → d < n → ((label_at labels d).cost ≡ no_cost → ⊥) → 0 < (label_at labels d).hops
      → leaving_by labels hops b d ≡ cond (eqb (label_at labels d).next b) (get_or hops d 0) (leaving_by labels hops b (label_at labels d).next)
  by_next W d l f h =
      let onward = W.onward d l f h in
      let one_more : (label_at labels d).hops ≡ suc (label_at labels (label_at labels d).next).hops = omega (arith, onward.2) in
      by_walk d f
      ∙ ap (λ (k : ℕ). walked labels hops b k d) one_more
      ∙ one-hop d (label_at labels (label_at labels d).next).hops
      ∙ ap (λ (x : ℕ). cond (eqb (label_at labels d).next b) (get_or hops d 0) x) (sym (by_walk (label_at labels d).next onward.1))

-- The bridges at the first `k` places of the order have their ports, and those without a path have none.
pub record Passing (labels hops : List ℕ) (b n : ℕ) (row : List ℕ) (k : ℕ) : Type 0 where
  pub walkable : Walkable labels n
  pub least : 1 ≤ k
  pub within : k ≤ walkable.ordered.count
  pub same_length : length row ≡ n
  pub done : (j : ℕ) → j < k → get_or row (get_or labels j 0) 0 ≡ leaving_by labels hops b (get_or labels j 0)
  pub none : (d : ℕ) → d < n → (label_at labels d).cost ≡ no_cost → get_or row d 0 ≡ 0

pub passing-starts : {labels : List ℕ} {n : ℕ} {row₀ row : List ℕ} (hops : List ℕ) (b : ℕ) → Walkable labels n → length row₀ ≡ n → Clearing row₀ n n row
    → Passing labels hops b n row 1
passing-starts {labels} {n} {row₀} {row} hops b W l C = record {
  walkable = W;
  least = omega arith;
  within = W.ordered.least;
  same_length = C.same_length ∙ l;
  done = λ j h. let e : 0 ≡ j = omega arith in
      subst (λ (i : ℕ). get_or row (get_or labels i 0) 0 ≡ leaving_by labels hops b (get_or labels i 0)) e root-done;
  none = λ d h e. C.cleared d h;
}
  where
    first-hops : (label_at labels (get_or labels 0 0)).hops ≡ 0
    first-hops = ap (λ (d : ℕ). (label_at labels d).hops) W.ordered.root_first ∙ W.ordered.root_hops

    root-done : get_or row (get_or labels 0 0) 0 ≡ leaving_by labels hops b (get_or labels 0 0)
    root-done =
        C.cleared (get_or labels 0 0) (W.ordered.inside 0 (omega (arith, W.ordered.least)))
        ∙ sym (no_hops labels hops b (get_or labels 0 0) (W.ordered.has_path 0 (omega (arith, W.ordered.least))) first-hops)

module _ {labels hops : List ℕ} {b n : ℕ} {row : List ℕ} {k : ℕ} (P : Passing labels hops b n row k) where
  -- The place `k` holds a bridge.
  module _ (below : k < n) (d : ℕ) (read : d ≡ get_or labels k 0) (bridge : d ≡ no_cost → ⊥) where
    ordered-place : k < P.walkable.ordered.count
    ordered-place = go (same_or_not k P.walkable.ordered.count)
      where
        go : (k ≡ P.walkable.ordered.count) ⊎ (k ≡ P.walkable.ordered.count → ⊥) → k < P.walkable.ordered.count
        go (inl e) = absurd (bridge (read ∙ ap (λ (i : ℕ). get_or labels i 0) e ∙ P.walkable.ordered.then_none (omega arith)))
        go (inr f) = omega (arith, P.within)

    inside : d < n
    inside = omega (arith, P.walkable.ordered.inside k ordered-place)

    has_path_lem : (label_at labels d).cost ≡ no_cost → ⊥
    has_path_lem = subst (λ (x : ℕ). (label_at labels x).cost ≡ no_cost → ⊥) (sym read) (P.walkable.ordered.has_path k ordered-place)

    has_hops : 0 < (label_at labels d).hops
    has_hops = subst (λ (x : ℕ). 0 < (label_at labels x).hops) (sym read) (P.walkable.ordered.has_hops k (omega (arith, P.least)) ordered-place)

    pub passing-inside : (d < 64) × ((label_at labels d).next < 64) × (d < length row) × ((label_at labels d).next < length row)
    passing-inside =
        let next_in = (P.walkable.onward d inside has_path_lem has_hops).0 in
        let most = P.walkable.most in
        (omega (arith, inside), omega arith, omega (arith, inside, P.same_length), omega (arith, P.same_length))

    next-done : get_or row (label_at labels d).next 0 ≡ leaving_by labels hops b (label_at labels d).next
    next-done =
        let (j, m, e) = P.walkable.ordered.after_next k (omega (arith, P.least)) ordered-place in
        let f : get_or labels j 0 ≡ (label_at labels d).next = e ∙ ap (λ (x : ℕ). (label_at labels x).next) (sym read) in
        subst (λ (x : ℕ). get_or row x 0 ≡ leaving_by labels hops b x) f (P.done j m)

    port_is : port_through labels hops b row d ≡ leaving_by labels hops b d
    port_is =
        ap (λ (x : ℕ). cond (eqb (label_at labels d).next b) (get_or hops d 0) x) next-done
        ∙ sym (by_next labels hops b P.walkable d inside has_path_lem has_hops)

    now : get_or (set row d (port_through labels hops b row d)) d 0 ≡ leaving_by labels hops b d
    now = get_or-set_same row d (port_through labels hops b row d) 0 (omega (arith, inside, P.same_length)) ∙ port_is

    pub passing_goes_on : {row' : List ℕ} → row' ≡ set row d (port_through labels hops b row d) → Passing labels hops b n row' (k + 1)
    passing_goes_on {row'} e = rw e (record {
      walkable = P.walkable;
      least = omega arith;
      within = omega (arith, ordered-place);
      same_length = length-set row d (port_through labels hops b row d) ∙ P.same_length;
      done = λ j h. done j h (same_or_not (get_or labels j 0) d);
      none = λ x l f. get_or-set_other row d x (port_through labels hops b row d) 0 (λ e. has_path_lem (ap (λ (y : ℕ). (label_at labels y).cost) (sym e) ∙ f)) ∙ P.none x l f;
    })
      where
        done : (j : ℕ) → j < k + 1 → (get_or labels j 0 ≡ d) ⊎ (get_or labels j 0 ≡ d → ⊥)
            → get_or (set row d (port_through labels hops b row d)) (get_or labels j 0) 0 ≡ leaving_by labels hops b (get_or labels j 0)
        done j h (inl e) = subst (λ (x : ℕ). get_or (set row d (port_through labels hops b row d)) x 0 ≡ leaving_by labels hops b x) (sym e) now
        done j h (inr f) = get_or-set_other row d (get_or labels j 0) (port_through labels hops b row d) 0 f ∙ P.done j (before (same_or_not j k))
          where
            before : (j ≡ k) ⊎ (j ≡ k → ⊥) → j < k
            before (inl e) = absurd (f (ap (λ (i : ℕ). get_or labels i 0) e ∙ sym read))
            before (inr g) = omega arith

  -- All bridges that have a path are passed.
  ends : P.walkable.ordered.count ≤ k → row ≡ egress_row_by labels hops b n
  ends h = ext_get_or 0 row (egress_row_by labels hops b n) (P.same_length ∙ sym (row-length labels hops b n))
      (λ d l. let i : d < n = omega (arith, P.same_length) in each d i (same_or_not (label_at labels d).cost no_cost) ∙ sym (row_at labels hops b n d i))
    where
      each : (d : ℕ) → d < n → ((label_at labels d).cost ≡ no_cost) ⊎ ((label_at labels d).cost ≡ no_cost → ⊥) → get_or row d 0 ≡ leaving_by labels hops b d
      each d l (inl e) = P.none d l e ∙ sym (no_way labels hops b d e)
      each d l (inr f) =
          let (j, m, e) = P.walkable.ordered.listed d l f in
          subst (λ (x : ℕ). get_or row x 0 ≡ leaving_by labels hops b x) e (P.done j (omega arith))

  pub passing-ends : n ≤ k → row ≡ egress_row_by labels hops b n
  passing-ends h = ends (omega (arith, P.walkable.ordered.most))

  pub passing-stops : {d : ℕ} → d ≡ get_or labels k 0 → d ≡ no_cost → row ≡ egress_row_by labels hops b n
  passing-stops {d} read e = ends (go (same_or_not k P.walkable.ordered.count))
    where
      go : (k ≡ P.walkable.ordered.count) ⊎ (k ≡ P.walkable.ordered.count → ⊥) → P.walkable.ordered.count ≤ k
      go (inl f) = omega arith
      go (inr f) = absurd (omega (arith, P.walkable.ordered.inside k (omega (arith, P.within)), P.walkable.most))

-- A port was written by the next hop that was read.
pub port-written : (labels hops : List ℕ) (b : ℕ) (row : List ℕ) (d : ℕ) {next port : ℕ} → next ≡ (label_at labels d).next
    → port ≡ cond (eqb next b) (get_or hops d 0) (get_or row next 0) → set row d port ≡ set row d (port_through labels hops b row d)
port-written labels hops b row d e f = ap (λ (x : ℕ). set row d x) (f ∙ ap (λ (x : ℕ). cond (eqb x b) (get_or hops d 0) (get_or row x 0)) e)

-- The row put back in its place.
pub row_written : (rows : List ℕ) (labels hops : List ℕ) (b n at : ℕ) {row : List ℕ} → row ≡ egress_row_by labels hops b n
    → Appended rows at (egress_row_by labels hops b n) (take at rows ++ (row ++ drop (at + n - at) (drop at rows))) (at + n)
row_written rows labels hops b n at {row} e = record {
  words_are = ap (λ (t : List ℕ). take at rows ++ (t ++ drop (at + n - at) (drop at rows))) e
      ∙ put_back rows (egress_row_by labels hops b n) at (at + n - at) (omega (arith, row-length labels hops b n));
  end_is = omega (arith, row-length labels hops b n);
}
