-- Relaxing: what the neighbours of a settled bridge are offered, and what becomes of their labels.
-- Assumes nothing.
use Rattle.std.specs.Prelude.{ℕ, ◌+◌, ◌≤◌, ◌<◌, ◌≡◌, List, ◌⊎◌, length, get_or}
use Rattle.graph.specs.Order.{Lower}
use Rattle.labels.specs.Labels.{no_cost, Label, label_at, label_rank, offer_rank}

-- The lists have the places that the comparison of an offer with the label of the bridge `v` reads.
pub record Comparable (labels path-ids : List ℕ) (via v cost hops : ℕ) : Type 0 where
  pub via_in : via < 64
  pub v_in : v < 64
  pub has_labels : 320 ≤ length labels
  pub has_path_ids : 4096 ≤ length path-ids
  pub hops_in : hops ≤ 64
  pub next_in : cost ≡ (label_at labels v).cost → (label_at labels v).next < 64

-- The neighbours of the bridge `via` stand at the places from `starts` of it to `starts` of the next, and can be offered the way
-- through it.
pub record Relaxable (starts neighbours costs path-ids labels : List ℕ) (via : ℕ) : Type 0 where
  pub via_in : via < 64
  pub has_labels : 320 ≤ length labels
  pub has_path_ids : 4096 ≤ length path-ids
  pub has_starts : via + 1 < length starts
  pub has_neighbours : get_or starts (via + 1) 0 ≤ length neighbours
  pub has_costs : get_or starts (via + 1) 0 ≤ length costs
  pub in_order : get_or starts via 0 ≤ get_or starts (via + 1) 0
  pub hops_in : (label_at labels via).hops < 64
  pub neighbour_in : (i : ℕ) → get_or starts via 0 ≤ i → i < get_or starts (via + 1) 0 → get_or neighbours i 0 < 64
  pub cost_in : (i : ℕ) → get_or starts via 0 ≤ i → i < get_or starts (via + 1) 0 → (label_at labels via).cost + get_or costs i 0 < no_cost
  pub one_cost : (i j : ℕ) → get_or starts via 0 ≤ i → i < get_or starts (via + 1) 0 → get_or starts via 0 ≤ j → j < get_or starts (via + 1) 0
      → get_or neighbours i 0 ≡ get_or neighbours j 0 → get_or costs i 0 ≡ get_or costs j 0
  pub next_in : (i : ℕ) → get_or starts via 0 ≤ i → i < get_or starts (via + 1) 0 → (label_at labels (get_or neighbours i 0)).cost < no_cost
      → (label_at labels (get_or neighbours i 0)).next < 64

-- What the neighbour at a place is offered.
abbrev pub offer_at : List ℕ → List ℕ → List ℕ → ℕ → ℕ → List ℕ
offer_at costs path-ids labels via i = offer_rank path-ids via ((label_at labels via).cost + get_or costs i 0) ((label_at labels via).hops + 1)

-- The label `b` with that offer taken.
abbrev pub took_at : List ℕ → List ℕ → ℕ → Label → ℕ → Label
took_at costs labels via b i = record {
  waits = (label_at labels via).cost + get_or costs i 0;
  cost = (label_at labels via).cost + get_or costs i 0;
  hops = (label_at labels via).hops + 1;
  next = via;
  first = b.first;
}

-- After the places from `from` up to `j`: the label of the bridge `x` is as it was, and no offer to it was lower; or it is an offer
-- lower than it was.
module _ (neighbours costs path-ids : List ℕ) (via from j : ℕ) (labels labels' : List ℕ) (x : ℕ) where
  pub record Unchanged : Type 0 where
    pub same : label_at labels' x ≡ label_at labels x
    pub not_lower : (i : ℕ) → from ≤ i → i < j → get_or neighbours i 0 ≡ x → Lower (offer_at costs path-ids labels via i) (label_rank path-ids (label_at labels x)) → ⊥

  pub record Changed : Type 0 where
    pub place : ℕ
    pub after : from ≤ place
    pub before : place < j
    pub offered : get_or neighbours place 0 ≡ x
    pub took : label_at labels' x ≡ took_at costs labels via (label_at labels x) place
    pub lower_now : Lower (offer_at costs path-ids labels via place) (label_rank path-ids (label_at labels x))

-- All neighbours of the bridge `via` were offered the way through it.
pub record Relaxed (starts neighbours costs path-ids : List ℕ) (via : ℕ) (labels labels' : List ℕ) : Type 0 where
  pub same_length : length labels' ≡ length labels
  pub each : (x : ℕ) → x < 64
      → Unchanged neighbours costs path-ids via (get_or starts via 0) (get_or starts (via + 1) 0) labels labels' x
      ⊎ Changed neighbours costs path-ids via (get_or starts via 0) (get_or starts (via + 1) 0) labels labels' x
