-- What a search keeps true of its labels and masked PATHIDs, and of the order in which it settles bridges.
-- Assumes nothing.
use Rattle.std.specs.Prelude.{ℕ, ◌+◌, ◌≤◌, ◌<◌, ◌≡◌, List, ◌⊎◌, cond, T, length, get_or, set}
use Rattle.lists.specs.Lists.{rising}
use Rattle.lists.specs.Members.{sum_over}
use Rattle.graph.specs.Graph.{Graph}
use Rattle.graph.specs.Chosen.{Chosen}
use Rattle.graph.specs.Lookups.{Kept}
use Rattle.labels.specs.Labels.{no_cost, label_at, state_of}
use Rattle.labels.specs.Nearest.{Nearest}
use Rattle.tree.specs.Trees.{Represents, Keyed, Represented, first_back}

-- For one graph and key that the lists stand for.
pub record Tracked (g : Graph) (key : ℕ → ℕ) (n root : ℕ) (labels path-ids : List ℕ) : Type 0 where
  pub kept : Kept g key root (state_of n labels path-ids)
  pub waits_or_not : (x : ℕ) → x < n → ((label_at labels x).waits ≡ no_cost) ⊎ ((label_at labels x).waits ≡ (label_at labels x).cost)
  pub cost_at_most : (x : ℕ) → x < n → (label_at labels x).cost ≤ no_cost
  pub next_in : (x : ℕ) → x < n → (label_at labels x).cost < no_cost → (label_at labels x).next < n
  pub root_next : (label_at labels root).next ≡ root
  pub first_is : (v : ℕ) → v < n → T ((state_of n labels path-ids).settled v) → (p : List ℕ) → Chosen g key v root p → (label_at labels v).first ≡ first_back p

-- A search under way: the lists stand for some graph and key, and what is kept is kept for every such graph and key. Of the places
-- for bridges beyond the first `n` none waits.
pub record Underway (n : ℕ) (starts neighbours costs keys : List ℕ) (root : ℕ) (labels path-ids : List ℕ) : Type 0 where
  pub root_in : root < n
  pub has_labels : 320 ≤ length labels
  pub has_path_ids : 4096 ≤ length path-ids
  pub represented : Represented n starts neighbours costs keys
  pub none_beyond : (u : ℕ) → n ≤ u → u < 64 → (label_at labels u).waits ≡ no_cost
  pub tracked : (g : Graph) (key : ℕ → ℕ) → Represents g n starts neighbours costs → Keyed g key keys → Tracked g key n root labels path-ids

-- How many of the first `n` bridges are not settled.
abbrev pub open_bridges : ℕ → List ℕ → ℕ
open_bridges n labels = sum_over (λ u. cond ((state_of n labels labels).settled u) 0 1) (rising 0 n)

-- The first `count` places of `order` hold the settled bridges in the order in which they were settled: the root first, and each other
-- bridge after its next hop.
pub record InOrder (n root : ℕ) (labels order : List ℕ) (count : ℕ) : Type 0 where
  pub size : length order ≡ 64
  pub least : 1 ≤ count
  pub room : count + open_bridges n labels ≤ n
  pub root_first : get_or order 0 0 ≡ root
  pub settled_at : (k : ℕ) → k < count → T ((state_of n labels labels).settled (get_or order k 0))
  pub has_hops : (k : ℕ) → 0 < k → k < count → 0 < (label_at labels (get_or order k 0)).hops
  pub after_next : (k : ℕ) → 0 < k → k < count → (j : ℕ) × (j < k) × (get_or order j 0 ≡ (label_at labels (get_or order k 0)).next)
  pub listed : (u : ℕ) → T ((state_of n labels labels).settled u) → (k : ℕ) × (k < count) × (get_or order k 0 ≡ u)

-- A search is under way, of some number of bridges, and the bridge `u` is to be settled next: it waits at the least cost.
pub record Advanceable (starts neighbours costs keys : List ℕ) (root : ℕ) (labels path-ids : List ℕ) (u : ℕ) : Type 0 where
  pub bridges : ℕ
  pub underway : Underway bridges starts neighbours costs keys root labels path-ids
  pub nearest : Nearest labels u
  pub waits : (label_at labels u).waits < no_cost

-- The bridge `u` was settled in a step of a search: of however many bridges the search was under way, it still is, fewer of them are not
-- settled, and `u` is the next in their order.
pub record Advanced (starts neighbours costs keys : List ℕ) (root u : ℕ) (labels path-ids labels' path_ids' : List ℕ) : Type 0 where
  pub goes_on : (n : ℕ) → Underway n starts neighbours costs keys root labels path-ids → Underway n starts neighbours costs keys root labels' path_ids'
  pub fewer_open : (n : ℕ) → Underway n starts neighbours costs keys root labels path-ids → open_bridges n labels' < open_bridges n labels
  pub next_in_order : (n : ℕ) → Underway n starts neighbours costs keys root labels path-ids → (order : List ℕ) (count : ℕ)
      → InOrder n root labels order count → InOrder n root labels' (set order count u) (count + 1)

-- A search has come to its end: no bridge waits, and the settled ones are in order.
pub record Finished (n : ℕ) (starts neighbours costs keys : List ℕ) (root : ℕ) (labels path-ids order : List ℕ) (count : ℕ) : Type 0 where
  pub underway : Underway n starts neighbours costs keys root labels path-ids
  pub none_waits : (x : ℕ) → x < 64 → no_cost ≤ (label_at labels x).waits
  pub in_order : InOrder n root labels order count

-- The first `count` places of the labels are those of `order` now.
pub record Noted (order : List ℕ) (count : ℕ) (labels labels' : List ℕ) : Type 0 where
  pub same_length : length labels' ≡ length labels
  pub first_places : (k : ℕ) → k < count → get_or labels' k 0 ≡ get_or order k 0
  pub other_places : (k : ℕ) → count ≤ k → get_or labels' k 0 ≡ get_or labels k 0
