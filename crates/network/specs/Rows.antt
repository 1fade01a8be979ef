-- The hops of one bridge in the making. Its half-links are visited from the last to the first; a row has the lowest hop to each bridge by
-- those visited; the bridges of the row that have a hop are listed in the network, and their costs and ports written when all half-links
-- of the bridge were visited. Assumes nothing.
use Rattle.std.specs.Prelude.{ℕ, ◌+◌, ◌-◌, ◌≤◌, ◌<◌, min, ◌≡◌, List, ◌⊎◌, length, get_or, set}
use Rattle.lists.specs.Members.{In, EveryTwo}
use Rattle.rule.specs.Words.{words_of}
use Rattle.rule.specs.Records.{HalfLink}
use Rattle.earlier.specs.HalfLinks.{Keyed}
use Rattle.table.specs.declared.shape.Shape.{Shape}
use Rattle.table.specs.Positions.{half_links_from, plan_at}
use Rattle.table.specs.Numbered.{half_link_number}
use Rattle.links.specs.Hops.{no_hop, cost_of_hop, port_of_hop, hop_of, LowestHop}
use Rattle.network.specs.Layout.{neighbours_at, costs_at, ports_at}
use Rattle.network.specs.Neighbours.{Kept}

-- The list is the index of the near bridges of a table's half-links.
pub record NearIndex (index t : List ℕ) (s : Shape) : Type 0 where
  pub keyed : Keyed (λ h. h.near) index (words_of t) (half_links_from s) s.half_links

-- The half-link is one of the bridge `u`, and its number is `first` or higher.
abbrev pub OfBridge : List ℕ → Shape → ℕ → ℕ → HalfLink → Type 0
OfBridge t s u first h = (h.near ≡ u) × ((i : ℕ) × (first ≤ i) × (i < s.half_links) × (h ≡ half_link_number (words_of t) s i))

-- Each of the first `at` hops has a half-link of its own among those visited: all of the bridges before `u`, and of the bridge `u` those
-- with the number `first` or higher.
pub record Visited (t : List ℕ) (s : Shape) (u first at : ℕ) : Type 0 where
  pub numbers : List ℕ
  pub distinct : EveryTwo (λ i j. i ≡ j → ⊥) numbers
  pub within : (i : ℕ) → In i numbers → i < s.half_links
  pub done : (i : ℕ) → In i numbers → ((half_link_number (words_of t) s i).near < u) ⊎ (((half_link_number (words_of t) s i).near ≡ u) × (first ≤ i))
  pub enough : at ≤ length numbers

-- The row has a place for each bridge, and no hop.
pub record Cleared (row : List ℕ) : Type 0 where
  pub size : length row ≡ 64
  pub empty : (v : ℕ) → v < 64 → get_or row v 0 ≡ no_hop

-- The hop by the half-link `h` is taken: the row has it where it is lower, and the far bridge is listed where it had no hop.
pub record Taken (hs : List HalfLink) (h : HalfLink) (row row' net net' : List ℕ) (at at' : ℕ) : Type 0 where
  pub usable : hop_of hs h < no_hop
  pub row_is : row' ≡ set row h.far (min (get_or row h.far 0) (hop_of hs h))
  pub listing :
      ((get_or row h.far 0 < no_hop) × (at' ≡ at) × (net' ≡ net))
      ⊎ ((no_hop ≤ get_or row h.far 0) × (at' ≡ at + 1) × (net' ≡ set net (neighbours_at + at) h.far))

-- The half-link `h` is offered: its hop is taken, or there is none and nothing changes.
pub record Offered (hs : List HalfLink) (h : HalfLink) (row row' net net' : List ℕ) (at at' : ℕ) : Type 0 where
  pub outcome : Taken hs h row row' net net' at at' ⊎ ((no_hop ≤ hop_of hs h) × (row' ≡ row) × (net' ≡ net) × (at' ≡ at))

-- The half-links of the bridge `u` with the number `place` or higher were offered, and the next is the one before the number `place`. The row
-- has the lowest hop to each bridge by them, and the bridges that have one are listed from the place `from` to the place before `at`.
pub record Gathering (t : List ℕ) (s : Shape) (u from : ℕ) (before row net : List ℕ) (place at : ℕ) : Type 0 where
  pub within : place ≤ s.half_links
  pub next : 0 < place → (half_link_number (words_of t) s (place - 1)).near ≡ u
  pub visited : Visited t s u place at
  pub size : length row ≡ 64
  pub lowest : (v : ℕ) → v < 64 → LowestHop (plan_at (words_of t) s).half_links (OfBridge t s u place) v (get_or row v 0)
  pub in_order : from ≤ at
  pub every : (v : ℕ) → v < 64 → get_or row v 0 < no_hop → (k : ℕ) × (from ≤ k) × (k < at) × (get_or net (neighbours_at + k) 0 ≡ v)
  pub only : (k : ℕ) → from ≤ k → k < at → (get_or net (neighbours_at + k) 0 < 64) × (get_or row (get_or net (neighbours_at + k) 0) 0 < no_hop)
  pub kept : Kept before net from

-- The bridges listed from the place `from` to the place before `to` have a hop in the row.
pub record HaveHops (row net : List ℕ) (from to : ℕ) : Type 0 where
  pub size : length row ≡ 64
  pub in_row : (k : ℕ) → from ≤ k → k < to → get_or net (neighbours_at + k) 0 < 64
  pub fits : (k : ℕ) → from ≤ k → k < to → get_or row (get_or net (neighbours_at + k) 0) 0 < 4503599627370496

-- The costs and the ports of the hops from the place `from` to the place before `k` are those of the row.
pub record HopsWritten (row before net : List ℕ) (from k : ℕ) : Type 0 where
  pub in_order : from ≤ k
  pub cost_is : (j : ℕ) → from ≤ j → j < k → get_or net (costs_at + j) 0 ≡ cost_of_hop (get_or row (get_or before (neighbours_at + j) 0) 0)
  pub port_is : (j : ℕ) → from ≤ j → j < k → get_or net (ports_at + j) 0 ≡ port_of_hop (get_or row (get_or before (neighbours_at + j) 0) 0)
  pub all_neighbours : (j : ℕ) → j < 512 → get_or net (neighbours_at + j) 0 ≡ get_or before (neighbours_at + j) 0
  pub kept : Kept before net from
