-- The hops of a network: for each bridge, from its first hop to the first of the next, the bridges that it has a hop to, each with the
-- cost and the near port of the hop's link. Assumes nothing.
use Rattle.std.specs.Prelude.{ℕ, ◌+◌, ◌≤◌, ◌<◌, ◌≡◌, List, get_or, length}
use Rattle.std.proofs.Math.Option.{some}
use Rattle.rule.specs.Plan.{Plan}
use Rattle.rule.specs.Links.{Link, link_cost, hop_link}
use Rattle.network.specs.Layout.{starts_at, neighbours_at, costs_at, ports_at}

-- The hops from the place `from` to the place before `to` are those of the bridge `u`.
pub record HopsOf (p : Plan) (u : ℕ) (net : List ℕ) (from to : ℕ) : Type 0 where
  pub in_order : from ≤ to
  pub joined : (i : ℕ) → from ≤ i → i < to
      → (l : Link) × (hop_link p.half_links u (get_or net (neighbours_at + i) 0) ≡ some l) × (get_or net (costs_at + i) 0 ≡ link_cost l) × (get_or net (ports_at + i) 0 ≡ l.here.port)
  pub listed : (v : ℕ) (l : Link) → hop_link p.half_links u v ≡ some l → (i : ℕ) × (from ≤ i) × (i < to) × (get_or net (neighbours_at + i) 0 ≡ v)

-- The hops of the first `n` bridges are listed, `most` of them at most, those of each bridge from its first hop to the first of the next.
pub record HopsListed (p : Plan) (n most : ℕ) (net : List ℕ) : Type 0 where
  pub few : (u : ℕ) → u ≤ n → get_or net (starts_at + u) 0 ≤ most
  pub each : (u : ℕ) → u < n → HopsOf p u net (get_or net (starts_at + u) 0) (get_or net (starts_at + (u + 1)) 0)

-- The first `from` hops are as they were.
pub record SameHops (before net : List ℕ) (from : ℕ) : Type 0 where
  pub same_neighbours : (k : ℕ) → k < from → get_or net (neighbours_at + k) 0 ≡ get_or before (neighbours_at + k) 0
  pub same_costs : (k : ℕ) → k < from → get_or net (costs_at + k) 0 ≡ get_or before (costs_at + k) 0
  pub same_ports : (k : ℕ) → k < from → get_or net (ports_at + k) 0 ≡ get_or before (ports_at + k) 0

-- And so are the places of first hops.
pub record Kept (before net : List ℕ) (from : ℕ) : Type 0 where
  pub same_length : length net ≡ length before
  pub same_starts : (w : ℕ) → w < 65 → get_or net (starts_at + w) 0 ≡ get_or before (starts_at + w) 0
  pub same_hops : SameHops before net from

-- From the first hop of a bridge to the first of the next stand exactly the bridges joined to it, with what the hop's link costs and its
-- near port.
pub record NeighboursOf (p : Plan) (n : ℕ) (starts neighbours costs ports : List ℕ) : Type 0 where
  pub in_order : (u : ℕ) → u < n → get_or starts u 0 ≤ get_or starts (u + 1) 0
  pub few : (u : ℕ) → u < n → get_or starts (u + 1) 0 ≤ 512
  pub joined : (u i : ℕ) → u < n → get_or starts u 0 ≤ i → i < get_or starts (u + 1) 0
      → (l : Link) × (hop_link p.half_links u (get_or neighbours i 0) ≡ some l) × (get_or costs i 0 ≡ link_cost l) × (get_or ports i 0 ≡ l.here.port)
  pub listed : (u v : ℕ) → u < n → (l : Link) → hop_link p.half_links u v ≡ some l
      → (i : ℕ) × (get_or starts u 0 ≤ i) × (i < get_or starts (u + 1) 0) × (get_or neighbours i 0 ≡ v)
