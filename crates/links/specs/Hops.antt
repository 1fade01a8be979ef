-- Hops between bridges as numbers. The number of a hop is made of the cost, the link number and the near port of its link, so that the
-- lower number is "the cheapest usable link, of equals the lower link number" (01, "Links"). Assumes nothing.
use Rattle.std.specs.Prelude.{ℕ, ◌+◌, ◌*◌, ◌/◌, ◌%◌, ◌≤◌, ◌<◌, ◌≡◌, List, ◌⊎◌, cond}
use Rattle.rule.specs.Records.{HalfLink}
use Rattle.rule.specs.Links.{usable_metric}
use Rattle.links.specs.Mates.{link_metric}

-- The greatest number of 64 bits stands for no hop.
abbrev pub no_hop : ℕ
no_hop = 18446744073709551615

abbrev pub hop_number : ℕ → ℕ → ℕ → ℕ
hop_number cost link port = (cost * 65536 + link) * 4096 + port

-- The cost and the near port of a hop's link, of the hop's number.
abbrev pub cost_of_hop : ℕ → ℕ
cost_of_hop hop = hop / 268435456

abbrev pub port_of_hop : ℕ → ℕ
port_of_hop hop = hop % 4096

-- The number of the hop by the link of a half-link, where that link is usable.
abbrev pub hop_of : List HalfLink → HalfLink → ℕ
hop_of hs h = cond (usable_metric (link_metric hs h)) (hop_number (link_metric hs h) h.link h.port) no_hop

-- Of the half-links offered, of a plan with the half-links `hs`, the lowest hop to the bridge `v` has the number `x`.
pub record LowestHop (hs : List HalfLink) (Offered : HalfLink → Type 0) (v x : ℕ) : Type 0 where
  pub none_lower : (h : HalfLink) → Offered h → h.far ≡ v → hop_of hs h < no_hop → x ≤ hop_of hs h
  pub one_has : (x ≡ no_hop) ⊎ ((h : HalfLink) × Offered h × (h.far ≡ v) × (x ≡ hop_of hs h))
