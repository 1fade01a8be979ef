-- Links, usable links, joined bridges and the link that a hop takes (01, "Links"; 02, A1 and A3), as functions of the list of half-links.
-- None depends on the order of the list: a half-link's mate is found by its link number.
-- Assumes nothing.
use Rattle.std.specs.Prelude.{ℕ, max, Bool, not, ◌&&◌, ◌||◌, eqb, ltb, length}
use mathlib.Core.List.{List, map, flat_map}
use Rattle.std.proofs.Math.Option.{Option, none, some}
use Rattle.lists.specs.Lists.{selected, any_passes, lowest_by}
use Rattle.graph.specs.Graph.{Graph}
use Rattle.rule.specs.Records.{HalfLink, unusable_metric}
use Rattle.rule.specs.Plan.{Plan, bridge_at}

-- A link as it is seen from one of its bridges: the half-link there, and the other one.
pub record Link : Type 0 where
  pub here : HalfLink
  pub there : HalfLink

-- "A link is two half-links with one link number, near and far bridge exchanged."
abbrev pub mates : HalfLink → HalfLink → Bool
mates h m = eqb h.link m.link && eqb h.near m.far && eqb h.far m.near

-- Every link twice, once from each end. "A half-link alone isn't used."
unfoldable pub links_of : List HalfLink → List Link
links_of hs = flat_map (λ h. map (λ m. record { here = h; there = m }) (selected (mates h) hs)) hs

abbrev pub number : Link → ℕ
number l = l.here.link

-- The two ends of a link, as they are seen from this one.
abbrev pub from : Link → ℕ
from l = l.here.near

abbrev pub to : Link → ℕ
to l = l.here.far

-- A link seen from its other end.
abbrev pub turned : Link → Link
turned l = record { here = l.there; there = l.here }

-- "A link costs the greater of its two metrics".
abbrev pub combined_metric : ℕ → ℕ → ℕ
combined_metric m n = max m n

abbrev pub link_cost : Link → ℕ
link_cost l = combined_metric l.here.metric l.there.metric

-- "usable when that is below 16,777,215".
abbrev pub usable_metric : ℕ → Bool
usable_metric m = ltb m unusable_metric

-- "neither half is down" (02, A3).
abbrev pub neither_down : Link → Bool
neither_down l = not l.here.down && not l.there.down

-- "A link is usable only when neither half is down" (02, A3).
abbrev pub is_usable : Link → Bool
is_usable l = neither_down l && usable_metric (link_cost l)

unfoldable pub usable_links : List HalfLink → List Link
usable_links hs = selected is_usable (links_of hs)

-- How many usable links there are: each is counted where it is seen from its lower bridge.
unfoldable pub count_usable : List HalfLink → ℕ
count_usable hs = length (selected (λ l. ltb (from l) (to l)) (usable_links hs))

-- A link connects `u` to `v`, seen from `u`.
abbrev pub connects : ℕ → ℕ → Link → Bool
connects u v l = eqb (from l) u && eqb (to l) v

unfoldable pub links_between : List HalfLink → ℕ → ℕ → List Link
links_between hs u v = selected (connects u v) (usable_links hs)

-- "Two bridges are joined when a usable link connects them".
unfoldable pub joined : List HalfLink → ℕ → ℕ → Bool
joined hs u v = any_passes (connects u v) (usable_links hs)

-- "the cheapest usable link, of equals the lower link number (a house rule)".
abbrev pub before : Link → Link → Bool
before l k = ltb (link_cost l) (link_cost k) || (eqb (link_cost l) (link_cost k) && ltb (number l) (number k))

-- The link that the hop from `u` to `v` takes, or none where the two are not joined.
unfoldable pub hop_link : List HalfLink → ℕ → ℕ → Option Link
hop_link hs u v = lowest_by before (links_between hs u v)

abbrev pub cost_of : Option Link → ℕ
cost_of none = 0
cost_of (some l) = link_cost l

-- The graph of a plan: what a hop costs, 0 where two bridges are not joined. "An overloaded bridge may begin or end a path and never
-- lies between." (02, A1)
abbrev pub graph_of : Plan → Graph
graph_of p =
    record {
      size = length p.bridges;
      hop = λ u v. cost_of (hop_link p.half_links u v);
      between = λ u. not (bridge_at p u).overloaded;
    }
