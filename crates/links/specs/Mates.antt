-- The mates of a half-link among the half-links of a plan, and what its link costs (01, "Links"; 02, A3). Assumes nothing.
use Rattle.std.specs.Prelude.{ℕ, List, [], ◌∷◌, cond, ltb}
use Rattle.lists.specs.Lists.{selected}
use Rattle.rule.specs.Records.{HalfLink, unusable_metric}
use Rattle.rule.specs.Links.{Link, mates, link_cost, usable_metric, neither_down}

-- What a link costs. "A link is usable only when neither half is down": else its metric is the unusable one.
abbrev pub metric_of : Link → ℕ
metric_of l = cond (neither_down l) (link_cost l) unusable_metric

-- What the link of a half-link costs, by its mates. "A half-link alone isn't used": its metric is the unusable one.
abbrev pub metric_with : HalfLink → List HalfLink → ℕ
metric_with h [] = unusable_metric
metric_with h (m ∷ ms) = metric_of (record { here = h; there = m })

abbrev pub link_metric : List HalfLink → HalfLink → ℕ
link_metric hs h = metric_with h (selected (mates h) hs)

-- 1 where the half-link is of a usable link and is seen from its lower bridge.
abbrev pub counted : List HalfLink → HalfLink → ℕ
counted hs h = cond (ltb h.near h.far) (cond (usable_metric (link_metric hs h)) 1 0) 0
