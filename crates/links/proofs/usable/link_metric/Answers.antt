-- `links::usable::link_metric` asks the half-link whether it is down before it looks for its mate. Assumes nothing.
use mathlib.Core.Path.{sym, ap, ◌∙◌}
use Rattle.lists.specs.Lists.{selected}
use Rattle.rule.specs.Words.{words_of}
use Rattle.rule.specs.Records.{HalfLink}
use Rattle.rule.specs.Links.{mates}
use Rattle.table.specs.Positions.{plan_at}
use Rattle.table.specs.Numbered.{half_link_number}
use Rattle.links.proofs.laws.MateLaws.{metric-down}
use Rattle.links.proofs.usable.link_metric.Goals as goal

pub half_link-requires : goal.half_link-requires
half_link-requires c =
    let (checked, i-bound, _) = c.requires in
    (checked.whole, i-bound)

pub metric_with_mate-requires : goal.metric_with_mate-requires
metric_with_mate-requires c =
    let (checked, i-bound, link-index) = c.requires in
    (checked, i-bound, link-index, sym (ap (λ (h : HalfLink). h.down) c.half_link.ensures) ∙ c.if-half_link.false)

pub returns-then-half_link : goal.returns-then-half_link
returns-then-half_link c =
    let words = words_of c.args.table.now in
    let h = half_link_number words c.args.s c.args.i in
    metric-down h (selected (mates h) (plan_at words c.args.s).half_links)
    (sym (ap (λ (h : HalfLink). h.down) c.half_link.ensures) ∙ c.if-half_link.true)
