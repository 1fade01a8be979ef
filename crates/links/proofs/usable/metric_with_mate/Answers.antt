-- `links::usable::metric_with_mate` asks the mate, which the index has, whether it is down, then combines the two metrics. Assumes nothing.
use native.Mathlib.Omega.{arith}
use mathlib.Core.Path.{◌≡◌, ap, ◌∙◌}
use mathlib.Core.Bool.{true, false}
use Rattle.rule.specs.Words.{words_of}
use Rattle.rule.specs.Records.{HalfLink}
use Rattle.rule.specs.Links.{combined_metric}
use Rattle.readers.specs.Readers.{half_link_values}
use Rattle.table.specs.Positions.{plan_at}
use Rattle.table.specs.Numbered.{half_link_number}
use Rattle.links.specs.Mates.{metric_of, link_metric}
use Rattle.links.proofs.laws.MateLaws.{mate-within, metric-alone, metric_by, metric-linked}
use Rattle.links.proofs.usable.metric_with_mate.Goals as goal

pub returns-then-place-eq0 : goal.returns-then-place-eq0
returns-then-place-eq0 c =
    let (checked, i-bound, link-index, _) = c.requires in
    metric-alone checked link-index c.args.i i-bound c.other_place-place.result c.other_place-place.ensures
    c.if-place-eq0.true

pub half_link-mate-requires : goal.half_link-mate-requires
half_link-mate-requires c =
    let (checked, i-bound, link-index, _) = c.requires in (
      checked.whole,
      omega (
        arith,
        mate-within checked link-index c.args.i i-bound c.other_place-place.result
            c.other_place-place.ensures,
      ),
    )

pub half_link-h-requires : goal.half_link-h-requires
half_link-h-requires c =
    let (checked, i-bound, _, _) = c.requires in
    (checked.whole, i-bound)

pub returns-then-mate : goal.returns-then-mate
returns-then-mate c =
    let own : HalfLink =
    half_link_number (words_of c.args.table.now) c.args.s c.args.i in
    let linked : metric_of (record { here = own; there = half_link_values c.half_link-mate.result }) ≡ link_metric (plan_at (words_of c.args.table.now) c.args.s).half_links own =
    let (checked, i-bound, link-index, _) = c.requires in
    metric-linked checked link-index c.args.i i-bound c.other_place-place.result
    c.other_place-place.ensures c.if-place-eq0.false (half_link_values c.half_link-mate.result) c.half_link-mate.ensures in let (_, _, _, own-up) = c.requires in
    metric_by own (half_link_values c.half_link-mate.result) true own-up c.if-mate.true
    ∙ linked

pub returns-else-mate : goal.returns-else-mate
returns-else-mate c =
    let own : HalfLink =
    half_link_number (words_of c.args.table.now) c.args.s c.args.i in
    let linked : metric_of (record { here = own; there = half_link_values c.half_link-mate.result }) ≡ link_metric (plan_at (words_of c.args.table.now) c.args.s).half_links own =
    let (checked, i-bound, link-index, _) = c.requires in
    metric-linked checked link-index c.args.i i-bound c.other_place-place.result
    c.other_place-place.ensures c.if-place-eq0.false (half_link_values c.half_link-mate.result) c.half_link-mate.ensures in let mate = half_link_values c.half_link-mate.result in
    let (_, _, _, own-up) = c.requires in
    c.combined.ensures
    ∙ ap (λ (h : HalfLink). combined_metric h.metric mate.metric) c.half_link-h.ensures
    ∙ metric_by own mate false own-up c.if-mate.false
    ∙ linked
