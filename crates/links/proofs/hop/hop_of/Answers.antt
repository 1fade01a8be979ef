-- `links::hop::hop_of` gives no hop where the link is unusable, and else the number by the half-link's cost, link number and port.
-- Assumes nothing.
use native.Mathlib.Omega.{arith}
use mathlib.Core.Path.{sym, ◌∙◌}
use Rattle.rule.specs.Words.{words_of}
use Rattle.readers.specs.Readers.{half_link_values}
use Rattle.table.specs.Positions.{plan_at}
use Rattle.table.specs.Numbered.{half_link_number}
use Rattle.links.proofs.laws.HopLaws.{hop_unusable, hop-usable, hop-fits}
use Rattle.links.proofs.hop.hop_of.Goals as goal

pub returns-then-not-is_usable : goal.returns-then-not-is_usable
returns-then-not-is_usable c =
    let words = words_of c.args.table.now in
    hop_unusable (plan_at words c.args.s).half_links (half_link_number words c.args.s c.args.i)
    c.link_metric-metric.result.0 c.link_metric-metric.ensures
    (sym c.if-not-is_usable.true ∙ c.is_usable.ensures)

pub half_link-h-requires : goal.half_link-h-requires
half_link-h-requires c =
    let (checked, i-bound, _) = c.requires in
    (checked.whole, i-bound)

pub hop_number-requires : goal.hop_number-requires
hop_number-requires c =
    let (checked, i-bound, _) = c.requires in
    omega (
      arith,
      hop-fits checked c.args.i i-bound (half_link_values c.half_link-h.result) c.half_link-h.ensures
          c.link_metric-metric.result.0 (sym c.if-not-is_usable.false ∙ c.is_usable.ensures),
    )

pub returns : goal.returns
returns c =
    let words = words_of c.args.table.now in
    hop-usable (plan_at words c.args.s).half_links (half_link_number words c.args.s c.args.i)
    c.link_metric-metric.result.0 c.link_metric-metric.ensures
    (sym c.if-not-is_usable.false ∙ c.is_usable.ensures) (half_link_values c.half_link-h.result)
    c.half_link-h.ensures c.hop_number.result c.hop_number.ensures
