-- `links::usable::count_one` compares the two bridges, then asks what the link costs. Assumes nothing.
use mathlib.Core.Path.{sym, ◌∙◌}
use Rattle.rule.specs.Words.{words_of}
use Rattle.readers.specs.Readers.{half_link_values}
use Rattle.table.specs.Positions.{plan_at}
use Rattle.table.specs.Numbered.{half_link_number}
use Rattle.links.proofs.laws.CountLaws.{counted-higher, counted-usable, counted_unusable}
use Rattle.links.proofs.usable.count_one.Goals as goal

pub returns-then-h : goal.returns-then-h
returns-then-h c =
    counted-higher (plan_at (words_of c.args.table.now) c.args.s).half_links
    (half_link_number (words_of c.args.table.now) c.args.s c.args.i)
    (half_link_values c.half_link-h.result) c.half_link-h.ensures c.if-h.true

pub link_metric-requires : goal.link_metric-requires
link_metric-requires c = c.requires

pub returns-then-is_usable : goal.returns-then-is_usable
returns-then-is_usable c =
    counted-usable (plan_at (words_of c.args.table.now) c.args.s).half_links
    (half_link_number (words_of c.args.table.now) c.args.s c.args.i)
    (half_link_values c.half_link-h.result) c.half_link-h.ensures c.if-h.false
    c.link_metric.result.0 c.link_metric.ensures (sym c.if-is_usable.true ∙ c.is_usable.ensures)

pub returns : goal.returns
returns c =
    counted_unusable (plan_at (words_of c.args.table.now) c.args.s).half_links
    (half_link_number (words_of c.args.table.now) c.args.s c.args.i)
    (half_link_values c.half_link-h.result) c.half_link-h.ensures c.if-h.false
    c.link_metric.result.0 c.link_metric.ensures (sym c.if-is_usable.false ∙ c.is_usable.ensures)
