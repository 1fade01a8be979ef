-- `service_reading::read::read_in_table` tells a sub-TLV from other bytes first. Assumes nothing.
use Rattle.rule.specs.Refusals.{refused_by}
use Prim.Native.Nat.{ℕ}
use Rattle.rule.specs.Outcome.{Outcome}
use Rattle.rule.specs.Words.{words_of}
use Rattle.service_reading.proofs.laws.ReadingLaws.{counted, content_bounds, no_sub_tlv_lem, is_sub_tlv}
use Rattle.table.specs.Positions.{plan_at}
use mathlib.Core.Path.{sym, ap, ◌∙◌}
use native.Mathlib.Omega.{arith}
use Rattle.service_reading.proofs.read.read_in_table.Goals as goal

pub returns-then-is_no_sub_tlv : goal.returns-then-is_no_sub_tlv
returns-then-is_no_sub_tlv c =
    let (is-no-sub-tlv-is, _) = c.is_no_sub_tlv.ensures in
    ap (λ (o : Outcome ℕ). (o, c.args.words.now)) (c.from.ensures ∙ ap refused_by c.of_call.ensures)
    ∙ no_sub_tlv_lem (plan_at (words_of c.args.table.now) c.args.s) c.args.bytes.now
    c.args.words.now (sym is-no-sub-tlv-is ∙ c.if-is_no_sub_tlv.true)

pub slice_bounds-read_content-count : goal.slice_bounds-read_content-count
slice_bounds-read_content-count c =
    let (is-no-sub-tlv-is, _) = c.is_no_sub_tlv.ensures in
    omega (arith, (counted c.args.bytes.now (sym is-no-sub-tlv-is ∙ c.if-is_no_sub_tlv.false)).0)

pub slice_bounds-read_content-start : goal.slice_bounds-read_content-start
slice_bounds-read_content-start c =
    let (is-no-sub-tlv-is, _) = c.is_no_sub_tlv.ensures in
    omega (arith, (counted c.args.bytes.now (sym is-no-sub-tlv-is ∙ c.if-is_no_sub_tlv.false)).0)

pub read_content-requires : goal.read_content-requires
read_content-requires c =
    let (is-no-sub-tlv-is, is-no-sub-tlv-bound) = c.is_no_sub_tlv.ensures in
    let if1-left = c.if-is_no_sub_tlv.false in (
      c.requires,
      (content_bounds c.args.bytes.now (sym is-no-sub-tlv-is ∙ if1-left) (is-no-sub-tlv-bound if1-left)).0,
      (content_bounds c.args.bytes.now (sym is-no-sub-tlv-is ∙ if1-left) (is-no-sub-tlv-bound if1-left)).1,
    )

pub returns : goal.returns
returns c =
    let (is-no-sub-tlv-is, _) = c.is_no_sub_tlv.ensures in
    is_sub_tlv (plan_at (words_of c.args.table.now) c.args.s) c.args.bytes.now c.args.words.now
    (sym is-no-sub-tlv-is ∙ c.if-is_no_sub_tlv.false) _ c.read_content.ensures
