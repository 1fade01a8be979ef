-- `service_reading::sub_tlv::is_no_sub_tlv` tests one field after the other. Assumes nothing.
use Rattle.service_reading.proofs.laws.ReadingLaws.{true-not-false, too_few, other_type, other_length, by_multiple}
use mathlib.Core.Path.{sym, ◌∙◌}
use native.Mathlib.Omega.{arith}
use Rattle.service_reading.proofs.sub_tlv.is_no_sub_tlv.Goals as goal

pub returns-then-bytes : goal.returns-then-bytes
returns-then-bytes c = (too_few c.args.bytes.now c.if-bytes.true, λ e. absurd (true-not-false e))

pub returns-then-bytes-ne-TYPE : goal.returns-then-bytes-ne-TYPE
returns-then-bytes-ne-TYPE c =
    (other_type c.args.bytes.now c.if-bytes.false c.if-bytes-ne-TYPE.true, λ e. absurd (true-not-false e))

pub returns-then-length-bytes : goal.returns-then-length-bytes
returns-then-length-bytes c =
    let wide_is = c.from-length.ensures in (
      other_length c.args.bytes.now c.if-bytes.false c.if-bytes-ne-TYPE.false (λ e. c.if-length-bytes.true (wide_is ∙ e)),
      λ e. absurd (true-not-false e),
    )

pub returns : goal.returns
returns c =
    let wide_is = c.from-length.ensures in (
      by_multiple c.args.bytes.now c.if-bytes.false c.if-bytes-ne-TYPE.false _ wide_is (sym wide_is ∙ c.if-length-bytes.false),
      λ e. omega (arith, c.if-length-bytes.false, wide_is),
    )
