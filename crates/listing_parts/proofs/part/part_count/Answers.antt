-- `listing_parts::part::part_count` counts the parts: few enough for every sum and product. Assumes nothing.
use native.Mathlib.Omega.{arith}
use Rattle.listing_parts.proofs.laws.TableParts.{few_pairs, without_report, with_report}
use Rattle.listing_parts.proofs.part.part_count.Goals as goal

pub overflow_mul-before_report : goal.overflow_mul-before_report
overflow_mul-before_report c =
    let (bridges-bound, vids-bound) = c.requires in
    omega (arith, few_pairs c.args.s.vids c.args.s.bridges vids-bound bridges-bound)

pub overflow_add-before_report : goal.overflow_add-before_report
overflow_add-before_report c =
    let (bridges-bound, vids-bound) = c.requires in
    omega (arith, few_pairs c.args.s.vids c.args.s.bridges vids-bound bridges-bound)

pub overflow_add-before_report-2 : goal.overflow_add-before_report-2
overflow_add-before_report-2 c =
    let (bridges-bound, vids-bound) = c.requires in
    omega (arith, few_pairs c.args.s.vids c.args.s.bridges vids-bound bridges-bound, bridges-bound)

pub returns-then-s-eq0 : goal.returns-then-s-eq0
returns-then-s-eq0 c = without_report c.args.s c.if-s-eq0.true

pub overflow_add-result : goal.overflow_add-result
overflow_add-result c =
    let (bridges-bound, vids-bound) = c.requires in
    omega (arith, few_pairs c.args.s.vids c.args.s.bridges vids-bound bridges-bound, bridges-bound)

pub returns : goal.returns
returns c = with_report c.args.s c.if-s-eq0.false
