-- `probe_edits::take_words` lends parts that lie within their arrays. Assumes nothing.
use lib.ListN.{length-take}
use native.Mathlib.Omega.{arith}
use Rattle.probe_edits.proofs.take_words.Goals as goal

pub slice_bounds-take_steps-end : goal.slice_bounds-take_steps-end
slice_bounds-take_steps-end c = simp length-take (omega (arith, c.if-of_costs-gt-MOST_PLACES.false, c.set_untouched.auto))

pub slice_bounds-take_steps-end-2 : goal.slice_bounds-take_steps-end-2
slice_bounds-take_steps-end-2 c =
    simp length-take (omega (arith, c.if-of_hops-gt-MOST_PLACES.false, c.set_untouched-2.auto))

pub slice_bounds-take_steps-end-3 : goal.slice_bounds-take_steps-end-3
slice_bounds-take_steps-end-3 c =
    simp length-take (omega (arith, c.if-of_lasts-gt-MOST_PLACES.false, c.set_untouched-3.auto))

pub take_steps-requires : goal.take_steps-requires
take_steps-requires c = (
  omega (arith, c.requires),
  simp length-take (omega (arith, c.if-of_costs-gt-MOST_PLACES.false)),
  simp length-take (omega (arith, c.if-of_hops-gt-MOST_PLACES.false)),
  simp length-take (omega (arith, c.if-of_lasts-gt-MOST_PLACES.false)),
)
