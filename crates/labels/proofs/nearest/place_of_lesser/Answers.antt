-- `labels::nearest::place_of_lesser` tests the cost. Assumes nothing.
use mathlib.Core.Path.{sym, ◌∙◌}
use Rattle.labels.proofs.nearest.place_of_lesser.Goals as goal

pub returns-then-is_below : goal.returns-then-is_below
returns-then-is_below c = simp (sym c.is_below.ensures ∙ c.if-is_below.true)

pub returns-else-is_below : goal.returns-else-is_below
returns-else-is_below c = simp (sym c.is_below.ensures ∙ c.if-is_below.false)
