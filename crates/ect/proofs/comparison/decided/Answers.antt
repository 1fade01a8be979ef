-- `ect::comparison::decided` answers by the two numbers that differ. Assumes nothing.
use Rattle.ect.proofs.laws.ComparisonLaws.{decided_lower, decided_higher}
use Rattle.ect.proofs.comparison.decided.Goals as goal

pub returns-then-x-y : goal.returns-then-x-y
returns-then-x-y c = decided_lower c.args.x c.args.y c.args.place c.if-x-y.true

pub returns : goal.returns
returns c = decided_higher c.args.x c.args.y c.args.place c.if-x-y.false
