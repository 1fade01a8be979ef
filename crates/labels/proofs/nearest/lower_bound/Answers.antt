-- `labels::nearest::lower_bound` writes the lesser of the bound and the cost. Assumes nothing.
use Prim.Native.Nat.{ℕ, ◌/◌}
use mathlib.Core.Path.{ap}
use lib.ListN.{set}
use Rattle.labels.proofs.nearest.lower_bound.Goals as goal

pub returns : goal.returns
returns c = ap (λ (k : ℕ). set c.args.bounds.now (c.args.v / 8) k) c.lesser.ensures
