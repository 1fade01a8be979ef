-- `trees::store::line_of` takes the rest of a division. Assumes nothing.
use native.Mathlib.Nat.{mod-lt}
use mathlib.Core.Path.{refl}
use Rattle.trees.proofs.store.line_of.Goals as goal

pub returns : goal.returns
returns c = (refl, mod-lt c.args.slot c.requires)
