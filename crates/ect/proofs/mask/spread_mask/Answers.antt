-- `ect::mask::spread_mask` puts the mask into each of eight bytes. Assumes nothing.
use Rattle.ect.specs.Masks.{spread}
use Rattle.std.proofs.Common.{rules}
use Rattle.ect.proofs.mask.spread_mask.Goals as goal

pub returns : goal.returns
unfolding spread
returns c = search rules
