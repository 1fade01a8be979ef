-- `network::parts::neighbour` reads a word of its part. Assumes nothing.
use native.Mathlib.Omega.{arith}
use mathlib.Core.Path.{sym}
use Rattle.network.specs.Layout.{neighbours_at}
use Rattle.network.proofs.laws.LayoutLaws.{part_at}
use Rattle.network.proofs.parts.neighbour.Goals as goal

pub returns : goal.returns
returns c = sym (part_at c.args.network.now neighbours_at 512 c.args.i (omega arith))
