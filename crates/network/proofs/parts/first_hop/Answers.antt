-- `network::parts::first_hop` reads a word of its part. Assumes nothing.
use native.Mathlib.Omega.{arith}
use mathlib.Core.Path.{sym}
use Rattle.network.specs.Layout.{starts_at}
use Rattle.network.proofs.laws.LayoutLaws.{part_at}
use Rattle.network.proofs.parts.first_hop.Goals as goal

pub returns : goal.returns
returns c = sym (part_at c.args.network.now starts_at 129 c.args.u (omega arith))
