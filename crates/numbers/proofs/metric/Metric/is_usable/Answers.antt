-- `numbers::metric::Metric::is_usable`: at most 16,777,214 is below 16,777,215. Assumes nothing.
use mathlib.Core.Path.{sym}
use lib.Dec.{leb-suc-suc}
use Rattle.numbers.proofs.metric.Metric.is_usable.Goals as goal

pub returns : goal.returns
returns c = sym (leb-suc-suc c.args.self.0 16777214)
