-- `readers::traffic::traffic_of` gives the record of kind 5: field by field. Assumes nothing.
use native.Mathlib.Omega.{arith}
use Rattle.readers.proofs.laws.ReaderLaws.{same-traffic}
use Rattle.readers.proofs.traffic.traffic_of.Goals as goal

pub returns : goal.returns
returns c = same-traffic (omega arith) (omega arith) (omega arith) (omega arith)
