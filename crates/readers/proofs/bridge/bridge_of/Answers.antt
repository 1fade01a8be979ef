-- `readers::bridge::bridge_of` gives the record of kind 1: field by field. Assumes nothing.
use native.Mathlib.Omega.{arith}
use Rattle.readers.proofs.laws.ReaderLaws.{same-bridge}
use Rattle.readers.proofs.bridge.bridge_of.Goals as goal

pub returns : goal.returns
returns c = same-bridge (cc) (omega arith) (omega arith)
