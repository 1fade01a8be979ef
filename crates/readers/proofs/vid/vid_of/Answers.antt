-- `readers::vid::vid_of` gives the record of kind 3: field by field. Assumes nothing.
use native.Mathlib.Omega.{arith}
use Rattle.readers.proofs.laws.ReaderLaws.{same-vid}
use Rattle.readers.proofs.vid.vid_of.Goals as goal

pub returns : goal.returns
returns c = same-vid (omega arith) (omega arith)
