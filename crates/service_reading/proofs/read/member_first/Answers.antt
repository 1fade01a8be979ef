-- `service_reading::read::member_first` moves T and R to their places in a record. Assumes nothing.
use Rattle.service_reading.proofs.laws.ReadingLaws.{first_is}
use native.Mathlib.Omega.{arith}
use Rattle.service_reading.proofs.read.member_first.Goals as goal

pub returns : goal.returns
returns c = first_is _ _ (omega (arith, c.ranges)) c.isid_of.ensures
