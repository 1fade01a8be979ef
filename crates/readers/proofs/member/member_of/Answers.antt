-- `readers::member::member_of` gives the record of kind 4: field by field. Assumes nothing.
use native.Mathlib.Omega.{arith}
use Rattle.readers.proofs.laws.ReaderLaws.{same-member}
use Rattle.readers.proofs.member.member_of.Goals as goal

pub returns : goal.returns
returns c = same-member (cc) (cc) (omega arith) (omega arith) (omega arith)
