-- `readers::words::write_word` writes four bytes one after the other. Assumes nothing.
use Rattle.lists.proofs.laws.AppendingLaws.{four-words}
use lib.ListN.{length-set}
use native.Mathlib.Omega.{arith}
use Rattle.readers.proofs.words.write_word.Goals as goal

pub bounds-bytes-at-2 : goal.bounds-bytes-at-2
bounds-bytes-at-2 c = simp length-set (omega (arith, c.requires))

pub bounds-bytes-at-3 : goal.bounds-bytes-at-3
bounds-bytes-at-3 c = simp length-set (omega (arith, c.requires))

pub bounds-bytes-at-4 : goal.bounds-bytes-at-4
bounds-bytes-at-4 c = simp length-set (omega (arith, c.requires))

pub returns : goal.returns
returns c = four-words _ _ _ _ _ _ c.requires
