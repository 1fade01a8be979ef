-- `readers::words::first_word` gives the first word: by its four bytes. Assumes nothing.
use native.Mathlib.Omega.{arith}
use Rattle.readers.proofs.laws.WordLaws.{first_word}
use Rattle.readers.proofs.words.first_word.Goals as goal

pub returns : goal.returns
returns c = omega (arith, first_word c.args.part.now c.requires)
