-- `readers::words::word_at` gives the word `n`: it is the first of the part that begins there. Assumes nothing.
use Prim.Native.Nat.{◌*◌}
use mathlib.Core.Path.{◌∙◌}
use Rattle.readers.proofs.laws.WordLaws.{part_from, word_of_part}
use Rattle.readers.proofs.words.word_at.Goals as goal

pub returns : goal.returns
returns c =
    let (first-word-is, first-word-bound) = c.first_word.ensures in (
      first-word-is
          ∙ rw (part_from (4 * c.args.n) c.args.part.now) (word_of_part c.args.n c.args.part.now),
      first-word-bound,
    )
