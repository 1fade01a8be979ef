-- `readers::half_link::half_link_at` gives the record at a word: the first of the part that begins there. Assumes nothing.
use Prim.Native.Nat.{ℕ}
use mathlib.Core.Path.{ap, ◌∙◌}
use mathlib.Core.List.{List}
use Rattle.rule.specs.Records.{half_link_of}
use Rattle.readers.proofs.laws.WordLaws.{words-from}
use Rattle.readers.proofs.half_link.half_link_at.Goals as goal

pub returns : goal.returns
returns c =
    c.half_link_of.ensures ∙ ap (λ (r : List ℕ). half_link_of r) (words-from c.args.word c.args.table.now)
