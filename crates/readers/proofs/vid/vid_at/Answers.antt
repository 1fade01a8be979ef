-- `readers::vid::vid_at` gives the record at a word: the first of the part that begins there. Assumes nothing.
use Prim.Native.Nat.{ℕ}
use mathlib.Core.Path.{ap, ◌∙◌}
use mathlib.Core.List.{List}
use Rattle.rule.specs.Records.{vid_of}
use Rattle.readers.proofs.laws.WordLaws.{words-from}
use Rattle.readers.proofs.vid.vid_at.Goals as goal

pub returns : goal.returns
returns c = c.vid_of.ensures ∙ ap (λ (r : List ℕ). vid_of r) (words-from c.args.word c.args.table.now)
