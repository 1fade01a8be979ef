-- `readers::traffic::traffic_at` gives the record at a word: the first of the part that begins there. Assumes nothing.
use Prim.Native.Nat.{ℕ}
use mathlib.Core.Path.{ap, ◌∙◌}
use mathlib.Core.List.{List}
use Rattle.rule.specs.Records.{traffic_of}
use Rattle.readers.proofs.laws.WordLaws.{words-from}
use Rattle.readers.proofs.traffic.traffic_at.Goals as goal

pub returns : goal.returns
returns c =
    c.traffic_of.ensures ∙ ap (λ (r : List ℕ). traffic_of r) (words-from c.args.word c.args.table.now)
