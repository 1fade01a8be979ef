-- `table::records::traffic` reads the record where it stands. Assumes nothing.
use Prim.Native.Nat.{ℕ, ◌+◌, ◌*◌}
use mathlib.Core.Path.{ap, ◌∙◌}
use lib.ListN.{drop}
use Rattle.rule.specs.Words.{words_of}
use Rattle.rule.specs.Records.{traffic_of}
use Rattle.table.proofs.records.traffic.Goals as goal

pub returns : goal.returns
returns c =
    c.traffic_at.ensures
    ∙ ap (λ (w : ℕ). traffic_of (drop (w + 2 * c.args.i) (words_of c.args.table.now)))
    c.traffic_from.ensures
