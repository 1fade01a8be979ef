-- `table::records::half_link` reads the record where it stands. Assumes nothing.
use Prim.Native.Nat.{ℕ, ◌+◌, ◌*◌}
use mathlib.Core.Path.{ap, ◌∙◌}
use lib.ListN.{drop}
use Rattle.rule.specs.Words.{words_of}
use Rattle.rule.specs.Records.{half_link_of}
use Rattle.table.proofs.records.half_link.Goals as goal

pub returns : goal.returns
returns c =
    c.half_link_at.ensures
    ∙ ap (λ (w : ℕ). half_link_of (drop (w + 3 * c.args.i) (words_of c.args.table.now)))
    c.half_links_from.ensures
