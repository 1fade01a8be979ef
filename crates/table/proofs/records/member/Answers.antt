-- `table::records::member` reads the record where it stands. Assumes nothing.
use Prim.Native.Nat.{ℕ, ◌+◌, ◌*◌}
use mathlib.Core.Path.{ap, ◌∙◌}
use lib.ListN.{drop}
use Rattle.rule.specs.Words.{words_of}
use Rattle.rule.specs.Records.{member_of}
use Rattle.table.proofs.records.member.Goals as goal

pub returns : goal.returns
returns c =
    c.member_at.ensures
    ∙ ap (λ (w : ℕ). member_of (drop (w + 2 * c.args.j) (words_of c.args.table.now)))
    c.members_from.ensures
