-- `table::records::bridge` reads the record where it stands. Assumes nothing.
use native.Mathlib.Omega.{arith}
use Prim.Native.Nat.{ℕ, ◌+◌, ◌*◌}
use mathlib.Core.Path.{◌≡◌, ap, ◌∙◌}
use lib.ListN.{drop}
use Rattle.rule.specs.Words.{words_of}
use Rattle.rule.specs.Records.{bridge_of}
use Rattle.table.proofs.records.bridge.Goals as goal

pub returns : goal.returns
returns c =
    let e : 3 * c.args.d ≡ 0 + 3 * c.args.d = omega arith in
    c.bridge_at.ensures ∙ ap (λ (w : ℕ). bridge_of (drop w (words_of c.args.table.now))) e
