-- `table::records::vid` reads the record where it stands. Assumes nothing.
use native.Mathlib.Omega.{arith}
use Prim.Native.Nat.{ℕ, ◌+◌, ◌*◌}
use mathlib.Core.Path.{◌≡◌, ap, ◌∙◌}
use lib.ListN.{drop}
use Rattle.rule.specs.Words.{words_of}
use Rattle.rule.specs.Records.{vid_of}
use Rattle.table.specs.Positions.{vids_from}
use Rattle.table.proofs.records.vid.Goals as goal

pub returns : goal.returns
returns c =
    let e : c.vids_from.result + c.args.k ≡ vids_from c.args.s + 1 * c.args.k =
    omega (arith, c.vids_from.ensures) in
    c.vid_at.ensures ∙ ap (λ (w : ℕ). vid_of (drop w (words_of c.args.table.now))) e
