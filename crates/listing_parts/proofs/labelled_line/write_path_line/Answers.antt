-- `listing_parts::labelled_line::write_path_line` writes the line of what the labels answer: the list holds every path. Assumes nothing.
use Prim.Native.Nat.{ℕ}
use mathlib.Core.Path.{ap}
use lib.ListN.{replicate, length-replicate}
use Rattle.text.proofs.laws.TextLaws.{written_as}
use Rattle.listing_lines.specs.Listing.{path_line}
use Rattle.listing_parts.proofs.laws.LabelledLineLaws.{labels-answer}
use Rattle.std.proofs.Common.{rules}
use Rattle.listing_parts.proofs.labelled_line.write_path_line.Goals as goal

pub write_path_answer-requires : goal.write_path_answer-requires
write_path_answer-requires c =
    let (_, followable, out-room) = c.requires in
    let answer =
    labels-answer c.args.labels.now c.args.from followable (replicate 64 0) _ (length-replicate {A = ℕ} 64 0) _
    c.labelled_path-answer.ensures in
    (answer.0, search rules, out-room)

pub returns : goal.returns
returns c =
    let (_, followable, _) = c.requires in
    let (written, write-path-answer-bound) = c.write_path_answer.ensures in
    let answer =
    labels-answer c.args.labels.now c.args.from followable (replicate 64 0) _ (length-replicate {A = ℕ} 64 0) _
    c.labelled_path-answer.ensures in (
      written_as written _ (ap (path_line c.args.vid c.args.from c.args.to) answer.1),
      write-path-answer-bound,
    )
