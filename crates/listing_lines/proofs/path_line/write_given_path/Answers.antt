-- `listing_lines::path_line::write_given_path` writes word, five numbers, bridges and newline one after the other. Assumes nothing.
use mathlib.Core.List.{[], ◌∷◌}
use Rattle.listing_lines.proofs.laws.PathLineLaws.{path-line-written}
use Rattle.listing_lines.proofs.path_line.write_given_path.Goals as goal

pub returns : goal.returns
returns c =
    let (bridges-length, out-room) = c.requires in
    let args = c.args in
    path-line-written (args.vid ∷ args.from ∷ args.to ∷ args.cost.0 ∷ args.hops.0 ∷ []) args.bridges.now
    c.write_word-after_word.ensures c.write_fields-after_numbers.ensures c.write_fields-after_bridges.ensures
    c.write_byte.ensures bridges-length out-room
