-- `listing_lines::path_line::write_path_answer` writes the line of the answer: the list has the bridges of a path. Assumes nothing.
use native.Mathlib.Omega.{arith}
use mathlib.Core.Path.{sym, ap}
use Prim.Native.Nat.{◌≤◌}
use lib.ListN.{length, length-take}
use Rattle.rule.specs.Outcome.{Outcome}
use Rattle.rule.specs.Answers.{CostAndHops, path_values}
use Rattle.text.proofs.laws.TextLaws.{written_as}
use Rattle.listing_lines.specs.Listing.{path_line}
use Rattle.listing_lines.specs.PathAnswers.{given_path}
use Rattle.listing_lines.proofs.laws.PathLineLaws.{given-fits, given-bridges}
use Rattle.listing_lines.proofs.path_line.write_path_answer.Goals as goal

pub slice_bounds-write_given_path-end : goal.slice_bounds-write_given_path-end
slice_bounds-write_given_path-end c =
    let bridges-fit : c.bridges-count.result ≤ length c.args.list.now =
    let (list-room, _, _) = c.requires in
    given-fits (path_values c.args.answer) c.args.list.now (ap path_values c.in-Given.is)
    c.bridges-count.ensures list-room in simp length-take (omega (arith, bridges-fit))

pub write_given_path-requires : goal.write_given_path-requires
write_given_path-requires c =
    let bridges-fit : c.bridges-count.result ≤ length c.args.list.now =
    let (list-room, _, _) = c.requires in
    given-fits (path_values c.args.answer) c.args.list.now (ap path_values c.in-Given.is)
    c.bridges-count.ensures list-room in simp length-take (omega (arith, bridges-fit, c.requires))

pub returns-in-Given : goal.returns-in-Given
returns-in-Given c =
    let args = c.args in
    let (written, write-given-path-bound) = c.write_given_path.ensures in (
      written_as written _
          (ap (path_line args.vid args.from args.to)
          (given-bridges _ args.list.now (ap path_values c.in-Given.is) c.bridges-count.ensures)),
      write-given-path-bound,
    )

pub returns-in-Refused : goal.returns-in-Refused
returns-in-Refused c =
    let args = c.args in
    let (written, write-none-bound) = c.write_none.ensures in (
      written_as written _
          (ap (λ (o : Outcome CostAndHops). path_line args.vid args.from args.to (given_path o args.list.now))
          (sym (ap path_values c.in-Refused.is))),
      omega (arith, write-none-bound),
    )
