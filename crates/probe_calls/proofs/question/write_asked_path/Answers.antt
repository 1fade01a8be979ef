-- `probe_calls::question::write_asked_path` lends a part of a list whose places were set. Assumes nothing.
use mathlib.Core.Path.{ap}
use mathlib.Core.List.{List}
use Prim.Native.Nat.{ℕ}
use lib.ListN.{length-take}
use native.Mathlib.Omega.{arith}
use Rattle.rule.specs.Calls.{path_outcome}
use Rattle.text.proofs.laws.TextLaws.{written_as}
use Rattle.probe_calls.specs.AnswerText.{path_text}
use Rattle.probe_input.specs.Lent.{untouched_place}
use Rattle.probe_input.proofs.laws.LentLaws.{front-set}
use Rattle.probe_calls.proofs.question.write_asked_path.Goals as goal

pub slice_bounds-write_path-end : goal.slice_bounds-write_path-end
slice_bounds-write_path-end c = simp length-take (omega (arith, c.requires))

pub write_path-requires : goal.write_path-requires
write_path-requires c = simp length-take (omega (arith, c.requires))

pub returns : goal.returns
returns c =
    let (written, write-path-bound) = c.write_path.ensures in
    let (places-bound, _) = c.requires in (
      written_as written _
          (ap
          (λ (l : List ℕ).
          path_text (path_outcome c.args.table.now c.args.vid c.args.from c.args.to l))
          (front-set untouched_place _ c.args.places 80 c.set_untouched.ensures places-bound)),
      write-path-bound,
    )
