-- `probe_calls::question::write_asked_entries` lends a part of a list whose places were set. Assumes nothing.
use mathlib.Core.Path.{ap}
use mathlib.Core.List.{List}
use Prim.Native.Nat.{ℕ}
use lib.ListN.{length-take}
use native.Mathlib.Omega.{arith}
use Rattle.rule.specs.Calls.{entries_outcome}
use Rattle.text.proofs.laws.TextLaws.{written_as}
use Rattle.probe_calls.specs.AnswerText.{entries_text}
use Rattle.probe_input.specs.Lent.{untouched_place}
use Rattle.probe_input.proofs.laws.LentLaws.{front-set}
use Rattle.probe_calls.proofs.question.write_asked_entries.Goals as goal

pub slice_bounds-write_entries-end : goal.slice_bounds-write_entries-end
slice_bounds-write_entries-end c = simp length-take (omega (arith, c.requires))

pub write_entries-requires : goal.write_entries-requires
write_entries-requires c = simp length-take (omega (arith, c.requires))

pub returns : goal.returns
returns c =
    let (written, write-entries-bound) = c.write_entries.ensures in
    let (places-bound, _) = c.requires in (
      written_as written _
          (ap (λ (l : List ℕ). entries_text (entries_outcome c.args.table.now c.args.bridge l))
          (front-set untouched_place _ c.args.places 14932 c.set_untouched.ensures places-bound)),
      write-entries-bound,
    )
