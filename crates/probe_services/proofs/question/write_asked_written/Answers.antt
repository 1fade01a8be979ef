-- `probe_services::question::write_asked_written` lends a part of a list whose places were set. Assumes nothing.
use native.Mathlib.Omega.{arith}
use Prim.Native.Nat.{ℕ}
use mathlib.Core.Path.{ap}
use mathlib.Core.List.{List}
use lib.ListN.{length-take}
use Rattle.rule.specs.Services.{write_services_outcome}
use Rattle.text.proofs.laws.TextLaws.{written_as}
use Rattle.probe_input.specs.Lent.{untouched_byte}
use Rattle.probe_input.proofs.laws.LentLaws.{front-set}
use Rattle.probe_services.specs.ServiceText.{written_word, line_text}
use Rattle.probe_services.proofs.question.write_asked_written.Goals as goal

pub slice_bounds-write_written-end : goal.slice_bounds-write_written-end
slice_bounds-write_written-end c = simp length-take (omega (arith, c.requires))

pub write_written-requires : goal.write_written-requires
write_written-requires c = simp length-take (omega (arith, c.requires))

pub returns : goal.returns
returns c =
    let (written, write-written-bound) = c.write_written.ensures in
    let (places-bound, _) = c.requires in (
      written_as written _
          (ap
          (λ (l : List ℕ).
          line_text written_word (write_services_outcome c.args.table.now c.args.bridge c.args.vid l))
          (front-set untouched_byte _ c.args.places 320 c.set_untouched_bytes.ensures places-bound)),
      write-written-bound,
    )
