-- `probe_services::question::write_asked_read` lends a part of a list whose places were set. Assumes nothing.
use native.Mathlib.Omega.{arith}
use Prim.Native.Nat.{ℕ}
use mathlib.Core.Path.{ap}
use mathlib.Core.List.{List}
use lib.ListN.{length-take}
use Rattle.rule.specs.Services.{read_services_outcome}
use Rattle.text.proofs.laws.TextLaws.{written_as}
use Rattle.probe_input.specs.Lent.{untouched_place}
use Rattle.probe_input.proofs.laws.LentLaws.{front-set}
use Rattle.probe_services.specs.ServiceText.{read_word, line_text}
use Rattle.probe_services.proofs.question.write_asked_read.Goals as goal

pub slice_bounds-write_read-end : goal.slice_bounds-write_read-end
slice_bounds-write_read-end c = simp length-take (omega (arith, c.requires))

pub write_read-requires : goal.write_read-requires
write_read-requires c = simp length-take (omega (arith, c.requires))

pub returns : goal.returns
returns c =
    let (written, write-read-bound) = c.write_read.ensures in
    let (places-bound, _) = c.requires in (
      written_as written _
          (ap (λ (l : List ℕ). line_text read_word (read_services_outcome c.args.table.now c.args.bytes.now l))
          (front-set untouched_place _ c.args.places 160 c.set_untouched.ensures places-bound)),
      write-read-bound,
    )
