-- The services of a table's member records, record by record (02, A2). Assumes nothing.
use Rattle.std.specs.Prelude.{ℕ, List, [], ◌∷◌, cond, ◌&&◌, eqb}
use Rattle.rule.specs.Records.{Member}
use Rattle.rule.specs.Services.{service_of}
use Rattle.table.specs.declared.shape.Shape.{Shape}
use Rattle.table.specs.Numbered.{member_number}

-- The service of a member record where it is of the bridge and the VID.
abbrev pub service_if : ℕ → ℕ → Member → List ℕ
service_if b vid m = cond (eqb m.bridge b && eqb m.vid vid) (service_of m ∷ []) []

unfoldable pub service_at : List ℕ → Shape → ℕ → ℕ → ℕ → List ℕ
service_at ws s b vid j = service_if b vid (member_number ws s j)
