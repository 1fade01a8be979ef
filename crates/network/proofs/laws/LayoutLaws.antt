-- What is read of a part of a list is what the list has there. Assumes nothing.
use Rattle.std.specs.Prelude.{ℕ, ◌+◌, ◌≤◌, ◌<◌, ◌≡◌, List, length, get_or, take, drop}
use Rattle.std.proofs.Common.{arith, ◌∙◌, length-drop, length-take-le, get_or-take, get_or-drop}

pub part_at : (net : List ℕ) (base width i : ℕ) → i < width → get_or (take width (drop base net)) i 0 ≡ get_or net (base + i) 0
part_at net base width i l = get_or-take width (drop base net) i 0 l ∙ get_or-drop base net i 0

pub part_length : (net : List ℕ) (base width : ℕ) → base + width ≤ length net → length (take width (drop base net)) ≡ width
part_length net base width l = length-take-le width (drop base net) (omega (arith, length-drop base net))
