-- What stands before the services of a sub-TLV (02, A2). Assumes nothing.
use Rattle.std.specs.Prelude.{ℕ, ◌+◌, ◌*◌, ◌/◌, ◌%◌, ◌^◌, List, [], ◌∷◌, ◌++◌}
use Rattle.rule.specs.Words.{bytes_of}

-- Type and length of a sub-TLV with so many services.
abbrev pub start_of : ℕ → List ℕ
start_of services = 3 ∷ (8 + 4 * services) ∷ []

-- Then B-MAC, reserved bits and Base VID.
abbrev pub head_of : ℕ → ℕ → ℕ → List ℕ
head_of b_mac vid services = start_of services ++ (bytes_of (b_mac / 2 ^ 16) ++ bytes_of (b_mac % 2 ^ 16 * 2 ^ 16 + vid))
