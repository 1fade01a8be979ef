-- What a lent list holds before a call: in each place a number by which it shows what the call leaves alone. A house form:
-- docs/DECISIONS.md. Assumes nothing.
use Rattle.std.specs.Prelude.{ℕ, ◌+◌, ◌-◌, ◌%◌, List, map}
use Rattle.lists.specs.Lists.{rising}

-- Of words: numbers that no call gives.
abbrev pub untouched_place : ℕ → ℕ
untouched_place place = 4000000000 + place

abbrev pub untouched : ℕ → List ℕ
untouched places = map untouched_place (rising 0 places)

-- Of bytes.
abbrev pub untouched_byte : ℕ → ℕ
untouched_byte place = 255 - place % 256

abbrev pub untouched_bytes : ℕ → List ℕ
untouched_bytes places = map untouched_byte (rising 0 places)
