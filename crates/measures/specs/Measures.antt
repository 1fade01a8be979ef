-- What stands for "no path" among costs, which are numbers of 32 bits.
-- Assumes nothing.
use Rattle.std.specs.Prelude.{ℕ}

-- The greatest number of 32 bits. No path costs so much: 63 hops at the greatest usable metric come to less.
abbrev pub no_path_cost : ℕ
no_path_cost = 4294967295
