-- The nearest bridge that waits. Bridges stand in eight groups of eight by number, and each group has a bound.
-- Assumes nothing.
use Rattle.std.specs.Prelude.{ℕ, ◌+◌, ◌/◌, ◌≤◌, ◌<◌, min, ◌≡◌, List, length, get_or, set}
use Rattle.labels.specs.Labels.{label_at}

-- The place holds a least number among the `count` numbers from `from` on.
pub record LeastPlace (numbers : List ℕ) (from count place : ℕ) : Type 0 where
  pub after : from ≤ place
  pub before : place < from + count
  pub none_less : (x : ℕ) → from ≤ x → x < from + count → get_or numbers place 0 ≤ get_or numbers x 0

-- No bridge waits at a lower cost than the bound of its group. A bound need not be reached.
pub record BoundsOf (labels bounds : List ℕ) : Type 0 where
  pub one_a_group : length bounds ≡ 8
  pub none_below : (u : ℕ) → u < 64 → get_or bounds (u / 8) 0 ≤ (label_at labels u).waits

-- The bound of the group of the bridge `v` is at most this cost now.
abbrev pub lowered_bounds : List ℕ → ℕ → ℕ → List ℕ
lowered_bounds bounds v cost = set bounds (v / 8) (min (get_or bounds (v / 8) 0) cost)

-- No bridge waits at a lower cost than the bridge `u`.
pub record Nearest (labels : List ℕ) (u : ℕ) : Type 0 where
  pub inside : u < 64
  pub none_nearer : (x : ℕ) → x < 64 → (label_at labels u).waits ≤ (label_at labels x).waits
