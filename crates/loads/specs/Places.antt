-- The loads of all pairs of bridges in one list, 64 rows of 64 places: that of a pair stands in the row of its lower bridge, at the place
-- of its higher. Assumes nothing.
use Rattle.std.specs.Prelude.{ℕ, ◌+◌, ◌*◌, ◌<◌, min, max, ◌≡◌, List, cond, get_or, set}
use Rattle.graph.specs.Pairs.{Pair, takes}

-- A pair that has a place.
pub record Placed (q : Pair) : Type 0 where
  pub rises : q.lower < q.higher
  pub inside : q.higher < 64

abbrev pub load_at : List ℕ → Pair → ℕ
load_at loads q = get_or loads (64 * q.lower + q.higher) 0

-- The place of the pair that a hop belongs to, "either way" (02, A5).
abbrev pub hop_place : ℕ → ℕ → ℕ
hop_place x y = 64 * min x y + max x y

-- It has an amount more.
abbrev pub hop_added : List ℕ → ℕ → ℕ → ℕ → List ℕ
hop_added loads x y amount = set loads (hop_place x y) (get_or loads (hop_place x y) 0 + amount)

-- The first `n` places have no load.
pub record NoLoads (loads : List ℕ) (n : ℕ) : Type 0 where
  pub none : (i : ℕ) → i < n → get_or loads i 0 ≡ 0

-- Every pair can take the amount.
pub record Room (loads : List ℕ) (amount : ℕ) : Type 0 where
  pub fits : (q : Pair) → Placed q → load_at loads q + amount < 4294967296

-- Exactly the pairs whose hop the path takes have the amount more.
pub record PathAdded (before path : List ℕ) (amount : ℕ) (after : List ℕ) : Type 0 where
  pub each : (q : Pair) → Placed q → load_at after q ≡ load_at before q + cond (takes q path) amount 0
