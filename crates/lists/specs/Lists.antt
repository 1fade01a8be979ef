-- The few functions of lists that the definitions use. None has a name of the toolchain's library: `filter` there takes decisions, `any` the list
-- first, and `insert` makes no list longer that has the element. Their laws stand in laws/.
-- Assumes nothing.
use Rattle.std.specs.Prelude.{ℕ, zero, suc, ◌+◌, List, [], ◌∷◌, ◌++◌, Bool, true, false, cond, ◌||◌, length, take, drop}
use Rattle.std.proofs.Math.Option.{Option, none, some}

-- The `n` numbers from `k` upward.
unfoldable pub rising : ℕ → ℕ → List ℕ
rising k zero = []
rising k (suc n) = k ∷ rising (suc k) n

module _ {A : Type 0} where
  -- `x` before the list where the test passed.
  abbrev pub cons_if : Bool → A → List A → List A
  cons_if true x xs = x ∷ xs
  cons_if false x xs = xs

  -- Those that pass the test, in their order.
  unfoldable pub selected : (A → Bool) → List A → List A
  selected test [] = []
  selected test (x ∷ xs) = cons_if (test x) x (selected test xs)

  -- Whether one passes the test.
  unfoldable pub any_passes : (A → Bool) → List A → Bool
  any_passes test [] = false
  any_passes test (x ∷ xs) = test x || any_passes test xs

  -- The place of the first that passes the test, counted from 0; as many as there are where none passes.
  unfoldable pub first_passing : (A → Bool) → List A → ℕ
  first_passing test [] = 0
  first_passing test (x ∷ xs) = cond (test x) 0 (suc (first_passing test xs))

  -- `x`, or the one found already where the test puts it before `x`.
  abbrev pub lower_of : (A → A → Bool) → A → Option A → Option A
  lower_of before x none = some x
  lower_of before x (some y) = cond (before y x) (some y) (some x)

  -- The one that the test puts before every other, or none of an empty list. Of two that it puts neither way the earlier is taken.
  unfoldable pub lowest_by : (A → A → Bool) → List A → Option A
  lowest_by before [] = none
  lowest_by before (x ∷ xs) = lower_of before x (lowest_by before xs)

  -- `part` in the place of what stood from `at` on: what a function that writes a part leaves.
  abbrev pub spliced : List A → ℕ → List A → List A
  spliced xs at part = take at xs ++ (part ++ drop (at + length part) xs)
