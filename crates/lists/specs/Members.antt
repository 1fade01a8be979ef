-- Being in a list, relations between its members, sums over it, how often a number is in it. Their laws stand in laws/.
-- Assumes nothing.
use Rattle.std.specs.Prelude.{ℕ, ◌+◌, ◌≡◌, List, [], ◌∷◌, ◌⊎◌, cond, eqb}

module _ {A : Type 0} where
  -- `a` is in the list.
  abbrev pub In : A → List A → Type 0
  In a [] = ⊥
  In a (x ∷ xs) = (a ≡ x) ⊎ In a xs

  -- The relation holds between each of the list and every later one.
  abbrev pub EveryTwo : (A → A → Type 0) → List A → Type 0
  EveryTwo R [] = Unit {0}
  EveryTwo R (x ∷ xs) = ((y : A) → In y xs → R x y) × EveryTwo R xs

  -- The sum of what `f` gives for each of the list.
  abbrev pub sum_over : (A → ℕ) → List A → ℕ
  sum_over f [] = 0
  sum_over f (x ∷ xs) = f x + sum_over f xs

-- How often `x` is in the list.
unfoldable pub occurrences : ℕ → List ℕ → ℕ
occurrences x [] = 0
occurrences x (y ∷ ys) = cond (eqb x y) 1 0 + occurrences x ys
