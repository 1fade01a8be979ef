-- Small lists compared (02, A4): empty ones, equal ones, and lists whose first, middle or last place differs, the numbers unsigned.
-- One collection, and one proof over it. Assumes nothing.
use Rattle.std.specs.Prelude.{ℕ, ◌≡◌, refl, List, [], ◌∷◌}
use Rattle.graph.specs.Order.{is_lower}
use Rattle.ect.specs.Comparisons.{order_of, places_looked_at, comparison_of}
use Rattle.ect.specs.declared.comparison.Order.{Order}
use Rattle.ect.specs.declared.comparison.Comparison.{Comparison}

abbrev answer : Order → ℕ → Comparison
answer order places = record { order = order; places = places }

abbrev answered : List Comparison
answered =
    comparison_of [] []
    ∷ comparison_of (5 ∷ 6 ∷ 9 ∷ []) (5 ∷ 6 ∷ 9 ∷ [])
    ∷ comparison_of (4 ∷ 9 ∷ 9 ∷ []) (5 ∷ 6 ∷ 7 ∷ [])
    ∷ comparison_of (5 ∷ 6 ∷ 9 ∷ []) (5 ∷ 7 ∷ 8 ∷ [])
    ∷ comparison_of (5 ∷ 7 ∷ 8 ∷ []) (5 ∷ 6 ∷ 9 ∷ [])
    ∷ comparison_of (5 ∷ 6 ∷ 9 ∷ []) (5 ∷ 6 ∷ 8 ∷ [])
    ∷ comparison_of (0x8000000000000000 ∷ []) (1 ∷ [])
    ∷ []

abbrev expected : List Comparison
expected =
    answer Order.Equal 0
    ∷ answer Order.Equal 3
    ∷ answer Order.Lower 1
    ∷ answer Order.Lower 2
    ∷ answer Order.Higher 2
    ∷ answer Order.Higher 3
    ∷ answer Order.Higher 1
    ∷ []

pub comparisons_hold : answered ≡ expected
unfolding comparison_of order_of places_looked_at is_lower
comparisons_hold = refl
