-- Two lists compared (02, A4): "the order and the number of places looked at", and what the request says of that answer.
-- Assumes nothing.
use Rattle.std.specs.Prelude.{ℕ, suc, ◌-◌, ◌≤◌, ◌<◌, ◌≡◌, List, [], ◌∷◌, Bool, true, false, cond, ltb, eqb, length, get_or}
use Rattle.graph.specs.Order.{Lower, is_lower}
use Rattle.ect.specs.declared.comparison.Order.{Order}
use Rattle.ect.specs.declared.comparison.Comparison.{Comparison}

-- Whether it is the order of a first list that is lower.
abbrev pub says_lower : Order → Bool
says_lower Order.Lower = true
says_lower Order.Equal = false
says_lower Order.Higher = false

-- The order of `xs` and `ys`, by the order of PATHIDs (01, "The chosen path").
unfoldable pub order_of : List ℕ → List ℕ → Order
order_of xs ys = cond (is_lower xs ys) Order.Lower (cond (is_lower ys xs) Order.Higher Order.Equal)

-- "stop at the first place that differs": a place that agrees counts one, and the rest is looked at; one that differs is the last.
unfoldable pub places_looked_at : List ℕ → List ℕ → ℕ
places_looked_at [] ys = 0
places_looked_at (x ∷ xs) [] = 0
places_looked_at (x ∷ xs) (y ∷ ys) = cond (eqb x y) (suc (places_looked_at xs ys)) 1

-- "It answers with the order and the number of places looked at".
unfoldable pub comparison_of : List ℕ → List ℕ → Comparison
comparison_of xs ys = record { order = order_of xs ys; places = places_looked_at xs ys }

-- The answer where the numbers `x` and `y` at a place, counted from 1, are the first that differ.
abbrev pub decided_by : ℕ → ℕ → ℕ → Comparison
decided_by x y place = record { order = cond (ltb x y) Order.Lower Order.Higher; places = place }

-- What an order says of two lists.
abbrev pub Holds : Order → List ℕ → List ℕ → Type 0
Holds Order.Lower xs ys = Lower xs ys
Holds Order.Equal xs ys = xs ≡ ys
Holds Order.Higher xs ys = Lower ys xs

-- The number at a place, counted from 1.
abbrev pub number_at : List ℕ → ℕ → ℕ
number_at xs place = get_or xs (place - 1) 0

-- "that place counted from 1": it is the first at which the lists differ.
pub record FirstDifference (xs ys : List ℕ) (place : ℕ) : Type 0 where
  pub from_1 : 1 ≤ place
  pub within : place ≤ length xs
  pub agree_before : (n : ℕ) → 1 ≤ n → n < place → number_at xs n ≡ number_at ys n
  pub differ : number_at xs place ≡ number_at ys place → ⊥

-- What the request says of the answer to two lists of equal length: the order is theirs, and no other is; the places are those up to
-- the first difference, "or the length where the lists are equal".
pub record AnswersAsAsked (xs ys : List ℕ) (answer : Comparison) : Type 0 where
  pub order_holds : Holds answer.order xs ys
  pub no_other_holds : (other : Order) → Holds other xs ys → other ≡ answer.order
  pub stops : (xs ≡ ys → ⊥) → FirstDifference xs ys answer.places
  pub passes_all : xs ≡ ys → answer.places ≡ length xs

-- Any two lists of equal length are compared as asked.
abbrev pub ComparedAsAsked : Type 0
ComparedAsAsked = (xs ys : List ℕ) → length xs ≡ length ys → AnswersAsAsked xs ys (comparison_of xs ys)
