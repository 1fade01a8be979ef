-- Two lists of equal length compared place by place: up to the place reached they agree, and the rest decides.
-- Assumes nothing.
use Rattle.std.specs.Prelude.{ℕ, suc, ◌+◌, ◌≤◌, ◌<◌, ◌≡◌, refl, List, [], ◌∷◌, Bool, true, false, ◌⊎◌, ltb, length, get_or, drop}
use Rattle.std.proofs.Common.{arith, inl, inr, drop_of_length-le, lt-ltb, le-ltb, eq-eqb, ne_eqb}
use Rattle.std.proofs.Math.Path.{sym}
use Rattle.std.proofs.Math.Bool.{cond}
use Rattle.graph.specs.Order.{is_lower}
use Rattle.graph.proofs.laws.OrderLaws.{lower_by_first, lower_by_rest}
use Rattle.lists.proofs.laws.NumberLaws.{compared}
use Rattle.lists.proofs.laws.MemberLaws.{drop-next}
use Rattle.ect.specs.Comparisons.{says_lower, order_of, places_looked_at, comparison_of, decided_by}
use Rattle.ect.specs.declared.comparison.Order.{Order}

-- Nothing is looked at in empty lists.
pub order_of_none : order_of [] [] ≡ Order.Equal
unfolding order_of is_lower
order_of_none = refl

pub no_places : places_looked_at [] [] ≡ 0
unfolding places_looked_at
no_places = refl

-- The order says what the test of document 01 says.
pub lower_by_order : (xs ys : List ℕ) → says_lower (comparison_of xs ys).order ≡ is_lower xs ys
unfolding comparison_of order_of
lower_by_order xs ys = go (is_lower xs ys) (is_lower ys xs)
  where
    go : (b c : Bool) → says_lower (cond b Order.Lower (cond c Order.Higher Order.Equal)) ≡ b
    go true c = refl
    go false true = refl
    go false false = refl

-- Two numbers that differ decide by the lower.
module _ (x y place : ℕ) where
  pub decided_lower : x < y → record { order = Order.Lower; places = place } ≡ decided_by x y place
  decided_lower h = rw (lt-ltb x y h)

  pub decided_higher : y ≤ x → record { order = Order.Higher; places = place } ≡ decided_by x y place
  decided_higher h = rw (le-ltb x y h)

-- A place that agrees, and the rest of the lists.
module _ (x y : ℕ) (xs ys : List ℕ) (e : x ≡ y) where
  pub order_of_rest : order_of (x ∷ xs) (y ∷ ys) ≡ order_of xs ys
  unfolding order_of
  order_of_rest = rw (lower_by_rest x y xs ys e, lower_by_rest y x ys xs (sym e))

  pub one-place-more : places_looked_at (x ∷ xs) (y ∷ ys) ≡ suc (places_looked_at xs ys)
  unfolding places_looked_at
  one-place-more = rw (eq-eqb x y e)

-- A place that differs.
module _ (x y : ℕ) (xs ys : List ℕ) (n : x ≡ y → ⊥) where
  pub order_of_numbers : order_of (x ∷ xs) (y ∷ ys) ≡ cond (ltb x y) Order.Lower Order.Higher
  unfolding order_of
  order_of_numbers = rw (sym (lower_by_first x y xs ys n), sym (lower_by_first y x ys xs (λ e. n (sym e)))) (go (compared x y))
    where
      go : (x < y) ⊎ (x ≡ y) ⊎ (y < x) → cond (ltb x y) Order.Lower (cond (ltb y x) Order.Higher Order.Equal) ≡ cond (ltb x y) Order.Lower Order.Higher
      go (inl h) = rw (lt-ltb x y h)
      go (inr (inl e)) = absurd (n e)
      go (inr (inr h)) = rw (lt-ltb y x h)

  pub last-place : places_looked_at (x ∷ xs) (y ∷ ys) ≡ 1
  unfolding places_looked_at
  last-place = rw (ne_eqb x y n)

-- The order and the places of two lists make their comparison.
answered_with : (xs ys : List ℕ) (order : Order) (places : ℕ) → order_of xs ys ≡ order → places_looked_at xs ys ≡ places
    → record { order = order; places = places } ≡ comparison_of xs ys
unfolding comparison_of
answered_with xs ys order places e f = rw (e, f)

-- How far two lists are compared: the places before `i` agree.
pub record Comparing (xs ys : List ℕ) (i : ℕ) : Type 0 where
  pub within : i ≤ length xs
  pub order : order_of xs ys ≡ order_of (drop i xs) (drop i ys)
  pub places : places_looked_at xs ys ≡ i + places_looked_at (drop i xs) (drop i ys)

pub comparing_starts : (xs ys : List ℕ) → Comparing xs ys 0
comparing_starts xs ys = record { within = omega arith; order = refl; places = omega arith }

module _ {xs ys : List ℕ} {i : ℕ} (same : length xs ≡ length ys) (k : Comparing xs ys i) where
  module _ (h : i < length xs) where
    rest_of_first : drop i xs ≡ get_or xs i 0 ∷ drop (i + 1) xs
    rest_of_first = drop-next xs i (i + 1) 0 (omega arith) h

    rest_of_second : drop i ys ≡ get_or ys i 0 ∷ drop (i + 1) ys
    rest_of_second = drop-next ys i (i + 1) 0 (omega arith) (omega arith)

    pub comparing_goes_on : get_or xs i 0 ≡ get_or ys i 0 → Comparing xs ys (i + 1)
    comparing_goes_on e = record {
      within = omega arith;
      order = rw (rest_of_first, rest_of_second, order_of_rest _ _ _ _ e) at k.order;
      places = omega (arith, rw (rest_of_first, rest_of_second, one-place-more _ _ _ _ e) at k.places);
    }

    -- The first place that differs decides.
    pub comparing_finds : (get_or xs i 0 ≡ get_or ys i 0 → ⊥) → decided_by (get_or xs i 0) (get_or ys i 0) (i + 1) ≡ comparison_of xs ys
    comparing_finds n =
        answered_with xs ys _ _ (rw (rest_of_first, rest_of_second, order_of_numbers _ _ _ _ n) at k.order)
        (rw (rest_of_first, rest_of_second, last-place _ _ _ _ n) at k.places)

  -- Where no place is left the lists are equal.
  pub comparing_ends : length xs ≤ i → record { order = Order.Equal; places = i } ≡ comparison_of xs ys
  comparing_ends h =
      answered_with xs ys Order.Equal i (rw (first_ends, second-ends, order_of_none) at k.order)
      (omega (arith, no_places, rw (first_ends, second-ends) at k.places))
    where
      first_ends : drop i xs ≡ []
      first_ends = drop_of_length-le xs h

      second-ends : drop i ys ≡ []
      second-ends = drop_of_length-le ys {i = i} (omega arith)
