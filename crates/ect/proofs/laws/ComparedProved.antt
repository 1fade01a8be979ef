-- Two lists of equal length are compared as request A4 of document 02 asks. Assumes nothing.
use Rattle.std.specs.Prelude.{ℕ, zero, suc, ◌-◌, ◌≤◌, ◌<◌, ◌≡◌, refl, List, [], ◌∷◌, ◌⊎◌, length, get_or}
use Rattle.std.proofs.Common.{arith, sym, ap, ◌∙◌, inl, inr}
use Rattle.std.proofs.Math.Nat.{suc_inj}
use Rattle.graph.specs.Order.{Lower, is_lower}
use Rattle.graph.proofs.laws.OrderLaws.{lower-never, lower-one-way, lower-compared, lower-test, test-lower}
use Rattle.lists.proofs.laws.NumberLaws.{compared, same_or_not, is_true, is_false}
use Rattle.ect.specs.Comparisons.{order_of, places_looked_at, comparison_of, Holds, number_at, FirstDifference, ComparedAsAsked}
use Rattle.ect.proofs.laws.ComparisonLaws.{no_places, one-place-more, last-place}
use Rattle.ect.specs.declared.comparison.Order.{Order}

-- Equal lists are looked at to their end.
all-places : (xs : List ℕ) → places_looked_at xs xs ≡ length xs
all-places [] = no_places
all-places (x ∷ xs) = one-place-more x x xs xs refl ∙ ap suc (all-places xs)

-- The place after a place of the rest.
number-next : (x : ℕ) (xs : List ℕ) (n : ℕ) → 1 ≤ n → number_at (x ∷ xs) (suc n) ≡ number_at xs n
number-next x xs n h = let e : suc n - 1 ≡ suc (n - 1) = omega arith in ap (λ i. get_or (x ∷ xs) i 0) e

module _ (x y : ℕ) (xs ys : List ℕ) where
  difference_here : (x ≡ y → ⊥) → FirstDifference (x ∷ xs) (y ∷ ys) 1
  difference_here d = record { from_1 = omega arith; within = omega arith; agree_before = λ n h k. absurd (omega arith); differ = d }

  difference_after : (place : ℕ) → x ≡ y → FirstDifference xs ys place → FirstDifference (x ∷ xs) (y ∷ ys) (suc place)
  difference_after place e rest = record {
    from_1 = omega arith;
    within = omega (arith, rest.within);
    agree_before = agree;
    differ = λ f. rest.differ (sym (number-next x xs place rest.from_1) ∙ f ∙ number-next y ys place rest.from_1);
  }
    where
      agree : (n : ℕ) → 1 ≤ n → n < suc place → number_at (x ∷ xs) n ≡ number_at (y ∷ ys) n
      agree zero h k = absurd (omega arith)
      agree (suc zero) h k = e
      agree (suc (suc n)) h k =
          number-next x xs (suc n) (omega arith) ∙ rest.agree_before (suc n) (omega arith) (omega arith) ∙ sym (number-next y ys (suc n) (omega arith))

-- The first place that differs is the last that is looked at.
stops-there : (xs ys : List ℕ) → length xs ≡ length ys → (xs ≡ ys → ⊥) → FirstDifference xs ys (places_looked_at xs ys)
stops-there [] [] same n = absurd (n refl)
stops-there [] (y ∷ ys) same n = absurd (omega arith)
stops-there (x ∷ xs) [] same n = absurd (omega arith)
stops-there (x ∷ xs) (y ∷ ys) same n = go (same_or_not x y) (stops-there xs ys (suc_inj same))
  where
    go : (x ≡ y) ⊎ (x ≡ y → ⊥) → ((xs ≡ ys → ⊥) → FirstDifference xs ys (places_looked_at xs ys))
        → FirstDifference (x ∷ xs) (y ∷ ys) (places_looked_at (x ∷ xs) (y ∷ ys))
    go (inl e) rest = rw (one-place-more x y xs ys e) (difference_after x y xs ys _ e (rest (λ f. n (cc))))
    go (inr d) rest = rw (last-place x y xs ys d) (difference_here x y xs ys d)

-- Two lists have one first difference at most, so wherever one is, it is the last place that is looked at.
pub looked_up_to : (xs ys : List ℕ) → length xs ≡ length ys → (place : ℕ) → FirstDifference xs ys place → places_looked_at xs ys ≡ place
looked_up_to xs ys same place d = go (compared (places_looked_at xs ys) place) (stops-there xs ys same (λ e. d.differ (ap (λ zs. number_at zs place) e)))
  where
    go : (places_looked_at xs ys < place) ⊎ (places_looked_at xs ys ≡ place) ⊎ (place < places_looked_at xs ys) → FirstDifference xs ys (places_looked_at xs ys)
        → places_looked_at xs ys ≡ place
    go (inl h) found = absurd (found.differ (d.agree_before _ found.from_1 h))
    go (inr (inl e)) found = e
    go (inr (inr h)) found = absurd (d.differ (found.agree_before _ d.from_1 h))

-- The order that is answered, for each order that holds.
module _ (xs ys : List ℕ) where
  lower-answered : Lower xs ys → order_of xs ys ≡ Order.Lower
  unfolding order_of
  lower-answered h = rw (is_true (is_lower xs ys) (lower-test xs ys h))

  higher-answered : Lower ys xs → order_of xs ys ≡ Order.Higher
  unfolding order_of
  higher-answered h = rw (is_false (is_lower xs ys) (λ t. lower-one-way xs ys (test-lower xs ys t) h), is_true (is_lower ys xs) (lower-test ys xs h))

  equal-answered : xs ≡ ys → order_of xs ys ≡ Order.Equal
  unfolding order_of
  equal-answered e = rw (e, is_false (is_lower ys ys) (λ t. lower-never ys (test-lower ys ys t)))

  answered : (order : Order) → Holds order xs ys → order_of xs ys ≡ order
  answered Order.Lower h = lower-answered h
  answered Order.Equal e = equal-answered e
  answered Order.Higher h = higher-answered h

  one_holds : Lower xs ys ⊎ (xs ≡ ys) ⊎ Lower ys xs → Holds (order_of xs ys) xs ys
  one_holds (inl h) = rw (lower-answered h) h
  one_holds (inr (inl e)) = rw (equal-answered e) e
  one_holds (inr (inr h)) = rw (higher-answered h) h

pub compared_as_asked : ComparedAsAsked
unfolding comparison_of
compared_as_asked xs ys same = record {
  order_holds = one_holds xs ys (lower-compared xs ys);
  no_other_holds = λ order h. sym (answered xs ys order h);
  stops = stops-there xs ys same;
  passes_all = λ e. rw e (all-places ys);
}
