-- Sums over a list. Assumes nothing.
use Rattle.std.specs.Prelude.{ℕ, ◌+◌, ◌*◌, ◌≤◌, ◌<◌, ◌≡◌, Bool, get_or}
use native.Mathlib.Omega.{arith}
use Rattle.std.proofs.Common.{add-one, sym, ap, ◌∙◌, inl, inr}
use Rattle.std.proofs.Math.Path.{refl}
use mathlib.Core.List.{List, [], ◌∷◌, ◌++◌, map, flat_map}
use Rattle.std.proofs.Math.Bool.{true, false, not, cond}
use Rattle.std.proofs.Math.ListN.{length, length-append}
use Rattle.lists.specs.Lists.{rising, cons_if, selected}
use Rattle.lists.specs.Members.{In, sum_over}
use Rattle.lists.proofs.laws.GivenLaws.{by_places}
use Rattle.lists.proofs.laws.Searching.{rising-more}

-- Sums

module _ {A : Type 0} where
  pub sum_add : (f g : A → ℕ) (xs : List A) → sum_over (λ x. f x + g x) xs ≡ sum_over f xs + sum_over g xs
  sum_add f g [] = refl
  sum_add f g (x ∷ xs) = omega (arith, sum_add f g xs)

  pub sum_same : (f g : A → ℕ) (xs : List A) → ((x : A) → In x xs → f x ≡ g x) → sum_over f xs ≡ sum_over g xs
  sum_same f g [] h = refl
  sum_same f g (x ∷ xs) h = omega (arith, h x (inl refl), sum_same f g xs (λ y k. h y (inr k)))

  pub sum_nothing : (xs : List A) → sum_over (λ x. 0) xs ≡ 0
  sum_nothing [] = refl
  sum_nothing (x ∷ xs) = omega (arith, sum_nothing xs)

  pub sum_append : (f : A → ℕ) (xs ys : List A) → sum_over f (xs ++ ys) ≡ sum_over f xs + sum_over f ys
  sum_append f [] ys = omega arith
  sum_append f (x ∷ xs) ys = omega (arith, sum_append f xs ys)

  pub sum_most : (f g : A → ℕ) (xs : List A) → ((x : A) → In x xs → f x ≤ g x) → sum_over f xs ≤ sum_over g xs
  sum_most f g [] h = omega arith
  sum_most f g (x ∷ xs) h = omega (arith, h x (inl refl), sum_most f g xs (λ y k. h y (inr k)))

  -- Where no term of a sum rises and one falls, the sum falls.
  pub sum_falls : (f g : A → ℕ) (xs : List A) → ((x : A) → f x ≤ g x) → (a : A) → In a xs → f a < g a → sum_over f xs < sum_over g xs
  sum_falls f g [] h a k l = elim k [ ]
  sum_falls f g (x ∷ xs) h a (inl e) l = omega (arith, ap f e, ap g e, sum_most f g xs (λ y k. h y))
  sum_falls f g (x ∷ xs) h a (inr k) l = omega (arith, h x, sum_falls f g xs h a k l)

  pub sum_bounded : (f : A → ℕ) (n : ℕ) (xs : List A) → ((x : A) → In x xs → f x ≤ n) → sum_over f xs ≤ length xs * n
  sum_bounded f n [] h = omega arith
  sum_bounded f n (x ∷ xs) h = omega (arith, h x (inl refl), sum_bounded f n xs (λ y k. h y (inr k)))

  -- The sum over a list is the sum over those that pass a test and over those that do not.
  pub sum_parts : (f : A → ℕ) (test : A → Bool) (xs : List A) → sum_over f xs ≡ sum_over f (selected test xs) + sum_over f (selected (λ x. not (test x)) xs)
  unfolding selected
  sum_parts f test [] = refl
  sum_parts f test (x ∷ xs) = go (test x) (sum_parts f test xs)
    where
      go : (b : Bool) → sum_over f xs ≡ sum_over f (selected test xs) + sum_over f (selected (λ x. not (test x)) xs)
          → f x + sum_over f xs ≡ sum_over f (cons_if b x (selected test xs)) + sum_over f (cons_if (not b) x (selected (λ x. not (test x)) xs))
      go true e = omega arith
      go false e = omega arith

  -- The sum over those that pass a test, as a sum over all.
  pub sum_selected : (f : A → ℕ) (test : A → Bool) (xs : List A) → sum_over f (selected test xs) ≡ sum_over (λ x. cond (test x) (f x) 0) xs
  unfolding selected
  sum_selected f test [] = refl
  sum_selected f test (x ∷ xs) = go (test x) (sum_selected f test xs)
    where
      go : (b : Bool) → sum_over f (selected test xs) ≡ sum_over (λ x. cond (test x) (f x) 0) xs
          → sum_over f (cons_if b x (selected test xs)) ≡ cond b (f x) 0 + sum_over (λ x. cond (test x) (f x) 0) xs
      go true e = omega arith
      go false e = omega arith

  -- The same number for each that passes a test.
  pub sum_each : (n : ℕ) (test : A → Bool) (xs : List A) → sum_over (λ x. cond (test x) n 0) xs ≡ length (selected test xs) * n
  unfolding selected
  sum_each n test [] = omega arith
  sum_each n test (x ∷ xs) = go (test x) (sum_each n test xs)
    where
      go : (b : Bool) → sum_over (λ x. cond (test x) n 0) xs ≡ length (selected test xs) * n
          → cond b n 0 + sum_over (λ x. cond (test x) n 0) xs ≡ length (cons_if b x (selected test xs)) * n
      go true e = omega arith
      go false e = omega arith

module _ {A B : Type 0} where
  -- A sum of sums, the one list first or the other.
  pub sum_exchanged : (f : A → B → ℕ) (xs : List A) (ys : List B)
      → sum_over (λ x. sum_over (f x) ys) xs ≡ sum_over (λ y. sum_over (λ x. f x y) xs) ys
  sum_exchanged f [] ys = sym (sum_nothing ys)
  sum_exchanged f (x ∷ xs) ys = omega (arith, sum_exchanged f xs ys, sum_add (f x) (λ y. sum_over (λ z. f z y) xs) ys)

  pub length-flat_map : (f : A → List B) (xs : List A) → length (flat_map f xs) ≡ sum_over (λ x. length (f x)) xs
  unfolding flat_map
  length-flat_map f [] = refl
  length-flat_map f (x ∷ xs) = omega (arith, length-append (f x) (flat_map f xs), length-flat_map f xs)

  pub sum_flat_map : (h : B → ℕ) (f : A → List B) (xs : List A) → sum_over h (flat_map f xs) ≡ sum_over (λ x. sum_over h (f x)) xs
  unfolding flat_map
  sum_flat_map h f [] = refl
  sum_flat_map h f (x ∷ xs) = omega (arith, sum_append h (f x) (flat_map f xs), sum_flat_map h f xs)

  pub length-flat_map-most : (f : A → List B) (n : ℕ) (xs : List A) → ((x : A) → In x xs → length (f x) ≤ n) → length (flat_map f xs) ≤ length xs * n
  length-flat_map-most f n xs h = omega (arith, length-flat_map f xs, sum_bounded (λ x. length (f x)) n xs h)

-- A sum by places

-- A sum over a list, by its places.
pub sum_places : {A : Type 0} (f : A → ℕ) (xs : List A) (d : A) → sum_over f xs ≡ sum_over (λ j. f (get_or xs j d)) (rising 0 (length xs))
sum_places {A} f xs d = ap (sum_over f) (sym (by_places xs d)) ∙ over (rising 0 (length xs))
  where
    over : (js : List ℕ) → sum_over f (map (λ j. get_or xs j d) js) ≡ sum_over (λ j. f (get_or xs j d)) js
    over [] = refl
    over (j ∷ js) = omega (arith, over js)

-- A sum over the first numbers, with one more.
pub sum_next : (f : ℕ → ℕ) (i : ℕ) → sum_over f (rising 0 (i + 1)) ≡ sum_over f (rising 0 i) + f i
sum_next f i =
    ap (λ (n : ℕ). sum_over f (rising 0 n)) (add-one i)
    ∙ ap (sum_over f) (rising-more 0 i)
    ∙ sum_append f (rising 0 i) ((0 + i) ∷ [])
    ∙ (let z : f (0 + i) ≡ f i = ap f (let y : 0 + i ≡ i = omega arith in y) in omega (arith, z))
