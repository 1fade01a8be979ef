-- Those of a list that pass a test, and the numbers below a bound. Assumes nothing.
use Rattle.std.specs.Prelude.{ℕ, zero, suc, ◌+◌, ◌≤◌, ◌<◌, ◌≡◌, ◌⊎◌, Bool, ◌||◌, length, get_or}
use Rattle.std.proofs.Common.{arith, sym, ◌∙◌}
use Rattle.std.proofs.Math.Path.{refl, ap, subst}
use mathlib.Core.List.{List, [], ◌∷◌, map}
use Rattle.std.proofs.Math.Logic.{inl, inr}
use Rattle.std.proofs.Math.Bool.{true, false}
use Rattle.std.proofs.Math.Dec.{T}
use Rattle.lists.specs.Lists.{rising, cons_if, selected, any_passes}
use Rattle.lists.specs.Members.{In}
use Rattle.lists.proofs.laws.NumberLaws.{compared}

-- Those that pass a test

module _ {A : Type 0} where
  pub in-cons_if : (b : Bool) (a x : A) (xs : List A) → In a (cons_if b x xs) → (T b × (a ≡ x)) ⊎ In a xs
  in-cons_if true a x xs (inl e) = inl (tt, e)
  in-cons_if true a x xs (inr h) = inr h
  in-cons_if false a x xs h = inr h

  pub cons_if-here : (b : Bool) (x : A) (xs : List A) → T b → In x (cons_if b x xs)
  cons_if-here true x xs h = inl refl
  cons_if-here false x xs h = absurd h

  pub cons_if-there : (b : Bool) (a x : A) (xs : List A) → In a xs → In a (cons_if b x xs)
  cons_if-there true a x xs h = inr h
  cons_if-there false a x xs h = h

  -- Exactly those of a list that pass the test are in what is left.
  pub selected-in : (test : A → Bool) (a : A) (xs : List A) → In a (selected test xs) → In a xs × T (test a)
  unfolding selected
  selected-in test a [] h = elim h [ ]
  selected-in test a (x ∷ xs) h = go (in-cons_if (test x) a x (selected test xs) h) (selected-in test a xs)
    where
      go : (T (test x) × (a ≡ x)) ⊎ In a (selected test xs) → (In a (selected test xs) → In a xs × T (test a))
          → In a (x ∷ xs) × T (test a)
      go (inl (p, e)) ih = (inl e, subst (λ (y : A). T (test y)) (sym e) p)
      go (inr k) ih = (inr (ih k).0, (ih k).1)

  pub in-selected : (test : A → Bool) (a : A) (xs : List A) → In a xs → T (test a) → In a (selected test xs)
  unfolding selected
  in-selected test a [] h p = elim h [ ]
  in-selected test a (x ∷ xs) (inl e) p = subst (λ (y : A). In y (cons_if (test x) x (selected test xs))) (sym e)
      (cons_if-here (test x) x (selected test xs) (subst (λ (y : A). T (test y)) e p))
  in-selected test a (x ∷ xs) (inr h) p = cons_if-there (test x) a x (selected test xs) (in-selected test a xs h p)

  -- A test that one of a list passes.
  pub any-in : (test : A → Bool) (xs : List A) → T (any_passes test xs) → (a : A) × In a xs × T (test a)
  unfolding any_passes
  any-in test [] h = absurd h
  any-in test (x ∷ xs) h = go (test x) (λ p. p) h (any-in test xs)
    where
      go : (b : Bool) → (T b → T (test x)) → T (b || any_passes test xs) → (T (any_passes test xs) → (a : A) × In a xs × T (test a))
          → (a : A) × In a (x ∷ xs) × T (test a)
      go true f h ih = (x, inl refl, f tt)
      go false f h ih = let r = ih h in (r.0, inr r.1, r.2)

  pub in-any : (test : A → Bool) (a : A) (xs : List A) → In a xs → T (test a) → T (any_passes test xs)
  unfolding any_passes
  in-any test a [] h p = elim h [ ]
  in-any test a (x ∷ xs) (inl e) p = go (test x) (subst (λ (y : A). T (test y)) e p)
    where
      go : (b : Bool) → T b → T (b || any_passes test xs)
      go true h = tt
      go false h = absurd h
  in-any test a (x ∷ xs) (inr h) p = go (test x) (in-any test a xs h p)
    where
      go : (b : Bool) → T (any_passes test xs) → T (b || any_passes test xs)
      go true h = tt
      go false h = h

module _ {A B : Type 0} (f : A → B) where
  pub any-map : (test : B → Bool) (xs : List A) → any_passes test (map f xs) ≡ any_passes (λ x. test (f x)) xs
  unfolding any_passes
  any-map test [] = refl
  any-map test (x ∷ xs) = ap (λ (b : Bool). test (f x) || b) (any-map test xs)

-- The numbers below a bound

pub rising-in : (k n m : ℕ) → In m (rising k n) → (k ≤ m) × (m < k + n)
unfolding rising
rising-in k zero m h = elim h [ ]
rising-in k (suc n) m (inl e) = (omega arith, omega arith)
rising-in k (suc n) m (inr h) = let r = rising-in (suc k) n m h in (omega (arith, r.0), omega (arith, r.1))

pub rising-at : (k n i d : ℕ) → i < n → get_or (rising k n) i d ≡ k + i
unfolding rising
rising-at k zero i d h = absurd (omega arith)
rising-at k (suc n) zero d h = omega arith
rising-at k (suc n) (suc i) d h = rising-at (suc k) n i d (omega arith) ∙ omega arith

pub in-rising : (k n m : ℕ) → k ≤ m → m < k + n → In m (rising k n)
unfolding rising
in-rising k zero m h l = absurd (omega arith)
in-rising k (suc n) m h l = go (compared k m) (in-rising (suc k) n m)
  where
    go : (k < m) ⊎ (k ≡ m) ⊎ (m < k) → (suc k ≤ m → m < suc k + n → In m (rising (suc k) n)) → In m (k ∷ rising (suc k) n)
    go (inl p) ih = inr (ih p (omega arith))
    go (inr (inl e)) ih = inl (sym e)
    go (inr (inr p)) ih = absurd (omega arith)

pub length-rising : (k n : ℕ) → length (rising k n) ≡ n
unfolding rising
length-rising k zero = refl
length-rising k (suc n) = ap suc (length-rising (suc k) n)
