-- Lists with nothing twice, how often a number is in a list, relations between the members of a list, and its places. Assumes nothing.
use Prim.Native.Nat.{ℕ, zero, suc, ◌+◌, ◌≤◌, ◌<◌}
use native.Mathlib.Omega.{arith}
use Rattle.std.specs.Prelude.{◌≡◌, ◌⊎◌, Bool, cond, T, eqb, get_or}
use Rattle.std.proofs.Math.Path.{refl}
use Rattle.std.proofs.Common.{sym, ap, ◌∙◌, subst, inl, inr, length-append}
use mathlib.Core.List.{List, [], ◌∷◌, ◌++◌, flat_map}
use Rattle.std.proofs.Math.Option.{some}
use Rattle.std.proofs.Math.Bool.{true, false, not}
use Rattle.std.proofs.Math.ListN.{length, get_elem?}
use Rattle.lists.specs.Lists.{rising, cons_if, selected}
use Rattle.lists.specs.Members.{In, EveryTwo, occurrences}
use Rattle.lists.proofs.laws.ListNotions.{Distinct, last_of}
use Rattle.lists.proofs.laws.NumberLaws.{same_or_not, eqb_same, eqb-other, is_true}
use Rattle.lists.proofs.laws.MemberLaws.{none-not-some, last_of_append, in_left, in_right, in_append, in_split, flat_map-in}
use Rattle.lists.proofs.laws.SelectedLaws.{selected-in, rising-in, in-rising, length-rising}

-- Nothing twice

module _ {A : Type 0} where
  pub distinct_append : (xs ys : List A) → Distinct xs → Distinct ys → ((a : A) → In a xs → In a ys → ⊥) → Distinct (xs ++ ys)
  distinct_append [] ys d e h = e
  distinct_append (x ∷ xs) ys d e h = (λ k. go (in_append x xs ys k), distinct_append xs ys d.1 e (λ a k l. h a (inr k) l))
    where
      go : In x xs ⊎ In x ys → ⊥
      go (inl k) = d.0 k
      go (inr k) = h x (inl refl) k

  pub distinct_right : (xs ys : List A) → Distinct (xs ++ ys) → Distinct ys
  distinct_right [] ys d = d
  distinct_right (x ∷ xs) ys d = distinct_right xs ys d.1

  -- A list with nothing twice, all of it in another, is no longer than that.
  pub distinct-within : (xs ys : List A) → Distinct xs → ((x : A) → In x xs → In x ys) → length xs ≤ length ys
  distinct-within [] ys d h = omega arith
  distinct-within (x ∷ xs) ys d h = go (in_split x ys (h x (inl refl))) (distinct-within xs)
    where
      go : ((us : List A) × (vs : List A) × (ys ≡ us ++ (x ∷ vs))) → ((zs : List A) → Distinct xs → ((y : A) → In y xs → In y zs) → length xs ≤ length zs)
          → suc (length xs) ≤ length ys
      go (us, vs, e) ih = let l : length xs ≤ length (us ++ vs) = ih (us ++ vs) d.1 (λ y k. other y k (in_append y us (x ∷ vs) (rw e at (h y (inr k))))) in
          omega (arith, ap (λ (t : List A). length t) e, length-append us (x ∷ vs), length-append us vs)
        where
          other : (y : A) → In y xs → In y us ⊎ In y (x ∷ vs) → In y (us ++ vs)
          other y k (inl m) = in_left y us vs m
          other y k (inr (inl f)) = absurd (d.0 (subst (λ (z : A). In z xs) f k))
          other y k (inr (inr m)) = in_right y us vs m

  pub distinct-selected : (test : A → Bool) (xs : List A) → Distinct xs → Distinct (selected test xs)
  unfolding selected
  distinct-selected test [] d = tt
  distinct-selected test (x ∷ xs) d = go (test x) (distinct-selected test xs d.1)
    where
      go : (b : Bool) → Distinct (selected test xs) → Distinct (cons_if b x (selected test xs))
      go true e = (λ k. d.0 (selected-in test x xs k).0, e)
      go false e = e

pub distinct-rising : (k n : ℕ) → Distinct (rising k n)
unfolding rising
distinct-rising k zero = tt
distinct-rising k (suc n) = (λ h. omega (arith, (rising-in (suc k) n k h).0), distinct-rising (suc k) n)

-- Of a number and a list, the number is in the list or not.
pub in-or-not : (a : ℕ) (xs : List ℕ) → In a xs ⊎ (In a xs → ⊥)
in-or-not a [] = inr (λ h. h)
in-or-not a (x ∷ xs) = go (same_or_not a x) (in-or-not a xs)
  where
    neither : (a ≡ x → ⊥) → (In a xs → ⊥) → In a (x ∷ xs) → ⊥
    neither f h (inl e) = f e
    neither f h (inr k) = h k

    go : (a ≡ x) ⊎ (a ≡ x → ⊥) → In a xs ⊎ (In a xs → ⊥) → In a (x ∷ xs) ⊎ (In a (x ∷ xs) → ⊥)
    go (inl e) h = inl (inl e)
    go (inr f) (inl h) = inl (inr h)
    go (inr f) (inr h) = inr (neither f h)

-- A list of numbers below n with nothing twice has at most n of them.
pub at_most : (n : ℕ) (xs : List ℕ) → Distinct xs → ((x : ℕ) → In x xs → x < n) → length xs ≤ n
at_most n xs d h = omega (
  arith,
  distinct-within xs (rising 0 n) d (λ x k. in-rising 0 n x (omega arith) (omega (arith, h x k))),
  length-rising 0 n,
)

module _ {A B : Type 0} where
  -- Lists that have nothing twice, none of them anything of another, have nothing twice together.
  pub distinct-flat_map : (f : A → List B) (xs : List A) → Distinct xs → ((a : A) → In a xs → Distinct (f a))
      → ((a c : A) (b : B) → In a xs → In c xs → In b (f a) → In b (f c) → a ≡ c) → Distinct (flat_map f xs)
  unfolding flat_map
  distinct-flat_map f [] d h k = tt
  distinct-flat_map f (x ∷ xs) d h k = distinct_append (f x) (flat_map f xs) (h x (inl refl))
      (distinct-flat_map f xs d.1 (λ a l. h a (inr l)) (λ a c b l m. k a c b (inr l) (inr m)))
      (λ b l m. go b l (flat_map-in f b xs m))
    where
      go : (b : B) → In b (f x) → ((a : A) × In a xs × In b (f a)) → ⊥
      go b l (a, i, m) = d.0 (subst (λ (y : A). In y xs) (sym (k x a b (inl refl) (inr i) l m)) i)

module _ {A : Type 0} where
  -- A list with nothing in it is empty.
  pub nothing-in : (xs : List A) → ((a : A) → In a xs → ⊥) → xs ≡ []
  nothing-in [] f = refl
  nothing-in (x ∷ xs) f = absurd (f x (inl refl))

  -- Equal lists end alike.
  pub same-last : (xs ys : List A) (a b : A) → xs ++ (a ∷ []) ≡ ys ++ (b ∷ []) → a ≡ b
  same-last xs ys a b e = sym (last_of_append a xs a []) ∙ ap (last_of a) e ∙ last_of_append a ys b []

-- How often

pub occurrences-none : (x : ℕ) (xs : List ℕ) → (In x xs → ⊥) → occurrences x xs ≡ 0
unfolding occurrences
occurrences-none x [] f = refl
occurrences-none x (y ∷ ys) f = omega (arith, eqb-other {A = ℕ} x y 1 0 (λ e. f (inl e)), occurrences-none x ys (λ k. f (inr k)))

-- In a list with nothing twice, what is in it is there exactly once.
pub occurrences-one : (x : ℕ) (xs : List ℕ) → Distinct xs → In x xs → occurrences x xs ≡ 1
unfolding occurrences
occurrences-one x [] d h = elim h [ ]
occurrences-one x (y ∷ ys) d h = go (same_or_not x y) h (occurrences-one x ys d.1)
  where
    go : (x ≡ y) ⊎ (x ≡ y → ⊥) → In x (y ∷ ys) → (In x ys → occurrences x ys ≡ 1) → cond (eqb x y) 1 0 + occurrences x ys ≡ 1
    go (inl e) h ih = omega (arith, here, occurrences-none x ys (λ k. d.0 (subst (λ (z : ℕ). In z ys) e k)))
      where
        here : ◌≡◌ {A = ℕ} (cond (eqb x y) 1 0) 1
        here = subst (λ (z : ℕ). ◌≡◌ {A = ℕ} (cond (eqb x z) 1 0) 1) e (eqb_same {A = ℕ} x 1 0)
    go (inr f) (inl e) ih = absurd (f e)
    go (inr f) (inr k) ih = omega (arith, eqb-other {A = ℕ} x y 1 0 f, ih k)

pub occurrences-at-most-one : (x : ℕ) (xs : List ℕ) → Distinct xs → occurrences x xs ≤ 1
occurrences-at-most-one x xs d = go (in-or-not x xs)
  where
    go : In x xs ⊎ (In x xs → ⊥) → occurrences x xs ≤ 1
    go (inl k) = omega (arith, occurrences-one x xs d k)
    go (inr f) = omega (arith, occurrences-none x xs f)

-- Relations along a list

module _ {A : Type 0} (R : A → A → Type 0) where
  pub every-two-end : (xs : List A) (a : A) → EveryTwo R xs → ((x : A) → In x xs → R x a) → EveryTwo R (xs ++ (a ∷ []))
  every-two-end [] a d h = (λ y k. absurd k, tt)
  every-two-end (x ∷ xs) a d h = (λ y k. go y (in_append y xs (a ∷ []) k), every-two-end xs a d.1 (λ y k. h y (inr k)))
    where
      go : (y : A) → In y xs ⊎ In y (a ∷ []) → R x y
      go y (inl k) = d.0 y k
      go y (inr (inl e)) = rw e (h x (inl refl))
      go y (inr (inr k)) = absurd k

  -- Any two of the list are equal or so related, one way or the other.
  pub every-two-in : (xs : List A) → EveryTwo R xs → (a b : A) → In a xs → In b xs → (a ≡ b) ⊎ R a b ⊎ R b a
  every-two-in [] d a b h _ = elim h [ ]
  every-two-in (x ∷ xs) d a b (inl e) (inl f) = inl (e ∙ sym f)
  every-two-in (x ∷ xs) d a b (inl e) (inr k) = inr (inl (rw e (d.0 b k)))
  every-two-in (x ∷ xs) d a b (inr h) (inl f) = inr (inr (rw f (d.0 a h)))
  every-two-in (x ∷ xs) d a b (inr h) (inr k) = every-two-in xs d.1 a b h k

  -- Two that are so related neither way are one.
  pub every-two-one : (xs : List A) → EveryTwo R xs → (a b : A) → In a xs → In b xs → (R a b → ⊥) → (R b a → ⊥) → a ≡ b
  every-two-one xs d a b i j f g = go (every-two-in xs d a b i j)
    where
      go : (a ≡ b) ⊎ R a b ⊎ R b a → a ≡ b
      go (inl e) = e
      go (inr (inl r)) = absurd (f r)
      go (inr (inr r)) = absurd (g r)

  -- A relation that nothing has to itself leaves nothing twice.
  pub every-two-distinct : (xs : List A) → EveryTwo R xs → ((x : A) → In x xs → R x x → ⊥) → Distinct xs
  every-two-distinct [] d f = tt
  every-two-distinct (x ∷ xs) d f = (λ k. f x (inl refl) (d.0 x k), every-two-distinct xs d.1 (λ y k. f y (inr k)))

-- Places and fronts of a list

module _ {A : Type 0} where
  pub place_in : (xs : List A) (i : ℕ) (d : A) → i < length xs → In (get_or xs i d) xs
  place_in [] i d l = absurd (omega arith)
  place_in (x ∷ xs) zero d l = inl refl
  place_in (x ∷ xs) (suc i) d l = inr (place_in xs i d (omega arith))

  -- What holds of every two holds of two places.
  pub every-two-at : (R : A → A → Type 0) (xs : List A) (d : A) → EveryTwo R xs → (i j : ℕ) → i < j → j < length xs → R (get_or xs i d) (get_or xs j d)
  every-two-at R [] d E i j l m = absurd (omega arith)
  every-two-at R (x ∷ xs) d E i zero l m = absurd (omega arith)
  every-two-at R (x ∷ xs) d E zero (suc j) l m = E.0 (get_or xs j d) (place_in xs j d (omega arith))
  every-two-at R (x ∷ xs) d E (suc i) (suc j) l m = every-two-at R xs d E.1 i j (omega arith) (omega arith)

  -- Two places with the same thing are one.
  pub distinct-places : (xs : List A) (d : A) → Distinct xs → (i j : ℕ) → i < length xs → j < length xs → get_or xs i d ≡ get_or xs j d → i ≡ j
  distinct-places [] d D i j l m e = absurd (omega arith)
  distinct-places (x ∷ xs) d D zero zero l m e = refl
  distinct-places (x ∷ xs) d D zero (suc j) l m e = absurd (D.0 (subst (λ (y : A). In y xs) (sym e) (place_in xs j d (omega arith))))
  distinct-places (x ∷ xs) d D (suc i) zero l m e = absurd (D.0 (subst (λ (y : A). In y xs) e (place_in xs i d (omega arith))))
  distinct-places (x ∷ xs) d D (suc i) (suc j) l m e = ap suc (distinct-places xs d D.1 i j (omega arith) (omega arith) e)

  -- Lists of one length in front of others are equal where the wholes are.
  pub append_same : (xs ys us vs : List A) → length xs ≡ length ys → xs ++ us ≡ ys ++ vs → xs ≡ ys
  append_same [] [] us vs l e = refl
  append_same [] (y ∷ ys) us vs l e = absurd (omega arith)
  append_same (x ∷ xs) [] us vs l e = absurd (omega arith)
  append_same (x ∷ xs) (y ∷ ys) us vs l e = let f : xs ++ us ≡ ys ++ vs = cc in let g : x ≡ y = cc in
      let h : xs ≡ ys = append_same xs ys us vs (omega arith) f in cc

  pub first-in : (xs : List A) (a : A) → get_elem? xs 0 ≡ some a → In a xs
  first-in [] a e = absurd (none-not-some e)
  first-in (x ∷ xs) a e = inl (let f : a ≡ x = cc in f)

  -- The one of a list that has nothing else and nothing twice.
  pub only_one : (xs : List A) (a : A) → Distinct xs → In a xs → ((x : A) → In x xs → x ≡ a) → xs ≡ a ∷ []
  only_one [] a d h f = elim h [ ]
  only_one (x ∷ []) a d h f = ap (λ (y : A). y ∷ []) (f x (inl refl))
  only_one (x ∷ y ∷ xs) a d h f = absurd (d.0 (inl (f x (inl refl) ∙ sym (f y (inr (inl refl))))))

  -- All of a list, none of it, and its parts under a test

  pub selected-all : (test : A → Bool) (xs : List A) → ((x : A) → In x xs → T (test x)) → selected test xs ≡ xs
  unfolding selected
  selected-all test [] f = refl
  selected-all test (x ∷ xs) f = rw (is_true (test x) (f x (inl refl))) (ap (λ (t : List A). x ∷ t) (selected-all test xs (λ y k. f y (inr k))))

  pub selected-none : (test : A → Bool) (xs : List A) → ((x : A) → In x xs → T (test x) → ⊥) → selected test xs ≡ []
  selected-none test xs f = nothing-in (selected test xs) (λ a k. let r = selected-in test a xs k in f a r.0 r.1)

  pub selected_append : (test : A → Bool) (xs ys : List A) → selected test (xs ++ ys) ≡ selected test xs ++ selected test ys
  unfolding selected
  selected_append test [] ys = refl
  selected_append test (x ∷ xs) ys = rw (selected_append test xs ys) (go (test x))
    where
      go : (b : Bool) → cons_if b x (selected test xs ++ selected test ys) ≡ cons_if b x (selected test xs) ++ selected test ys
      go true = refl
      go false = refl

  -- Each of a list passes the test or its negation.
  pub selected-parts : (test : A → Bool) (xs : List A) → length (selected test xs) + length (selected (λ x. not (test x)) xs) ≡ length xs
  unfolding selected
  selected-parts test [] = refl
  selected-parts test (x ∷ xs) = go (test x) (selected-parts test xs)
    where
      go : (b : Bool) → length (selected test xs) + length (selected (λ x. not (test x)) xs) ≡ length xs
          → length (cons_if b x (selected test xs)) + length (cons_if (not b) x (selected (λ x. not (test x)) xs)) ≡ suc (length xs)
      go true e = omega arith
      go false e = omega arith
