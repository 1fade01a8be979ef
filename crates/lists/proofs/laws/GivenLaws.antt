-- What a list gives for each of its members, and lists of rising numbers. Assumes nothing.
use Prim.Native.Nat.{ℕ, zero, suc, ◌+◌, ◌*◌, ◌/◌, ◌%◌, ◌≤◌, ◌<◌}
use native.Mathlib.Omega.{arith}
use Rattle.std.specs.Prelude.{◌≡◌, ◌⊎◌, Bool, T, length, get_or, take}
use Rattle.std.proofs.Math.Path.{refl, sym, ap}
use Rattle.std.proofs.Common.{◌∙◌, subst, inl, inr, ext_get_or}
use mathlib.Core.List.{List, [], ◌∷◌, ◌++◌, map, flat_map, append-nil, append_assoc, map-append}
use Rattle.std.proofs.Math.Bool.{true, false, cond}
use Rattle.std.proofs.Math.ListN.{length-append}
use Rattle.std.proofs.lemmas.List.{length-map}
use Rattle.std.proofs.Math.Arith.{digits_div, digits_mod}
use Rattle.lists.specs.Lists.{rising, cons_if, selected}
use Rattle.lists.specs.Members.{In, EveryTwo}
use Rattle.lists.proofs.laws.ListNotions.{Distinct}
use Rattle.lists.proofs.laws.MemberLaws.{nil_not_cons, in_append, map-in, map_at, flat_map-in}
use Rattle.lists.proofs.laws.SelectedLaws.{selected-in, rising-in, rising-at, length-rising}
use Rattle.lists.proofs.laws.DistinctLaws.{nothing-in, selected-all, selected-none, selected_append}

-- What a list gives for each of its own

module _ {A B : Type 0} where
  pub selected-flat_map : (test : B → Bool) (f : A → List B) (xs : List A) → selected test (flat_map f xs) ≡ flat_map (λ x. selected test (f x)) xs
  unfolding selected flat_map
  selected-flat_map test f [] = refl
  selected-flat_map test f (x ∷ xs) = selected_append test (f x) (flat_map f xs) ∙ ap (λ (t : List B). selected test (f x) ++ t) (selected-flat_map test f xs)

  pub flat_map-none : (f : A → List B) (xs : List A) → ((x : A) → In x xs → f x ≡ []) → flat_map f xs ≡ []
  flat_map-none f xs h = nothing-in (flat_map f xs) (λ b k. let r = flat_map-in f b xs k in subst (λ (t : List B). In b t) (h r.0 r.1) r.2)

  -- Where one of a list alone gives anything, all that is given is what it gives.
  pub flat_map-only : (f : A → List B) (a : A) (xs : List A) → Distinct xs → In a xs → ((x : A) → In x xs → (x ≡ a → ⊥) → f x ≡ []) → flat_map f xs ≡ f a
  unfolding flat_map
  flat_map-only f a [] d k h = elim k [ ]
  flat_map-only f a (x ∷ xs) d (inl e) h = rw e (ap (λ (t : List B). f x ++ t) (flat_map-none f xs (λ y k. h y (inr k) (λ g. d.0 (subst (λ (z : A). In z xs) (g ∙ e) k)))) ∙ append-nil (f x))
  flat_map-only f a (x ∷ xs) d (inr k) h = rw (h x (inl refl) (λ e. d.0 (subst (λ (z : A). In z xs) (sym e) k))) (flat_map-only f a xs d.1 k (λ y l. h y (inr l)))

  -- Where all that one of a list gives passes a test, and nothing that another gives, what passes is what that one gives.
  pub selected-flat_map-only :
      (test : B → Bool)
      (f : A → List B)
      (a : A)
      (xs : List A) →
      Distinct xs →
      In a xs →
      ((b : B) → In b (f a) → T (test b)) →
      ((x : A) → In x xs → (x ≡ a → ⊥) → (b : B) → In b (f x) → T (test b) → ⊥) →
      selected test (flat_map f xs) ≡ f a
  selected-flat_map-only test f a xs d k h n =
      selected-flat_map test f xs
      ∙ flat_map-only (λ x. selected test (f x)) a xs d k (λ x i m. selected-none test (f x) (n x i m))
      ∙ selected-all test (f a) h

  pub length-flat_map-each : (f : A → List B) (n : ℕ) (xs : List A) → ((x : A) → In x xs → length (f x) ≡ n) → length (flat_map f xs) ≡ length xs * n
  unfolding flat_map
  length-flat_map-each f n [] h = omega arith
  length-flat_map-each f n (x ∷ xs) h = omega (arith, length-append (f x) (flat_map f xs), h x (inl refl), length-flat_map-each f n xs (λ y k. h y (inr k)))

  pub map_back : (f : A → B) (g : B → A) → ((x : A) → g (f x) ≡ x) → (xs : List A) → map g (map f xs) ≡ xs
  map_back f g h [] = refl
  map_back f g h (x ∷ xs) = rw (h x) (ap (λ (t : List A). x ∷ t) (map_back f g h xs))

  -- What tells two things apart also tells what it gives of them apart.
  pub map_injective : (f : A → B) → ((x y : A) → f x ≡ f y → x ≡ y) → (xs ys : List A) → map f xs ≡ map f ys → xs ≡ ys
  map_injective f h [] [] e = refl
  map_injective f h [] (y ∷ ys) e = absurd (nil_not_cons e)
  map_injective f h (x ∷ xs) [] e = absurd (nil_not_cons (sym e))
  map_injective f h (x ∷ xs) (y ∷ ys) e = let i : f x ≡ f y = cc in let j : map f xs ≡ map f ys = cc in cc (h x y i, map_injective f h xs ys j)

  pub distinct-map : (f : A → B) (xs : List A) → Distinct xs → ((x y : A) → In x xs → In y xs → f x ≡ f y → x ≡ y) → Distinct (map f xs)
  distinct-map f [] d h = tt
  distinct-map f (x ∷ xs) d h = (λ k. go (map-in f (f x) xs k), distinct-map f xs d.1 (λ y z k l. h y z (inr k) (inr l)))
    where
      go : ((a : A) × In a xs × (f x ≡ f a)) → ⊥
      go (a, k, e) = d.0 (subst (λ (y : A). In y xs) (sym (h x a (inl refl) (inr k) e)) k)

module _ {A B C : Type 0} where
  pub map-flat_map : (g : B → C) (f : A → List B) (xs : List A) → map g (flat_map f xs) ≡ flat_map (λ x. map g (f x)) xs
  unfolding flat_map
  map-flat_map g f [] = refl
  map-flat_map g f (x ∷ xs) = map-append g (f x) (flat_map f xs) ∙ ap (λ (t : List C). map g (f x) ++ t) (map-flat_map g f xs)

-- What lists give, made of other lists

module _ {A B : Type 0} where
  pub flat_map_append : (f : A → List B) (xs ys : List A) → flat_map f (xs ++ ys) ≡ flat_map f xs ++ flat_map f ys
  unfolding flat_map
  flat_map_append f [] ys = refl
  flat_map_append f (x ∷ xs) ys =
      ap (λ (t : List B). f x ++ t) (flat_map_append f xs ys) ∙ sym (append_assoc (f x) (flat_map f xs) (flat_map f ys))

  pub flat_map-same : (f g : A → List B) (xs : List A) → ((x : A) → In x xs → f x ≡ g x) → flat_map f xs ≡ flat_map g xs
  unfolding flat_map
  flat_map-same f g [] h = refl
  flat_map-same f g (x ∷ xs) h =
      ap (λ (t : List B). t ++ flat_map f xs) (h x (inl refl)) ∙ ap (λ (t : List B). g x ++ t) (flat_map-same f g xs (λ y k. h y (inr k)))

  -- Those that pass a test give, the others give nothing.
  pub flat_map-selected : (f : A → List B) (test : A → Bool) (xs : List A) → flat_map f (selected test xs) ≡ flat_map (λ x. cond (test x) (f x) []) xs
  unfolding flat_map selected
  flat_map-selected f test [] = refl
  flat_map-selected f test (x ∷ xs) = go (test x) ∙ ap (λ (t : List B). cond (test x) (f x) [] ++ t) (flat_map-selected f test xs)
    where
      go : (b : Bool) → flat_map f (cons_if b x (selected test xs)) ≡ cond b (f x) [] ++ flat_map f (selected test xs)
      go true = refl
      go false = refl

  pub flat_map-one : (f : A → B) (xs : List A) → flat_map (λ x. f x ∷ []) xs ≡ map f xs
  unfolding flat_map
  flat_map-one f [] = refl
  flat_map-one f (x ∷ xs) = ap (λ (t : List B). f x ∷ t) (flat_map-one f xs)

  pub selected-map : (f : A → B) (test : B → Bool) (xs : List A) → selected test (map f xs) ≡ map f (selected (λ x. test (f x)) xs)
  unfolding selected
  selected-map f test [] = refl
  selected-map f test (x ∷ xs) = go (test (f x)) (selected-map f test xs)
    where
      go : (b : Bool) → selected test (map f xs) ≡ map f (selected (λ x. test (f x)) xs)
          → cons_if b (f x) (selected test (map f xs)) ≡ map f (cons_if b x (selected (λ x. test (f x)) xs))
      go true e = ap (λ (t : List B). f x ∷ t) e
      go false e = e

module _ {A B C : Type 0} where
  pub flat_map-map : (f : B → List C) (g : A → B) (xs : List A) → flat_map f (map g xs) ≡ flat_map (λ x. f (g x)) xs
  unfolding flat_map
  flat_map-map f g [] = refl
  flat_map-map f g (x ∷ xs) = ap (λ (t : List C). f (g x) ++ t) (flat_map-map f g xs)

  pub flat_map-flat_map : (f : B → List C) (g : A → List B) (xs : List A) → flat_map f (flat_map g xs) ≡ flat_map (λ x. flat_map f (g x)) xs
  unfolding flat_map
  flat_map-flat_map f g [] = refl
  flat_map-flat_map f g (x ∷ xs) = flat_map_append f (g x) (flat_map g xs) ∙ ap (λ (t : List C). flat_map f (g x) ++ t) (flat_map-flat_map f g xs)

module _ {A : Type 0} where
  -- A list by its places.
  pub by_places : (xs : List A) (d : A) → map (λ i. get_or xs i d) (rising 0 (length xs)) ≡ xs
  by_places xs d = ext_get_or d (map (λ i. get_or xs i d) (rising 0 (length xs))) xs same_length
      (λ i l. map_at (λ i. get_or xs i d) (rising 0 (length xs)) i 0 d (omega (arith, length-map (rising 0 (length xs)) (λ i. get_or xs i d)))
      ∙ ap (λ (k : ℕ). get_or xs k d) (rising-at 0 (length xs) i 0 (omega (arith, same_length)) ∙ omega arith))
    where
      same_length : length (map (λ i. get_or xs i d) (rising 0 (length xs))) ≡ length xs
      same_length = length-map (rising 0 (length xs)) (λ i. get_or xs i d) ∙ length-rising 0 (length xs)

  pub every-two-selected : (R : A → A → Type 0) (test : A → Bool) (xs : List A) → EveryTwo R xs → EveryTwo R (selected test xs)
  unfolding selected
  every-two-selected R test [] P = tt
  every-two-selected R test (x ∷ xs) P = go (test x) (every-two-selected R test xs P.1)
    where
      go : (b : Bool) → EveryTwo R (selected test xs) → EveryTwo R (cons_if b x (selected test xs))
      go true Q = (λ y k. P.0 y (selected-in test y xs k).0, Q)
      go false Q = Q

  pub every-two_weaker : (R S : A → A → Type 0) (xs : List A) → ((x y : A) → R x y → S x y) → EveryTwo R xs → EveryTwo S xs
  every-two_weaker R S [] h P = tt
  every-two_weaker R S (x ∷ xs) h P = (λ y k. h x y (P.0 y k), every-two_weaker R S xs h P.1)

  pub every-two_append : (R : A → A → Type 0) (xs ys : List A) → EveryTwo R xs → EveryTwo R ys
      → ((x y : A) → In x xs → In y ys → R x y) → EveryTwo R (xs ++ ys)
  every-two_append R [] ys P Q h = Q
  every-two_append R (x ∷ xs) ys P Q h =
      (λ y k. go y (in_append y xs ys k), every-two_append R xs ys P.1 Q (λ a b k l. h a b (inr k) l))
    where
      go : (y : A) → In y xs ⊎ In y ys → R x y
      go y (inl k) = P.0 y k
      go y (inr k) = h x y (inl refl) k

module _ {A B : Type 0} (R : B → B → Type 0) where
  pub every-two-map : (f : A → B) (xs : List A) → EveryTwo (λ x y. R (f x) (f y)) xs → EveryTwo R (map f xs)
  every-two-map f [] P = tt
  every-two-map f (x ∷ xs) P = (λ b k. go b (map-in f b xs k), every-two-map f xs P.1)
    where
      go : (b : B) → ((a : A) × In a xs × (b ≡ f a)) → R (f x) b
      go b (a, k, e) = rw e (P.0 a k)

  pub every-two-flat_map : (S : A → A → Type 0) (f : A → List B) (xs : List A) → EveryTwo S xs → ((a : A) → EveryTwo R (f a))
      → ((a c : A) → S a c → (x y : B) → In x (f a) → In y (f c) → R x y) → EveryTwo R (flat_map f xs)
  unfolding flat_map
  every-two-flat_map S f [] P Q h = tt
  every-two-flat_map S f (a ∷ xs) P Q h = every-two_append R (f a) (flat_map f xs) (Q a) (every-two-flat_map S f xs P.1 Q h)
      (λ x y k l. go x y k (flat_map-in f y xs l))
    where
      go : (x y : B) → In x (f a) → ((c : A) × In c xs × In y (f c)) → R x y
      go x y k (c, i, l) = h a c (P.0 c i) x y k l

-- Lists of rising numbers

pub every-two-rising : (k n : ℕ) → EveryTwo (λ x y. x < y) (rising k n)
unfolding rising
every-two-rising k zero = tt
every-two-rising k (suc n) = (λ y i. omega (arith, (rising-in (suc k) n y i).0), every-two-rising (suc k) n)

-- Two lists of rising numbers with the same numbers are equal.
pub rising-same : (xs ys : List ℕ) → EveryTwo (λ x y. x < y) xs → EveryTwo (λ x y. x < y) ys → ((a : ℕ) → In a xs → In a ys)
    → ((a : ℕ) → In a ys → In a xs) → xs ≡ ys
rising-same [] [] P Q f g = refl
rising-same [] (y ∷ ys) P Q f g = absurd (g y (inl refl))
rising-same (x ∷ xs) [] P Q f g = absurd (f x (inl refl))
rising-same (x ∷ xs) (y ∷ ys) P Q f g =
    let e : x ≡ y = heads (f x (inl refl)) (g y (inl refl))
    in ap (λ (k : ℕ). k ∷ xs) e
    ∙ ap (λ (t : List ℕ). y ∷ t) (rising-same xs ys P.1 Q.1 (λ a k. later a k (f a (inr k)) e) (λ a k. earlier a k (g a (inr k)) e))
  where
    heads : In x (y ∷ ys) → In y (x ∷ xs) → x ≡ y
    heads (inl e) k = e
    heads (inr h) (inl e) = sym e
    heads (inr h) (inr k) = absurd (omega (arith, Q.0 x h, P.0 y k))

    later : (a : ℕ) → In a xs → In a (y ∷ ys) → x ≡ y → In a ys
    later a k (inl h) e = absurd (omega (arith, P.0 a k))
    later a k (inr h) e = h

    earlier : (a : ℕ) → In a ys → In a (x ∷ xs) → x ≡ y → In a xs
    earlier a k (inl h) e = absurd (omega (arith, Q.0 a k))
    earlier a k (inr h) e = h

pub front_of_rising : {A : Type 0} (f : ℕ → A) (k n m : ℕ) → n ≤ m → take n (map f (rising k m)) ≡ map f (rising k n)
unfolding rising
front_of_rising f k zero m h = refl
front_of_rising f k (suc n) zero h = absurd (omega arith)
front_of_rising {A} f k (suc n) (suc m) h = ap (λ (t : List A). f k ∷ t) (front_of_rising f (suc k) n m (omega arith))

pub rising-both : (k m n : ℕ) → rising k (m + n) ≡ rising k m ++ rising (k + m) n
unfolding rising
rising-both k zero n = λ i. rising ((let z : k ≡ k + 0 = omega arith in z) i) ((let z : 0 + n ≡ n = omega arith in z) i)
rising-both k (suc m) n =
    ap (rising k) (let z : suc m + n ≡ suc (m + n) = omega arith in z)
    ∙ ap (λ (t : List ℕ). k ∷ t) (rising-both (suc k) m n ∙ ap (λ (j : ℕ). rising (suc k) m ++ rising j n) (let z : suc k + m ≡ k + suc m = omega arith in z))

module _ {A : Type 0} where
  pub flat_map-from : (f : ℕ → List A) (k n : ℕ) → flat_map f (rising k n) ≡ flat_map (λ i. f (k + i)) (rising 0 n)
  unfolding flat_map rising
  flat_map-from f k n = ap (λ (j : ℕ). flat_map f (rising j n)) (let z : k ≡ k + 0 = omega arith in z) ∙ go k 0 n
    where
      go : (k j n : ℕ) → flat_map f (rising (k + j) n) ≡ flat_map (λ i. f (k + i)) (rising j n)
      go k j zero = refl
      go k j (suc n) = ap (λ (t : List A). f (k + j) ++ t) (ap (λ (i : ℕ). flat_map f (rising i n)) (let z : suc (k + j) ≡ k + suc j = omega arith in z) ∙ go k (suc j) n)

  -- Rows of `n` places, one after the other.
  pub flat_map-rows : (f : ℕ → ℕ → List A) (m n : ℕ)
      → flat_map (λ i. f (i / n) (i % n)) (rising 0 (m * n)) ≡ flat_map (λ k. flat_map (f k) (rising 0 n)) (rising 0 m)
  unfolding rising flat_map
  flat_map-rows f zero n = ap (λ (k : ℕ). flat_map (λ i. f (i / n) (i % n)) (rising 0 k)) (let z : 0 * n ≡ 0 = omega arith in z)
  flat_map-rows f (suc m) n =
      ap (λ (k : ℕ). flat_map place (rising 0 k)) (let z : suc m * n ≡ m * n + n = omega arith in z)
      ∙ ap (flat_map place) (rising-both 0 (m * n) n)
      ∙ flat_map_append place (rising 0 (m * n)) (rising (0 + m * n) n)
      ∙ ap (λ (t : List A). t ++ flat_map place (rising (0 + m * n) n)) (flat_map-rows f m n)
      ∙ ap (λ (t : List A). before ++ t) (flat_map-from place (0 + m * n) n ∙ flat_map-same (λ i. place (0 + m * n + i)) (f m) (rising 0 n) row)
      ∙ sym last
    where
      place : ℕ → List A
      place i = f (i / n) (i % n)

      before : List A
      before = flat_map (λ k. flat_map (f k) (rising 0 n)) (rising 0 m)

      row : (i : ℕ) → In i (rising 0 n) → place (0 + m * n + i) ≡ f m i
      row i h =
          let l : i < n = omega (arith, (rising-in 0 n i h).1)
          in let e : 0 + m * n + i ≡ m * n + i = omega arith
          in ap place e ∙ (λ x. f (digits_div m {m = n} {r = i} l x) (digits_mod m {m = n} {r = i} l x))

      last : flat_map (λ k. flat_map (f k) (rising 0 n)) (rising 0 (suc m)) ≡ before ++ flat_map (f m) (rising 0 n)
      last =
          ap (λ (k : ℕ). flat_map (λ k. flat_map (f k) (rising 0 n)) (rising 0 k)) (let z : suc m ≡ m + 1 = omega arith in z)
          ∙ ap (flat_map (λ k. flat_map (f k) (rising 0 n))) (rising-both 0 m 1)
          ∙ flat_map_append (λ k. flat_map (f k) (rising 0 n)) (rising 0 m) (rising (0 + m) 1)
          ∙ ap (λ (t : List A). before ++ t) (append-nil (flat_map (f (0 + m)) (rising 0 n)) ∙ ap (λ (k : ℕ). flat_map (f k) (rising 0 n)) (let z : 0 + m ≡ m = omega arith in z))
