-- Parts of a list, `k` from the place `n` on: what is in them, and all of them one after the other. Assumes nothing.
use Rattle.std.specs.Prelude.{ℕ, zero, suc, ◌+◌, ◌*◌, ◌≡◌, refl, take, drop}
use Rattle.std.proofs.Common.{arith, sym, ap, ◌∙◌, inl, inr, take-add}
use mathlib.Core.List.{List, [], ◌∷◌, ◌++◌, map, flat_map}
use Rattle.lists.specs.Lists.{rising}
use Rattle.lists.specs.Members.{In, EveryTwo}
use Rattle.lists.proofs.laws.AppendingLaws.{each_more}

module _ {A : Type 0} where
  front-in : (k : ℕ) (a : A) (xs : List A) → In a (take k xs) → In a xs
  front-in zero a xs h = absurd h
  front-in (suc k) a [] h = absurd h
  front-in (suc k) a (x ∷ xs) (inl e) = inl e
  front-in (suc k) a (x ∷ xs) (inr h) = inr (front-in k a xs h)

  pub rest_in : (n : ℕ) (a : A) (xs : List A) → In a (drop n xs) → In a xs
  rest_in zero a xs h = h
  rest_in (suc n) a [] h = h
  rest_in (suc n) a (x ∷ xs) h = inr (rest_in n a xs h)

  pub part_in : (k n : ℕ) (a : A) (xs : List A) → In a (take k (drop n xs)) → In a xs
  part_in k n a xs h = rest_in n a xs (front-in k a (drop n xs) h)

  module _ (R : A → A → Type 0) where
    every-two-front : (k : ℕ) (xs : List A) → EveryTwo R xs → EveryTwo R (take k xs)
    every-two-front zero xs E = tt
    every-two-front (suc k) [] E = tt
    every-two-front (suc k) (x ∷ xs) E = (λ y h. E.0 y (front-in k y xs h), every-two-front k xs E.1)

    every-two-rest : (n : ℕ) (xs : List A) → EveryTwo R xs → EveryTwo R (drop n xs)
    every-two-rest zero xs E = E
    every-two-rest (suc n) [] E = E
    every-two-rest (suc n) (x ∷ xs) E = every-two-rest n xs E.1

    pub every-two_part : (k n : ℕ) (xs : List A) → EveryTwo R xs → EveryTwo R (take k (drop n xs))
    every-two_part k n xs E = every-two-front k (drop n xs) (every-two-rest n xs E)

module _ {A B : Type 0} (f : A → B) where
  front-map : (k : ℕ) (xs : List A) → take k (map f xs) ≡ map f (take k xs)
  front-map zero xs = refl
  front-map (suc k) [] = refl
  front-map (suc k) (x ∷ xs) = ap (λ (t : List B). f x ∷ t) (front-map k xs)

  rest-map : (n : ℕ) (xs : List A) → drop n (map f xs) ≡ map f (drop n xs)
  rest-map zero xs = refl
  rest-map (suc n) [] = refl
  rest-map (suc n) (x ∷ xs) = rest-map n xs

  pub part_map : (k n : ℕ) (xs : List A) → take k (drop n (map f xs)) ≡ map f (take k (drop n xs))
  part_map k n xs = ap (λ (t : List B). take k t) (rest-map n xs) ∙ front-map k (drop n xs)

-- The first `n` parts of `k` each are the front of the list.
pub parts-joined : {A : Type 0} (k n : ℕ) (xs : List A) → flat_map (λ i. take k (drop (k * i) xs)) (rising 0 n) ≡ take (k * n) xs
unfolding flat_map rising
parts-joined k zero xs = ap (λ (m : ℕ). take m xs) (let z : 0 ≡ k * 0 = omega arith in z)
parts-joined {A} k (suc n) xs =
    each_more (λ i. take k (drop (k * i) xs)) 0 n
    ∙ ap (λ (t : List A). t ++ take k (drop (k * (0 + n)) xs)) (parts-joined k n xs)
    ∙ ap (λ (m : ℕ). take (k * n) xs ++ take k (drop m xs)) (let z : k * (0 + n) ≡ k * n = ap (λ (m : ℕ). k * m) (omega arith) in z)
    ∙ sym (take-add (k * n) k xs)
    ∙ ap (λ (m : ℕ). take m xs) (let z : k * n + k ≡ k * suc n = omega arith in z)
