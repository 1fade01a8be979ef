-- The lowest of a list by a test that orders its members. Assumes nothing.
use Rattle.std.specs.Prelude.{◌≡◌, ◌⊎◌, Bool}
use Rattle.std.proofs.Math.Path.{refl}
use Rattle.std.proofs.Common.{subst, inl, inr}
use mathlib.Core.List.{List, [], ◌∷◌}
use Rattle.std.proofs.Math.Option.{Option, none, some}
use Rattle.std.proofs.Math.Bool.{true, false, cond}
use Rattle.std.proofs.Math.Dec.{T}
use Rattle.lists.specs.Lists.{lower_of, lowest_by}
use Rattle.lists.specs.Members.{In}
use Rattle.lists.proofs.laws.MemberLaws.{none-not-some}

-- The lowest of a list

module _ {A : Type 0} (before : A → A → Bool) where
  -- None is taken only of the empty list.
  pub lowest-none : (xs : List A) → lowest_by before xs ≡ none → xs ≡ []
  unfolding lowest_by
  lowest-none [] e = refl
  lowest-none (x ∷ xs) e = go (lowest_by before xs) e
    where
      pick : (b : Bool) (y : A) → cond b (some y) (some x) ≡ none → x ∷ xs ≡ []
      pick true y h = cc
      pick false y h = cc

      go : (o : Option A) → lower_of before x o ≡ none → x ∷ xs ≡ []
      go none h = cc
      go (some y) h = pick (before y x) y h

module _ {A : Type 0} (before : A → A → Bool)
    (never : (x : A) → T (before x x) → ⊥)
    (chained : (x y z : A) → T (before x y) → T (before y z) → T (before x z))
    (between : (x y z : A) → T (before x z) → T (before x y) ⊎ T (before y z)) where
  -- The one taken is in the list, and the test puts none of the list before it.
  pub lowest_is : (xs : List A) (m : A) → lowest_by before xs ≡ some m → In m xs × ((x : A) → In x xs → T (before x m) → ⊥)
  unfolding lowest_by
  lowest_is [] m e = absurd (none-not-some e)
  lowest_is (x ∷ xs) m e = go (lowest_by before xs) refl e (lowest_is xs)
    where
      keep : (y : A) → In y xs × ((z : A) → In z xs → T (before z y) → ⊥) → T (before y x) → (z : A) → In z (x ∷ xs) → T (before z y) → ⊥
      keep y r p z (inl f) q = never x (chained x y x (subst (λ (w : A). T (before w y)) f q) p)
      keep y r p z (inr k) q = r.1 z k q

      take : (y : A) → In y xs × ((z : A) → In z xs → T (before z y) → ⊥) → (T (before y x) → ⊥) → (z : A) → In z (x ∷ xs) → T (before z x) → ⊥
      take y r p z (inl f) q = never x (subst (λ (w : A). T (before w x)) f q)
      take y r p z (inr k) q = side (between z y x q)
        where
          side : T (before z y) ⊎ T (before y x) → ⊥
          side (inl l) = r.1 z k l
          side (inr l) = p l

      single : lowest_by before xs ≡ none → (z : A) → In z (x ∷ xs) → T (before z x) → ⊥
      single f z (inl g) q = never x (subst (λ (w : A). T (before w x)) g q)
      single f z (inr k) q = subst (λ (t : List A). In z t) (lowest-none before xs f) k

      pick : (b : Bool) (y : A) → (T b → T (before y x)) → (T (before y x) → T b) → cond b (some y) (some x) ≡ some m
          → In y xs × ((z : A) → In z xs → T (before z y) → ⊥)
          → In m (x ∷ xs) × ((z : A) → In z (x ∷ xs) → T (before z m) → ⊥)
      pick true y f g h r = let i : y ≡ m = cc in
          subst (λ (w : A). In w (x ∷ xs) × ((z : A) → In z (x ∷ xs) → T (before z w) → ⊥)) i (inr r.0, keep y r (f tt))
      pick false y f g h r = let i : x ≡ m = cc in rw (← i) (inl refl, take y r g)

      go : (o : Option A) → lowest_by before xs ≡ o → lower_of before x o ≡ some m
          → ((n : A) → lowest_by before xs ≡ some n → In n xs × ((z : A) → In z xs → T (before z n) → ⊥))
          → In m (x ∷ xs) × ((z : A) → In z (x ∷ xs) → T (before z m) → ⊥)
      go none f h ih = let i : x ≡ m = cc in rw (← i) (inl refl, single f)
      go (some y) f h ih = pick (before y x) y (λ p. p) (λ p. p) h (ih y f)
