-- The first of a list that passes a test (`first_passing`): which one it is, and what a loop that looks for it keeps true.
-- Assumes nothing.
use Prim.Native.Nat.{ℕ, zero, suc, ◌+◌, ◌-◌, ◌≤◌, ◌<◌}
use native.Mathlib.Omega.{arith}
use Rattle.std.specs.Prelude.{◌≡◌, Bool, get_or}
use Rattle.std.proofs.Math.Path.{refl, ap}
use Rattle.std.proofs.Common.{◌∙◌}
use mathlib.Core.List.{List, [], ◌∷◌, map}
use Rattle.std.proofs.Math.Bool.{true, false, cond}
use Rattle.std.proofs.Math.ListN.{length, get_elem?}
use Rattle.std.proofs.Math.Option.{some}
use Rattle.lists.specs.Lists.{rising, cons_if, selected, first_passing}
use Rattle.lists.proofs.laws.MemberLaws.{none-not-some}

module _ {A : Type 0} (test : A → Bool) where
  -- It is there, or there are as many as the list has.
  pub first-within : (xs : List A) → first_passing test xs ≤ length xs
  unfolding first_passing
  first-within [] = omega arith
  first-within (x ∷ xs) = go (test x) (first-within xs)
    where
      go : (b : Bool) → first_passing test xs ≤ length xs → cond b 0 (suc (first_passing test xs)) ≤ suc (length xs)
      go true h = omega arith
      go false h = omega arith

  -- The one at the place `n` passes and none before it does.
  pub first_is : (xs : List A) (n : ℕ) (d : A) → n < length xs → test (get_or xs n d) ≡ true → ((k : ℕ) → k < n → test (get_or xs k d) ≡ false)
      → first_passing test xs ≡ n
  unfolding first_passing
  first_is [] n d l e f = absurd (omega arith)
  first_is (x ∷ xs) zero d l e f = ap (λ (b : Bool). cond b 0 (suc (first_passing test xs))) e
  first_is (x ∷ xs) (suc n) d l e f =
      ap (λ (b : Bool). cond b 0 (suc (first_passing test xs))) (f 0 (omega arith))
      ∙ ap suc (first_is xs n d (omega arith) e (λ k h. f (suc k) (omega arith)))

  -- The first of those that pass a test stands where the first passes.
  pub first-selected : (xs : List A) (x d : A) → get_elem? (selected test xs) 0 ≡ some x
      → (first_passing test xs < length xs) × (get_or xs (first_passing test xs) d ≡ x)
  unfolding first_passing selected
  first-selected [] x d e = absurd (none-not-some e)
  first-selected (y ∷ xs) x d e = go (test y) e (first-selected xs x d)
    where
      go : (b : Bool) → get_elem? (cons_if b y (selected test xs)) 0 ≡ some x
          → (get_elem? (selected test xs) 0 ≡ some x → (first_passing test xs < length xs) × (get_or xs (first_passing test xs) d ≡ x))
          → (cond b 0 (suc (first_passing test xs)) < suc (length xs)) × (get_or (y ∷ xs) (cond b 0 (suc (first_passing test xs))) d ≡ x)
      go true e h = (omega arith, let f : y ≡ x = cc in f)
      go false e h = let (l, f) = h e in (omega arith, f)

module _ {A B : Type 0} (f : A → B) (test : B → Bool) where
  pub first_of_map : (xs : List A) → first_passing test (map f xs) ≡ first_passing (λ x. test (f x)) xs
  unfolding first_passing
  first_of_map [] = refl
  first_of_map (x ∷ xs) = ap (λ (n : ℕ). cond (test (f x)) 0 (suc n)) (first_of_map xs)

-- A loop has come to `j` of the first `n` numbers: what is left has the first that passes.
pub record SeekingFirst (test : ℕ → Bool) (n j : ℕ) : Type 0 where
  pub within : j ≤ n
  pub rest : j + first_passing test (rising j (n - j)) ≡ first_passing test (rising 0 n)

pub first-starts : (test : ℕ → Bool) (n : ℕ) → SeekingFirst test n 0
first-starts test n = record { within = omega arith; rest = omega (arith, all_left) }
  where
    all_left : first_passing test (rising 0 (n - 0)) ≡ first_passing test (rising 0 n)
    all_left = ap (λ (k : ℕ). first_passing test (rising 0 k)) {x = n - 0} {y = n} (omega arith)

step : (test : ℕ → Bool) (n j : ℕ) → j < n → first_passing test (rising j (n - j)) ≡ cond (test j) 0 (suc (first_passing test (rising (j + 1) (n - (j + 1)))))
unfolding first_passing rising
step test n j h = rw (let e : n - j ≡ suc (n - (j + 1)) = omega arith in e, let f : j + 1 ≡ suc j = omega arith in f) refl

module _ {test : ℕ → Bool} {n j : ℕ} (s : SeekingFirst test n j) where
  pub first_on : j < n → test j ≡ false → SeekingFirst test n (j + 1)
  first_on h e = record { within = omega arith; rest = omega (arith, s.rest, simp e at (step test n j h)) }

  pub first_found : j < n → test j ≡ true → j ≡ first_passing test (rising 0 n)
  first_found h e = omega (arith, s.rest, simp e at (step test n j h))

  pub first_missing : n ≤ j → j ≡ first_passing test (rising 0 n)
  unfolding first_passing rising
  first_missing h = omega (arith, rw (let e : n - j ≡ 0 = omega arith in e) at s.rest)
