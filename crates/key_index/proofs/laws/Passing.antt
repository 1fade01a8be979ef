-- What passes a test among the first values, by the last place that passes it. Assumes nothing.
use Prim.Native.Nat.{ℕ, zero, suc, ◌+◌}
use native.Mathlib.Omega.{arith}
use Rattle.std.specs.Prelude.{◌≡◌, Bool, not, ◌||◌, eqb}
use Rattle.std.proofs.Math.Path.{refl, ap}
use Rattle.std.proofs.Common.{sym, ◌∙◌, ne_eqb}
use mathlib.Core.List.{List, [], ◌∷◌, ◌++◌, append-nil, map, map-append}
use Rattle.std.proofs.Math.Bool.{true, false, cond}
use Rattle.lists.specs.Lists.{rising, any_passes, selected, cons_if}
use Rattle.lists.proofs.laws.DistinctLaws.{selected_append}
use Rattle.lists.proofs.laws.Searching.{rising-more}
use Rattle.key_index.specs.Places.{last_place}

-- What passes a test among the first `n` values, by the last place that passes.
module _ {A : Type 0} (f : ℕ → A) (test : A → Bool) where
  abbrev pub passing : ℕ → List A
  passing n = selected test (map f (rising 0 n))

  passing-more : (n : ℕ) → passing (suc n) ≡ passing n ++ cons_if (test (f n)) (f n) []
  unfolding selected
  passing-more n =
      ap (λ (t : List ℕ). selected test (map f t)) (rising-more 0 n)
      ∙ ap (selected test) (map-append f (rising 0 n) ((0 + n) ∷ []))
      ∙ selected_append test (map f (rising 0 n)) (f (0 + n) ∷ [])
      ∙ ap (λ (k : ℕ). passing n ++ cons_if (test (f k)) (f k) []) (omega arith)

  pub nothing-passes : (n : ℕ) → last_place (λ i. test (f i)) n ≡ 0 → passing n ≡ []
  unfolding last_place rising selected
  nothing-passes zero e = refl
  nothing-passes (suc n) e = go (test (f n)) refl e (nothing-passes n)
    where
      go :
          (b : Bool) →
          test (f n) ≡ b →
          cond b (suc n) (last_place (λ i. test (f i)) n) ≡ 0 →
          (last_place (λ i. test (f i)) n ≡ 0 → passing n ≡ []) →
          passing (suc n) ≡ []
      go true h e ih = absurd (omega arith)
      go false h e ih = passing-more n ∙ rw (h, ih e) refl

  pub last-passing : (n i : ℕ) → last_place (λ k. test (f k)) n ≡ suc i → passing n ≡ passing i ++ (f i ∷ [])
  unfolding last_place rising selected
  last-passing zero i e = absurd (omega arith)
  last-passing (suc n) i e = go (test (f n)) refl e (last-passing n i)
    where
      go :
          (b : Bool) →
          test (f n) ≡ b →
          cond b (suc n) (last_place (λ k. test (f k)) n) ≡ suc i →
          (last_place (λ k. test (f k)) n ≡ suc i → passing n ≡ passing i ++ (f i ∷ [])) →
          passing (suc n) ≡ passing i ++ (f i ∷ [])
      go true h e ih = passing-more n ∙ rw h (ap (λ (k : ℕ). passing k ++ (f k ∷ [])) (let z : n ≡ i = omega arith in z))
      go false h e ih = passing-more n ∙ rw h (append-nil (passing n)) ∙ ih e

any_append : {A : Type 0} (test : A → Bool) (xs ys : List A) → any_passes test (xs ++ ys) ≡ any_passes test xs || any_passes test ys
unfolding any_passes
any_append test [] ys = refl
any_append test (x ∷ xs) ys = go (test x) (any_append test xs ys)
  where
    go : (b : Bool) → any_passes test (xs ++ ys) ≡ any_passes test xs || any_passes test ys → b || any_passes test (xs ++ ys) ≡ (b || any_passes test xs) || any_passes test ys
    go true h = refl
    go false h = h

-- Some number passes where there is a last place that does.
pub any_last : (test : ℕ → Bool) (n : ℕ) → any_passes test (rising 0 n) ≡ not (eqb (last_place test n) 0)
unfolding last_place any_passes rising
any_last test zero = refl
any_last test (suc n) =
    ap (any_passes test) (rising-more 0 n) ∙ any_append test (rising 0 n) ((0 + n) ∷ [])
    ∙ ap (λ (k : ℕ). any_passes test (rising 0 n) || (test k || false)) (let z : 0 + n ≡ n = omega arith in z)
    ∙ go (test n) (any_passes test (rising 0 n)) (any_last test n)
  where
    go : (b a : Bool) → a ≡ not (eqb (last_place test n) 0) → a || (b || false) ≡ not (eqb (cond b (suc n) (last_place test n)) 0)
    go true true h = sym (ap not (ne_eqb (suc n) 0 (λ z. absurd (omega arith))))
    go true false h = sym (ap not (ne_eqb (suc n) 0 (λ z. absurd (omega arith))))
    go false true h = h
    go false false h = h
