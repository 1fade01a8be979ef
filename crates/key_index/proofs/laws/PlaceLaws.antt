-- Laws of the last place up to a number whose test passes. Assumes nothing.
use Prim.Native.Nat.{ℕ, zero, suc, ◌≤◌, ◌<◌}
use native.Mathlib.Omega.{arith}
use Rattle.std.specs.Prelude.{◌≡◌, ◌⊎◌, Bool, not, ◌&&◌, eqb}
use Rattle.std.proofs.Math.Path.{refl}
use Rattle.std.proofs.Common.{sym, ap, ◌∙◌, inl, inr, eq-eqb, ne_eqb}
use Rattle.std.proofs.Math.Bool.{true, false, cond, and-true, and-false}
use Rattle.lists.proofs.laws.NumberLaws.{le_or_gt}
use Rattle.key_index.specs.Places.{last_place}

module _ (test : ℕ → Bool) where
  pub last_none : last_place test 0 ≡ 0
  unfolding last_place
  last_none = refl

  pub last-here : (n : ℕ) → test n ≡ true → last_place test (suc n) ≡ suc n
  unfolding last_place
  last-here n h = simp h

  pub last-earlier : (n : ℕ) → test n ≡ false → last_place test (suc n) ≡ last_place test n
  unfolding last_place
  last-earlier n h = simp h

  pub last_within : (n : ℕ) → last_place test n ≤ n
  unfolding last_place
  last_within zero = omega arith
  last_within (suc n) = go (test n) (last_within n)
    where
      go : (b : Bool) → last_place test n ≤ n → cond b (suc n) (last_place test n) ≤ suc n
      go true ih = omega arith
      go false ih = omega arith

  -- The place found passes the test.
  pub last-passes : (n i : ℕ) → last_place test n ≡ suc i → test i ≡ true
  unfolding last_place
  last-passes zero i e = absurd (omega arith)
  last-passes (suc n) i e = go (test n) refl e (last-passes n i)
    where
      go : (b : Bool) → test n ≡ b → cond b (suc n) (last_place test n) ≡ suc i → (last_place test n ≡ suc i → test i ≡ true) → test i ≡ true
      go true h e ih = rw (ap (λ (k : ℕ). test k) (let z : i ≡ n = omega arith in z)) h
      go false h e ih = ih e

  -- Where there is no last place, nothing passes.
  pub none_passes : (n : ℕ) → last_place test n ≡ 0 → (i : ℕ) → i < n → test i ≡ true → ⊥
  none_passes zero e i l h = absurd (omega arith)
  none_passes (suc n) e i l h = go (test n) refl (le_or_gt n i) (none_passes n)
    where
      go :
          (b : Bool) →
          test n ≡ b →
          (n ≤ i) ⊎ (i < n) →
          (last_place test n ≡ 0 → (i : ℕ) → i < n → test i ≡ true → ⊥) →
          ⊥
      go true f m ih = omega (arith, last-here n f)
      go false f (inl m) ih =
          let z : i ≡ n = omega arith
          in let d : true ≡ false = sym h ∙ ap test z ∙ f
          in let y : ◌≡◌ {A = ℕ} 0 1 = cc
          in omega arith
      go false f (inr m) ih = ih (sym (last-earlier n f) ∙ e) i m h

-- Where every place that passes one test passes another, the last place of the first is found from the last place of the second.
pub last-through :
    (test wider : ℕ → Bool) →
    ((i : ℕ) → test i ≡ true → wider i ≡ true) →
    (n : ℕ) →
    last_place test (last_place wider n) ≡ last_place test n
unfolding last_place
last-through test wider h zero = refl
last-through test wider h (suc n) = go (wider n) refl (test n) refl (last-through test wider h n)
  where
    go :
        (w : Bool) → wider n ≡ w → (b : Bool) → test n ≡ b →
        last_place test (last_place wider n) ≡ last_place test n →
        last_place test (cond w (suc n) (last_place wider n)) ≡ cond b (suc n) (last_place test n)
    go true e b f ih = rw f
    go false e true f ih = let z : true ≡ false = sym (h n f) ∙ e in let y : ◌≡◌ {A = ℕ} 0 1 = cc in absurd (omega arith)
    go false e false f ih = ih

-- Only the tests below the number count.
pub last-same : (test other : ℕ → Bool) (n : ℕ) → ((i : ℕ) → i < n → test i ≡ other i) → last_place test n ≡ last_place other n
unfolding last_place
last-same test other zero h = refl
last-same test other (suc n) h = rw (h n (omega arith), last-same test other n (λ i l. h i (omega arith)))

module _ (test : ℕ → Bool) (i : ℕ) (h : test i ≡ true) where
  abbrev but : ℕ → Bool
  but k = test k && not (eqb k i)

  below : last_place but i ≡ last_place test i
  below = last-same but test i λ k l. rw (ne_eqb k i (λ e. absurd (omega arith))) (and-true (test k))

  but-here : but i ≡ false
  but-here = rw (eq-eqb i i refl) (and-false (test i))

  but-there : (k : ℕ) → i < k → but k ≡ test k
  but-there k l = rw (ne_eqb k i (λ e. absurd (omega arith))) (and-true (test k))

  pub last-but-last : (n : ℕ) → i < n → last_place test n ≡ suc i → last_place but n ≡ last_place test i
  last-but-last zero l e = absurd (omega arith)
  last-but-last (suc n) l e = go (le_or_gt n i) (test n) refl (last-but-last n)
    where
      go :
          (n ≤ i) ⊎ (i < n) →
          (b : Bool) →
          test n ≡ b →
          (i < n → last_place test n ≡ suc i → last_place but n ≡ last_place test i) →
          last_place but (suc n) ≡ last_place test i
      go (inl m) b f ih = let z : n ≡ i = omega arith in rw z (last-earlier but i but-here ∙ below)
      go (inr m) true f ih = absurd (omega (arith, last-here test n f))
      go (inr m) false f ih = last-earlier but n (but-there n m ∙ f) ∙ ih m (sym (last-earlier test n f) ∙ e)

  pub last-but-other : (n : ℕ) → i < n → (last_place test n ≡ suc i → ⊥) → last_place but n ≡ last_place test n
  last-but-other zero l e = absurd (omega arith)
  last-but-other (suc n) l e = go (le_or_gt n i) (test n) refl (last-but-other n)
    where
      go :
          (n ≤ i) ⊎ (i < n) →
          (b : Bool) →
          test n ≡ b →
          (i < n → (last_place test n ≡ suc i → ⊥) → last_place but n ≡ last_place test n) →
          last_place but (suc n) ≡ last_place test (suc n)
      go (inl m) b f ih = let z : n ≡ i = omega arith in absurd (e (rw z (last-here test i h)))
      go (inr m) true f ih = last-here but n (but-there n m ∙ f) ∙ sym (last-here test n f)
      go (inr m) false f ih =
          last-earlier but n (but-there n m ∙ f) ∙ ih m (λ d. e (last-earlier test n f ∙ d)) ∙ sym (last-earlier test n f)
