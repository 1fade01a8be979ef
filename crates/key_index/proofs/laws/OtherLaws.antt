-- The other place of a key: how it is found, and what it says of the places that hold the key. Assumes nothing.
use Rattle.std.specs.Prelude.{ℕ, suc, ◌+◌, ◌-◌, ◌≤◌, ◌<◌, ◌≡◌, refl, List, ◌⊎◌, Bool, true, false, not, ◌&&◌, cond, T, eqb, get_or}
use Rattle.std.proofs.Common.{arith, sym, ap, ◌∙◌, subst, inl, inr, eq-eqb, ne_eqb, eqb-true}
use Rattle.lists.proofs.laws.NumberLaws.{same_or_not, first_of, last_of, is_true, true-test}
use Rattle.key_index.specs.Places.{last_place}
use Rattle.key_index.proofs.laws.PlaceLaws.{last_within, last-passes, none_passes, last-but-last, last-but-other}
use Rattle.key_index.specs.Index.{key_at, holds, earlier_place, other_place}

-- Another place that holds the key of the place `suc i`.
abbrev other : List ℕ → ℕ → ℕ → Bool
other s i k = holds s (key_at s i) k && not (eqb k i)

-- The other place, by whether one is before.
by_before : (s : List ℕ) (n i : ℕ) (b : Bool) → eqb (earlier_place s (suc i)) 0 ≡ b
    → cond b (last_place (other s i) n) (earlier_place s (suc i)) ≡ other_place s n (suc i)
by_before s n i b e = ap (λ (c : Bool). cond c (last_place (other s i) n) (earlier_place s (suc i))) (sym e)

-- The other place of a key: the one before.
module _ (s : List ℕ) (n place before : ℕ) (h : 0 < place) (e : before ≡ earlier_place s place) where
  pub other_is_before : (before ≡ 0 → ⊥) → before ≡ other_place s n place
  other_is_before d = go (place - 1) (omega arith)
    where
      go : (i : ℕ) → place ≡ suc i → before ≡ other_place s n place
      go i f =
          let g : before ≡ earlier_place s (suc i) = e ∙ ap (earlier_place s) f in
          g
          ∙ by_before s n i false (ne_eqb (earlier_place s (suc i)) 0 (λ z. d (g ∙ z)))
          ∙ ap (other_place s n) (sym f)

  -- Where there is none before, the last, unless that is `place`.
  module _ (l : place ≤ n) (none : before ≡ 0) (last : ℕ) (last_is : last ≡ last_place (holds s (get_or s (511 + place) 0)) n) where
    at_place : (i : ℕ) → place ≡ suc i → last ≡ last_place (holds s (key_at s i)) n
    at_place i f = last_is ∙ ap (λ (k : ℕ). last_place (holds s (get_or s k 0)) n) (omega arith)

    held : (i : ℕ) → holds s (key_at s i) i ≡ true
    held i = eq-eqb (key_at s i) (key_at s i) refl

    from_last : (i : ℕ) → place ≡ suc i → last_place (other s i) n ≡ other_place s n place
    from_last i f =
        by_before s n i true (eq-eqb (earlier_place s (suc i)) 0 (sym (e ∙ ap (earlier_place s) f) ∙ none))
        ∙ ap (other_place s n) (sym f)

    pub other_is_last : (last ≡ place → ⊥) → last ≡ other_place s n place
    other_is_last d = go (place - 1) (omega arith)
      where
        go : (i : ℕ) → place ≡ suc i → last ≡ other_place s n place
        go i f =
            at_place i f
            ∙ sym (last-but-other (holds s (key_at s i)) i (held i) n (omega arith) (λ g. d (at_place i f ∙ g ∙ sym f)))
            ∙ from_last i f

    pub other_is_none : last ≡ place → 0 ≡ other_place s n place
    other_is_none d = go (place - 1) (omega arith)
      where
        go : (i : ℕ) → place ≡ suc i → 0 ≡ other_place s n place
        go i f =
            sym none
            ∙ e
            ∙ ap (earlier_place s) f
            ∙ sym (last-but-last (holds s (key_at s i)) i (held i) n (omega arith) (sym (at_place i f) ∙ d ∙ f))
            ∙ from_last i f

-- What the other place says of the key of the place `suc i`: another place holds it, or none does.
module _ (s : List ℕ) (n i : ℕ) (l : i < n) where
  pub other-within : other_place s n (suc i) ≤ n
  other-within = go (eqb (earlier_place s (suc i)) 0)
    where
      go : (b : Bool) → cond b (last_place (other s i) n) (earlier_place s (suc i)) ≤ n
      go true = last_within (other s i) n
      go false = omega (arith, last_within (holds s (key_at s i)) i)

  pub other-holds : (j : ℕ) → other_place s n (suc i) ≡ suc j → (j < n) × (j ≡ i → ⊥) × (key_at s j ≡ key_at s i)
  other-holds j = go (eqb (earlier_place s (suc i)) 0)
    where
      later : last_place (other s i) n ≡ suc j → (j < n) × (j ≡ i → ⊥) × (key_at s j ≡ key_at s i)
      later e =
          let t = true-test (other s i j) (last-passes (other s i) n j e)
          in (
            omega (arith, last_within (other s i) n),
            λ d. subst (λ (b : Bool). T (not b)) (eq-eqb j i d) (last_of (holds s (key_at s i) j) (not (eqb j i)) t),
            eqb-true (key_at s j) (key_at s i) (is_true (holds s (key_at s i) j) (first_of (holds s (key_at s i) j) (not (eqb j i)) t)),
          )

      go : (b : Bool) → cond b (last_place (other s i) n) (earlier_place s (suc i)) ≡ suc j → (j < n) × (j ≡ i → ⊥) × (key_at s j ≡ key_at s i)
      go true e = later e
      go false e = (
        omega (arith, last_within (holds s (key_at s i)) i),
        λ d. omega (arith, last_within (holds s (key_at s i)) i),
        eqb-true (key_at s j) (key_at s i) (last-passes (holds s (key_at s i)) i j e),
      )

  pub no_other_holds : other_place s n (suc i) ≡ 0 → (k : ℕ) → k < n → (k ≡ i → ⊥) → key_at s k ≡ key_at s i → ⊥
  no_other_holds e k h d f = none_passes (other s i) n (go (same_or_not (earlier_place s (suc i)) 0) e) k h (rw (eq-eqb (key_at s k) (key_at s i) f, ne_eqb k i d) refl)
    where
      go : (earlier_place s (suc i) ≡ 0) ⊎ (earlier_place s (suc i) ≡ 0 → ⊥) → other_place s n (suc i) ≡ 0 → last_place (other s i) n ≡ 0
      go (inl z) e = by_before s n i true (eq-eqb (earlier_place s (suc i)) 0 z) ∙ e
      go (inr z) e = absurd (z (by_before s n i false (ne_eqb (earlier_place s (suc i)) 0 z) ∙ e))
