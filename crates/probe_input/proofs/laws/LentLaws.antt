-- A list whose every place was set, and its front. Assumes nothing.
use Rattle.std.specs.Prelude.{ℕ, ◌+◌, ◌≤◌, ◌<◌, ◌≡◌, List, [], ◌∷◌, ◌++◌, map, length, set, take}
use Rattle.std.proofs.Common.{arith, ap, ◌∙◌, append-nil, drop_of_length-le}
use Rattle.std.proofs.lemmas.List.{length-map}
use Rattle.lists.specs.Lists.{rising, spliced}
use Rattle.lists.specs.Appending.{each_of}
use Rattle.lists.proofs.laws.SelectedLaws.{length-rising}
use Rattle.lists.proofs.laws.GivenLaws.{flat_map-one, front_of_rising}
use Rattle.lists.proofs.laws.AppendingLaws.{one_word, Appending, appending_starts, appending_length, appending_goes_on, appending_ends}

-- The first `i` places have what `f` gives for them.
abbrev pub Setting : (ℕ → ℕ) → List ℕ → List ℕ → ℕ → Type 0
Setting f before now i = Appending (λ j. f j ∷ []) (length before) before 0 i now i

module _ (f : ℕ → ℕ) where
  each_set : (n : ℕ) → each_of (λ j. f j ∷ []) n ≡ map f (rising 0 n)
  each_set n = flat_map-one f (rising 0 n)

  many : (n : ℕ) → length (map f (rising 0 n)) ≡ n
  many n = length-map (rising 0 n) f ∙ length-rising 0 n

  pub setting_starts : (before : List ℕ) → Setting f before before 0
  setting_starts before = appending_starts (λ j. f j ∷ []) (length before) before 0
      (omega (arith, ap (λ (t : List ℕ). length t) (each_set (length before)), many (length before)))

  module _ {before now : List ℕ} {i : ℕ} (S : Setting f before now i) where
    pub setting_length : length now ≡ length before
    setting_length = appending_length S

    pub setting_on : i < length now → (a : ℕ) → a ≡ f i → Setting f before (set now i a) (i + 1)
    setting_on l a e = appending_goes_on S (omega (arith, setting_length)) (rw e (one_word now i (f i) l))

    pub all_set : length now ≤ i → now ≡ map f (rising 0 (length before))
    all_set h =
        (appending_ends S (omega (arith, setting_length))).words_are
        ∙ ap (spliced before 0) (each_set (length before))
        ∙ ap (λ (t : List ℕ). map f (rising 0 (length before)) ++ t)
        (drop_of_length-le before {i = 0 + length (map f (rising 0 (length before)))} (omega (arith, many (length before))))
        ∙ append-nil (map f (rising 0 (length before)))

  -- What is lent of a list that was set has its places set.
  pub front-set : (list : List ℕ) (n m : ℕ) → list ≡ map f (rising 0 m) → n ≤ m → take n list ≡ map f (rising 0 n)
  front-set list n m e h = ap (λ (t : List ℕ). take n t) e ∙ front_of_rising f 0 n m h
